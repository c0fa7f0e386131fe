-- Lines added one after another.
use Rattle.std.specs.Prelude.{ℕ, ◌≡◌, not, true, List, ◌∷◌, length, reverse, is_some}
use Rattle.std.proofs.Common.{ap, ◌∙◌}
use Rattle.cif_defs.specs.Words.{digit, word_of}
use Rattle.cif_defs.proofs.WordLaws.{length-word}
use Rattle.cif_defs.specs.Stimulus.{Stimulus as StimulusData, StimLine as LineData, TaintedWord, reg_line, mem_line, release_line, cycle_line, set_line}
use Rattle.cif_defs.specs.declared.nets.Src.{Src}
use Rattle.cif_stimulus.specs.Places.{open_cycle, may_add}
use Rattle.cif_stimulus.specs.StimulusView.{Adds}
use Rattle.cif_stimulus.proofs.LineOrder.{reverse_push}
use Rattle.cif_cycle_examples.specs.Groups.{IsUnbegun, IsAt}

pub two_bits : (x : ℕ) → length (word_of 2 x) ≡ 2
two_bits x = length-word 2 (λ i. digit x i)

-- ---- where lines may stand

pub may_start_register : (s : StimulusData) (name : List ℕ) (w : TaintedWord) → IsUnbegun s → may_add s (reg_line name w) ≡ true
may_start_register s name w h = ap (λ o. not (is_some o)) h

pub may_start_memory : (s : StimulusData) (name : List ℕ) (address : ℕ) (w : TaintedWord) → IsUnbegun s → may_add s (mem_line name address w) ≡ true
may_start_memory s name address w h = ap (λ o. not (is_some o)) h

pub may_set : (s : StimulusData) (k : ℕ) (name : List ℕ) (w : TaintedWord) → IsAt k s → may_add s (set_line name w) ≡ true
may_set s k name w h = ap (λ o. is_some o) h

-- ---- what a line leaves

added : (old new : StimulusData) (line : LineData) → Adds old new line → open_cycle (reverse new.lines) ≡ open_cycle (line ∷ reverse old.lines)
added old new line h = ap (λ (s : StimulusData). open_cycle (reverse s.lines)) h ∙ ap open_cycle (reverse_push old.lines line)

pub after_register : (old new : StimulusData) (name : List ℕ) (w : TaintedWord) → Adds old new (reg_line name w) → IsUnbegun old → IsUnbegun new
after_register old new name w h unbegun = added old new (reg_line name w) h ∙ unbegun

pub after_memory : (old new : StimulusData) (name : List ℕ) (address : ℕ) (w : TaintedWord) → Adds old new (mem_line name address w) → IsUnbegun old → IsUnbegun new
after_memory old new name address w h unbegun = added old new (mem_line name address w) h ∙ unbegun

pub after_release : (old new : StimulusData) (name : List ℕ) (bits : List Src) → Adds old new (release_line name bits) → IsUnbegun old → IsUnbegun new
after_release old new name bits h unbegun = added old new (release_line name bits) h ∙ unbegun

pub after_cycle : (old new : StimulusData) (k : ℕ) → Adds old new (cycle_line k) → IsAt k new
after_cycle old new k h = added old new (cycle_line k) h
