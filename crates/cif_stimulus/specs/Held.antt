-- Words that lines give, by the numbers of the lines.
use Rattle.std.specs.Prelude.{ℕ, ◌≡◌, Bool, false, List, get_or, Option, Some, None}
use Rattle.std.specs.List.{list_any}
use Rattle.cif_defs.specs.Words.{bit}
use Rattle.cif_defs.specs.Stimulus.{TaintedWord, StimLine as LineData, unset, started_by, is_bit, reg_line, mem_line, release_line, cycle_line, set_line}
use Rattle.cif_defs.specs.Cells.{Cell}
use Rattle.cif_stimulus.specs.StimulusView.{tainted}
use Rattle.cif_stimulus.specs.declared.line.Pair.{Pair}
use Rattle.cif_stimulus.specs.declared.line.StimLine.{StimLine}
use Rattle.cif_stimulus.specs.declared.line.StimLine.TheVariants.{Reg, Mem, Release, Cycle, Set}

-- the word that a line sets, or that of a port that isn't set
abbrev pub word_set : StimLine → TaintedWord
word_set (Set port value taint) = tainted value taint
word_set (Reg cell value taint) = unset
word_set (Mem cell address value taint) = unset
word_set (Release name wire) = unset
word_set (Cycle k) = unset

-- the word that line number i sets
abbrev pub word_set_at : List StimLine → Option ℕ → TaintedWord
word_set_at lines None = unset
word_set_at lines (Some i) = word_set (get_or lines i (Cycle 0))

-- bit i of a word and of its taint
pub record HasBits (w : TaintedWord) (i : ℕ) (pair : Pair) : Type 0 where
  pub value : bit w.value i ≡ pair.value
  pub taint : bit w.taint i ≡ pair.taint

-- lines turn bit i of the word with which a cell starts from one pair into another
abbrev pub Starts : List LineData → Cell → ℕ → Pair → Pair → Type 0
Starts lines c i given pair = (w : TaintedWord) → HasBits w i given → HasBits (started_by lines c w) i pair

-- whether a line releases a net bit
abbrev pub releases_bit : ℕ → LineData → Bool
releases_bit b (release_line name bits) = list_any (is_bit b) bits
releases_bit b (reg_line name w) = false
releases_bit b (mem_line name address w) = false
releases_bit b (cycle_line k) = false
releases_bit b (set_line name w) = false
