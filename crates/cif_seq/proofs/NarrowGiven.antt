-- Narrow cells as the code evaluates them.
use Rattle.std.specs.Prelude.{ℕ, ◌≡◌, Bool, List, length, map}
use Rattle.std.proofs.Common.{ap, ◌∙◌}
use Rattle.cif_defs.specs.Words.{Word, bit, operand}
use Rattle.cif_defs.specs.Cells.{Cell, meaning}
use Rattle.cif_defs.specs.Fitted.{IsFitted}
use Rattle.cif_defs.specs.Run.{operand_words}
use Rattle.cif_defs.specs.TaintRun.{operand_taints}
use Rattle.cif_term.specs.CellTaints.{taint_words}
use Rattle.word_numbers.specs.HeldWords.{words_held}
use Rattle.word_numbers.specs.NarrowCells.{output_widths}
use Rattle.word_numbers.specs.declared.words.Words.{Words}

-- what its form gives, at the widths of its outputs
pub given_values : (x : Cell) (v : ℕ → Bool) (vs : List Word) (outs : List ℕ) (w : Words) → IsFitted x → outs ≡ map length x.outputs → vs ≡ operand_words v x → words_held (output_widths x) w ≡ meaning x vs → words_held outs w ≡ meaning x vs
given_values x v vs outs w fit eo ev h = ap (λ ns. words_held ns w) (eo ∙ fit.outputs) ∙ h

pub given_taints : (x y : Cell) (t : ℕ → Bool) (vs ts : List Word) (outs : List ℕ) (w : Words) → IsFitted x → x ≡ y → outs ≡ map length x.outputs → ts ≡ operand_taints t x → words_held (output_widths x) w ≡ taint_words x vs ts → (p i : ℕ) → bit (operand (words_held outs w) p) i ≡ bit (operand (taint_words y vs (operand_taints t y)) p) i
given_taints x y t vs ts outs w fit same eo et h = λ p i.
    ap (λ (ws : List Word). bit (operand ws p) i) (ap (λ ns. words_held ns w) (eo ∙ fit.outputs) ∙ h ∙ ap (λ (us : List Word). taint_words x vs us) et ∙ ap (λ (c : Cell). taint_words c vs (operand_taints t c)) same)
