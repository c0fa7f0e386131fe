-- The words that a register stores next and shows, from their bits.
use Rattle.std.specs.Prelude.{ℕ, ◌≡◌, List, length}
use Rattle.std.proofs.Common.{sym, ◌∙◌}
use Rattle.cif_defs.specs.Words.{Word, bit, operand, word}
use Rattle.cif_defs.specs.Cells.{Cell, digits_of, next_word, reset_operand, shown_word, width}
use Rattle.cif_defs.specs.Taint.{next_register_taint, shown_taint}
use Rattle.cif_defs.proofs.Numbers.{word-same}
use Rattle.cif_defs.proofs.WordLaws.{length-word, word_done}
use Rattle.rule_state.proofs.BitWords.{word_of_bits}
use Rattle.cif_register_bits.specs.declared.controls.Controls.{Controls}
use Rattle.cif_register_bits.specs.Choices.{bit_with}
use Rattle.cif_register_bits.specs.Steering.{IsShownBy, shown_of}
use Rattle.cif_register_bits.proofs.SteeringLaws.{length-next_word, length-shown_word}

pub next_word_done : (c : Cell) (vs : List Word) (s : Word) (i : ℕ) (w : Word) → w ≡ word i (λ k. bit (next_word c vs s) k) → i ≡ width c → w ≡ next_word c vs s
next_word_done c vs s i w e h = word_done _ i (width c) w e h ∙ sym (word_of_bits (next_word c vs s) (width c) (length-next_word c vs s))

pub next_taint_done : (c : Cell) (vs ts : List Word) (s st : Word) (i : ℕ) (w : Word) → w ≡ word i (λ k. bit (next_register_taint c vs ts s st) k) → i ≡ width c → w ≡ next_register_taint c vs ts s st
next_taint_done c vs ts s st i w e h = word_done _ i (width c) w e h ∙ sym (word_of_bits (next_register_taint c vs ts s st) (width c) (length-word (width c) _))

pub shown_word_is : (c : Cell) (vs ts : List Word) (x : Controls) (s st : Word) → IsShownBy c vs ts x
    → word (width c) (λ i. (shown_of x (bit (digits_of c x.reset_value) i) (bit_with s st i)).value) ≡ shown_word c (bit (operand vs (reset_operand c.kind)) 0) s
shown_word_is c vs ts x s st h =
    word-same (width c) _ _ (λ i l. h.value s st i l) ∙ sym (word_of_bits (shown_word c (bit (operand vs (reset_operand c.kind)) 0) s) (width c) (length-shown_word c (bit (operand vs (reset_operand c.kind)) 0) s))

pub shown_taint_is : (c : Cell) (vs ts : List Word) (x : Controls) (s st : Word) → IsShownBy c vs ts x → length s ≡ width c → length st ≡ width c
    → word (width c) (λ i. (shown_of x (bit (digits_of c x.reset_value) i) (bit_with s st i)).taint) ≡ shown_taint c (operand vs (reset_operand c.kind)) (operand ts (reset_operand c.kind)) s st
shown_taint_is c vs ts x s st h k m =
    word-same (width c) _ _ (λ i l. h.taint s st i k m l)
    ∙ sym (word_of_bits (shown_taint c (operand vs (reset_operand c.kind)) (operand ts (reset_operand c.kind)) s st) (width c) (length-word (width c) _))
