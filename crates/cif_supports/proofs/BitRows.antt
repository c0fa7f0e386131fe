-- Output bits that read one bit of each operand depend on these bits alone.
use Rattle.std.specs.Prelude.{ℕ, ◌<◌, ◌≡◌, Bool, false, not, List}
use Rattle.std.proofs.Common.{sym, ap, ◌∙◌, inl, inr}
use Rattle.cif_defs.specs.Words.{Word, bit, word, extended_bit, operand}
use Rattle.cif_defs.specs.Cells.{Cell, a_signed, both_signed}
use Rattle.cif_defs.specs.Meanings.{not_word, pos_word}
use Rattle.cif_defs.proofs.WordLaws.{bit-word, le_or_lt, past_word}
use Rattle.cif_supports.specs.Supports.{extended_at, pair_at}
use Rattle.cif_supports.specs.Dependence.{AreAsLong, AgreeAt}
use Rattle.cif_supports.proofs.OperandBits.{agree_left, agree_right, same_extended}

-- bit i of two words by place
pub same_bit : (n : ℕ) (f g : ℕ → Bool) (i : ℕ) → (i < n → f i ≡ g i) → bit (word n f) i ≡ bit (word n g) i
same_bit n f g i h = elim (le_or_lt i n) [
  | inl l ↦ bit-word n f i false l ∙ h l ∙ sym (bit-word n g i false l)
  | inr l ↦ past_word n f i false l ∙ sym (past_word n g i false l)
]

-- ---- one operand, extended by its own sign

unary_same : (g : Bool → Bool) (n : ℕ) (c : Cell) (i : ℕ) (us ws : List Word) → AreAsLong c us → AreAsLong c ws → AgreeAt (extended_at (a_signed c) c 0 i) us ws
    → bit (word n (λ k. g (extended_bit (a_signed c) k (operand us 0)))) i ≡ bit (word n (λ k. g (extended_bit (a_signed c) k (operand ws 0)))) i
unary_same g n c i us ws e f h = same_bit n _ _ i (λ l. ap g (same_extended (a_signed c) c 0 i us ws e f h))

pub not_same : (n : ℕ) (c : Cell) (i : ℕ) (us ws : List Word) → AreAsLong c us → AreAsLong c ws → AgreeAt (extended_at (a_signed c) c 0 i) us ws
    → bit (not_word n (a_signed c) (operand us 0)) i ≡ bit (not_word n (a_signed c) (operand ws 0)) i
not_same n c i us ws e f h = unary_same not n c i us ws e f h

pub pos_same : (n : ℕ) (c : Cell) (i : ℕ) (us ws : List Word) → AreAsLong c us → AreAsLong c ws → AgreeAt (extended_at (a_signed c) c 0 i) us ws
    → bit (pos_word n (a_signed c) (operand us 0)) i ≡ bit (pos_word n (a_signed c) (operand ws 0)) i
pos_same n c i us ws e f h = unary_same (λ b. b) n c i us ws e f h

-- ---- two operands, extended by their common sign

-- bit i of a row that joins bit i of both operands
pub pair_same : (g : Bool → Bool → Bool) (n : ℕ) (c : Cell) (i : ℕ) (us ws : List Word) → AreAsLong c us → AreAsLong c ws → AgreeAt (pair_at c i) us ws
    → bit (word n (λ k. g (extended_bit (both_signed c) k (operand us 0)) (extended_bit (both_signed c) k (operand us 1)))) i
    ≡ bit (word n (λ k. g (extended_bit (both_signed c) k (operand ws 0)) (extended_bit (both_signed c) k (operand ws 1)))) i
pair_same g n c i us ws e f h = same_bit n _ _ i (λ l.
    let a : extended_bit (both_signed c) i (operand us 0) ≡ extended_bit (both_signed c) i (operand ws 0) = same_extended (both_signed c) c 0 i us ws e f (agree_left _ _ us ws h) in
    let b : extended_bit (both_signed c) i (operand us 1) ≡ extended_bit (both_signed c) i (operand ws 1) =
    same_extended (both_signed c) c 1 i us ws e f (agree_right (extended_at (both_signed c) c 0 i) (extended_at (both_signed c) c 1 i) us ws h) in
    cc)
