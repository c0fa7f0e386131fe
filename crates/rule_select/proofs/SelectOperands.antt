-- Operand words of given widths, and taint words that are known bit by bit.
use Rattle.std.specs.Prelude.{ℕ, zero, suc, ◌<◌, ◌≡◌, Bool, false, List, [], ◌∷◌, length, map, slice_get, Some, refl}
use Rattle.std.proofs.Common.{arith, sym, ap, ◌∙◌}
use Rattle.cif_defs.specs.Words.{Word, bit, word, operand}
use Rattle.cif_defs.specs.Kinds.{is_coarse}
use Rattle.cif_defs.specs.Cells.{Cell}
use Rattle.cif_defs.specs.Completions.{can_differ}
use Rattle.cif_defs.specs.Taint.{output_bit, output_taint}
use Rattle.cif_defs.proofs.WordLaws.{length-word, bit-word, same_words}
use Rattle.cif_defs.proofs.Numbers.{word-same}
use Rattle.cif_term.specs.CellTaints.{output_width, taint_word}
use Rattle.rule_select.proofs.DifferTests.{same_differ}

-- an operand is there, and as long as the widths say
operand_at : (vs : List Word) (p n : ℕ) → slice_get (map length vs) p ≡ Some n → (p < length vs) × (length (operand vs p) ≡ n)
operand_at [] p n e = absurd (cc)
operand_at (v ∷ vs) zero n e = (omega arith, cc)
operand_at (v ∷ vs) (suc p) n e = let r = operand_at vs p n e in let h : p < length vs = r.0 in (omega arith, r.1)

pub operand_by : (vs : List Word) (ws : List ℕ) (p n : ℕ) → map length vs ≡ ws → slice_get ws p ≡ Some n → (p < length vs) × (length (operand vs p) ≡ n)
operand_by vs ws p n e h = operand_at vs p n (ap (λ (us : List ℕ). slice_get us p) e ∙ h)

-- a word is the word of its bits
pub word_of_bits : (w : Word) (n : ℕ) → length w ≡ n → w ≡ word n (λ i. bit w i)
word_of_bits w n e = same_words w (word n (λ i. bit w i)) (e ∙ sym (length-word n (λ i. bit w i))) (λ i h. sym (bit-word n (λ k. bit w k) i false (omega arith)))

-- the taint word of what output p gives: at each place, whether it can differ
pub taint_by_bits : (c : Cell) (p n : ℕ) (f : ℕ → List Word → Bool) (rule : ℕ → Bool) (vs ts : List Word) → is_coarse c.kind ≡ false → output_width c p ≡ n
    → ((i : ℕ) (us : List Word) → i < n → output_bit c p i us ≡ f i us) → ((i : ℕ) → i < n → can_differ (f i) vs ts ≡ rule i) → word n rule ≡ taint_word c vs ts p
taint_by_bits c p n f rule vs ts fine e same can = word-same n rule (λ i. output_taint c p i vs ts) at_bit ∙ ap (λ k. word k (λ i. output_taint c p i vs ts)) (sym e)
  where
    by_test : (i : ℕ) → can_differ (output_bit c p i) vs ts ≡ output_taint c p i vs ts
    by_test i = rw fine refl

    at_bit : (i : ℕ) → i < n → rule i ≡ output_taint c p i vs ts
    at_bit i h = sym (can i h) ∙ same_differ (f i) (output_bit c p i) vs ts (λ us d. sym (same i us h)) ∙ by_test i

-- completions are as long as the values
same_lengths : (vs us : List Word) → length us ≡ length vs → ((p : ℕ) → length (operand us p) ≡ length (operand vs p)) → map length us ≡ map length vs
same_lengths [] [] e h = refl
same_lengths [] (u ∷ us) e h = absurd (let q : suc (length us) ≡ 0 = e in omega arith)
same_lengths (v ∷ vs) [] e h = absurd (let q : 0 ≡ suc (length vs) = e in omega arith)
same_lengths (v ∷ vs) (u ∷ us) e h =
    let rest : map length us ≡ map length vs = same_lengths vs us (let q : suc (length us) ≡ suc (length vs) = e in omega arith) (λ p. h (suc p)) in
    ap (λ k. k ∷ map length us) (h 0) ∙ ap (λ (ks : List ℕ). length v ∷ ks) rest

-- the same for words of the operands' widths alone
pub taint_of_completions : (c : Cell) (p n : ℕ) (f : ℕ → List Word → Bool) (vs ts : List Word) → is_coarse c.kind ≡ false → output_width c p ≡ n
    → ((us : List Word) → map length us ≡ map length vs → (i : ℕ) → i < n → output_bit c p i us ≡ f i us) → word n (λ i. can_differ (f i) vs ts) ≡ taint_word c vs ts p
taint_of_completions c p n f vs ts fine e same = word-same n (λ i. can_differ (f i) vs ts) (λ i. output_taint c p i vs ts) at_bit ∙ ap (λ k. word k (λ i. output_taint c p i vs ts)) (sym e)
  where
    by_test : (i : ℕ) → can_differ (output_bit c p i) vs ts ≡ output_taint c p i vs ts
    by_test i = rw fine refl

    at_bit : (i : ℕ) → i < n → can_differ (f i) vs ts ≡ output_taint c p i vs ts
    at_bit i h = same_differ (f i) (output_bit c p i) vs ts (λ us d. sym (same us (same_lengths vs us d.as_many (λ q. (d.each q).as_long)) i h)) ∙ by_test i
