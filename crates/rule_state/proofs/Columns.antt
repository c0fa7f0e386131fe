-- A bit that reads one bit of each operand: whether it can differ is the truth table over those bits.
use Rattle.std.specs.Prelude.{ℕ, zero, suc, ◌<◌, ◌≡◌, Bool, false, List, [], ◌∷◌, map, length, get_or, refl}
use Rattle.std.proofs.Common.{arith, ◌∙◌}
use Rattle.std.proofs.lemmas.List.{length-map}
use Rattle.cif_defs.specs.Completions.{can_differ}
use Rattle.cif_defs.specs.Words.{Word, bit, operand}
use Rattle.cif_defs.proofs.Differ.{CanDiffer-from_test, test_from-CanDiffer}
use Rattle.cif_defs.proofs.Exact.{SameShape, bits_can_differ, bits_from_can_differ, can_differ_from_bits, column}
use Rattle.cif_term.proofs.ExactTaintWords.{same_tests}

-- the bits at these places, one of each operand
abbrev pub bits_at : List ℕ → List Word → List Bool
bits_at places us = column (map (λ k. (false, k)) places) us

pub bit-bits_at : (places : List ℕ) (us : List Word) (p : ℕ) → p < length places → bit (bits_at places us) p ≡ bit (operand us p) (get_or places p 0)
bit-bits_at [] us p h = absurd (omega arith)
bit-bits_at (k ∷ places) [] zero h = refl
bit-bits_at (k ∷ places) [] (suc p) h = bit-bits_at places [] p (omega arith)
bit-bits_at (k ∷ places) (u ∷ us) zero h = refl
bit-bits_at (k ∷ places) (u ∷ us) (suc p) h = bit-bits_at places us p (omega arith)

same_shape : (vs ts : List Word) → map length ts ≡ map length vs → SameShape vs ts
same_shape [] [] e = tt
same_shape [] (t ∷ ts) e = absurd (cc)
same_shape (v ∷ vs) [] e = absurd (cc)
same_shape (v ∷ vs) (t ∷ ts) e = (cc, same_shape vs ts (cc))

pub differs_by_bits : (f : List Word → Bool) (g : List Bool → Bool) (places : List ℕ) (vs ts : List Word) → length places ≡ length vs → map length ts ≡ map length vs
    → ((us : List Word) → f us ≡ g (bits_at places us)) → can_differ f vs ts ≡ bits_can_differ g (bits_at places vs) (bits_at places ts)
differs_by_bits f g places vs ts e s reads =
    let many : length (map (λ k. (false, k)) places) ≡ length vs = length-map places (λ k. (false, k)) ∙ e in
    same_tests _ _
    (λ h. bits_from_can_differ f g (map (λ k. (false, k)) places) vs ts many (same_shape vs ts s) (λ us c. reads us) (CanDiffer-from_test f vs ts h))
    (λ h. test_from-CanDiffer f vs ts (can_differ_from_bits f g (map (λ k. (false, k)) places) vs ts many (same_shape vs ts s) (λ us c. reads us) h))
