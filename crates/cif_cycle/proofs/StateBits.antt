-- The bits of stored words.
use Rattle.std.specs.Prelude.{ℕ, ◌+◌, ◌≤◌, ◌≡◌, length, min}
use Rattle.std.proofs.Common.{arith, ap, sym, ◌∙◌, inl, inr}
use Rattle.std.proofs.lemmas.List.{get_or_past}
use Rattle.cif_defs.specs.Words.{Word, bit}
use Rattle.cif_defs.proofs.WordLaws.{le_or_lt}

-- a place past the greatest number of 64 bits lies past the end, and so does that number
pub saturated_bit : (w : Word) (at i j r size : ℕ) → size ≡ length w → size ≤ 18446744073709551615 → j ≡ i → r ≡ min (at + j) 18446744073709551615 → bit w r ≡ bit w (at + i)
saturated_bit w at i j r size e h q s = elim (le_or_lt r (length w)) [
  | inl l ↦ ap (λ k. bit w k) (omega arith)
  | inr l ↦ get_or_past w r _ (omega arith) ∙ sym (get_or_past w (at + i) _ (omega arith))
]
