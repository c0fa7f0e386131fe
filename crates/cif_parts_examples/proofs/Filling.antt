-- Pieces are put into their places, one part after another.
use Rattle.std.specs.Prelude.{ℕ, ◌+◌, ◌<◌, ◌≤◌, ◌≡◌, ◌≢◌, ◌⊎◌, List, length, get_or, slice_set, Option, Some, None}
use Rattle.std.proofs.Common.{arith, ap, sym, ◌∙◌, inl, inr, get_or-set_same, get_or-set_other}
use Rattle.cif_seq.specs.Cases.{CaseOf}
use Rattle.cif_pieces.specs.Filled.{place}
use Rattle.cif_pieces.specs.Pieces.{PieceOf, piece_of}

same_or_not : (i j : ℕ) → (i ≡ j) ⊎ (i ≢ j)
same_or_not i j = search arith

pub filled_more : (c : CaseOf) (k parts part : ℕ) (slots new : List (Option PieceOf)) → new ≡ slice_set slots part (Some (piece_of c k part parts)) → part < length slots → ((q : ℕ) → q < part → place slots q ≡ Some (piece_of c k q parts)) → (q : ℕ) → q < part + 1 → place new q ≡ Some (piece_of c k q parts)
filled_more c k parts part slots new e l h q m = ap (λ (xs : List (Option PieceOf)). place xs q) e ∙ elim (same_or_not q part) [
  | inl s ↦ ap (λ (i : ℕ). get_or (slice_set slots part (Some (piece_of c k part parts))) i None) s ∙ get_or-set_same slots part (Some (piece_of c k part parts)) None l ∙ ap (λ (i : ℕ). Some (piece_of c k i parts)) (sym s)
  | inr d ↦ get_or-set_other slots part q (Some (piece_of c k part parts)) None d ∙ h q (search arith)
]

pub empty_more : (part : ℕ) (piece : PieceOf) (slots new : List (Option PieceOf)) → new ≡ slice_set slots part (Some piece) → ((q : ℕ) → part ≤ q → place slots q ≡ None) → (q : ℕ) → part + 1 ≤ q → place new q ≡ None
empty_more part piece slots new e h q m = ap (λ (xs : List (Option PieceOf)). place xs q) e ∙ get_or-set_other slots part q (Some piece) None (λ s. absurd (omega arith)) ∙ h q (omega arith)
