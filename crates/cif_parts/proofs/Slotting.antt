-- Pieces are taken out of their places, one part after another.
use Rattle.std.specs.Prelude.{ℕ, ◌+◌, ◌<◌, ◌≤◌, ◌≡◌, ◌≢◌, ◌⊎◌, List, length, get_or, slice_set, Option, Some, None}
use Rattle.std.proofs.Common.{arith, ap, sym, ◌∙◌, inl, inr, subst, get_or-set_same, get_or-set_other}
use Rattle.std.proofs.lemmas.List.{get_or_past}
use Rattle.cif_defs.specs.Loop.{IsLevelled}
use Rattle.cif_defs.specs.Netlist.{IsWired}
use Rattle.cif_defs.proofs.WordLaws.{le_or_lt}
use Rattle.cif_seq.specs.Cases.{CaseOf, net_of}
use Rattle.cif_seq.specs.FrameView.{HoldsFrame}
use Rattle.cif_pieces.specs.Filled.{AllEmpty, place}
use Rattle.cif_pieces.specs.Pieces.{PieceOf, piece_of}
use Rattle.cif_pieces.specs.declared.piece.OwnedBits.{OwnedBits}
use Rattle.cif_parts.specs.Joining.{HoldPieces}
use Rattle.cif_parts.proofs.Joined.{holds_joined}

same_or_not : (i j : ℕ) → (i ≡ j) ⊎ (i ≢ j)
same_or_not i j = search arith

same_piece : (p q : PieceOf) → Some p ≡ Some q → p ≡ q
same_piece p q e = cc

-- ---- places

pub emptied_more : (slots new : List (Option PieceOf)) (part : ℕ) → new ≡ slice_set slots part None → part < length slots → ((q : ℕ) → q < part → place slots q ≡ None) → (q : ℕ) → q < part + 1 → place new q ≡ None
emptied_more slots new part e l h q m = ap (λ (xs : List (Option PieceOf)). place xs q) e ∙ elim (same_or_not q part) [
  | inl s ↦ ap (λ (i : ℕ). get_or (slice_set slots part None) i None) s ∙ get_or-set_same slots part None None l
  | inr d ↦ get_or-set_other slots part q None None d ∙ h q (omega arith)
]

pub full_more : (slots new old : List (Option PieceOf)) (part : ℕ) → new ≡ slice_set slots part None → ((q : ℕ) → part ≤ q → place slots q ≡ place old q) → (q : ℕ) → part + 1 ≤ q → place new q ≡ place old q
full_more slots new old part e h q m = ap (λ (xs : List (Option PieceOf)). place xs q) e ∙ get_or-set_other slots part q None None (λ s. absurd (omega arith)) ∙ h q (omega arith)

pub all_emptied : (slots old : List (Option PieceOf)) (part : ℕ) → length old ≤ part → ((q : ℕ) → q < part → place slots q ≡ None) → ((q : ℕ) → part ≤ q → place slots q ≡ place old q) → AllEmpty slots
all_emptied slots old part l h k = λ q. elim (le_or_lt q part) [
  | inl m ↦ h q m
  | inr m ↦ k q m ∙ get_or_past old q None (omega arith)
]

-- ---- pieces

pub pieces_more : (c : CaseOf) (k parts part : ℕ) (p : PieceOf) (o : Option PieceOf) (bits : OwnedBits) → o ≡ Some p → o ≡ Some (piece_of c k part parts) → HoldPieces c p.cycle p.parts (p.part + 1) bits → HoldPieces c k parts (part + 1) bits
pieces_more c k parts part p o bits e f h = subst (λ (x : PieceOf). HoldPieces c x.cycle x.parts (x.part + 1) bits) (same_piece p (piece_of c k part parts) (sym e ∙ f)) h

pub pieces_all : (c : CaseOf) (k parts total end : ℕ) (bits : OwnedBits) → parts ≡ total → total ≤ end → HoldPieces c k parts end bits → HoldPieces c k total total bits
pieces_all c k parts total end bits e l h = subst (λ (x : ℕ). HoldPieces c k x total bits) e (record { places = h.places; each = λ q m. h.each q (omega arith) })

pub frame_joined : (c d : CaseOf) (k parts cycle : ℕ) (bits : OwnedBits) → c ≡ d → cycle ≡ k → IsWired (net_of d) → IsLevelled (net_of d) d.order → 0 < parts → HoldPieces c k parts parts bits
    → HoldsFrame d cycle bits.values.items bits.taints.items bits.stored.values.items bits.stored.taints.items bits.stored.flags.items bits.due.items bits.inputs
frame_joined c d k parts cycle bits e ek w o some h = holds_joined d cycle parts bits w o some (subst (λ (x : CaseOf). HoldPieces x cycle parts parts bits) e (rw ek h))
