use Rattle.std.proofs.Common.{ℕ, ◌≡◌, ◌<◌, ◌≤◌, None, length}
use Rattle.cif_pieces.specs.Filled.{cycle_here, place}
use Rattle.cif_parts.specs.Joining.{HoldPieces}
use Rattle.cif_parts.proofs.join.joined_pieces.Given as goal

abbrev pub invariant-loop-part : goal.invariant-loop-part
invariant-loop-part l = record {
  holds : HoldPieces l.case (cycle_here l.fn.slots) l.parts l.part l.joined;
  as_many : length l.slots ≡ length l.fn.slots;
  emptied : (q : ℕ) → q < l.part → place l.slots q ≡ None;
  full : (q : ℕ) → l.part ≤ q → place l.slots q ≡ place l.fn.slots q;
  some : 1 ≤ l.part;
}
