use Rattle.std.proofs.Common.{ℕ, ◌≡◌, ◌<◌, ◌≤◌, length, option_map, None, Some}
use Rattle.cif_pieces.specs.Filled.{place}
use Rattle.cif_pieces.specs.Pieces.{piece_of}
use Rattle.cif_parts.specs.Running.{cycle_after}
use Rattle.cif_parts_examples.proofs.joined.joined_frame.Given as goal

abbrev pub invariant-loop-part : goal.invariant-loop-part
invariant-loop-part l = record {
  len : length l.slots ≡ l.plan.parts;
  filled : (q : ℕ) → q < l.part → place l.slots q ≡ Some (piece_of l.case.value (cycle_after (option_map (λ frame. frame.now) l.prior)) q l.plan.parts);
  empty : (q : ℕ) → l.part ≤ q → place l.slots q ≡ None;
}
