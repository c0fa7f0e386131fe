use Rattle.std.proofs.Common.{◌≡◌, ℕ, None, vec_len}
use Rattle.cif_pieces.specs.Filled.{place}
use Rattle.cif_pieces.proofs.slots.empty_places.Given as goal

abbrev pub invariant-loop-part : goal.invariant-loop-part
invariant-loop-part l = (vec_len l.places ≡ l._part) × ((part : ℕ) → place l.places.items part ≡ None)
