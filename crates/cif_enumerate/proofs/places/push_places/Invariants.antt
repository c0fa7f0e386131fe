use Rattle.std.proofs.Common.{◌≡◌, ◌++◌, drop}
use Rattle.cif_enumerate.specs.TaintedPlaces.{places_in}
use Rattle.cif_enumerate.proofs.places.push_places.Given as goal

-- the places so far and those of the bits that are left are all
abbrev pub invariant-loop-index : goal.invariant-loop-index
invariant-loop-index l = l.places.items ++ places_in l.port l.index (drop l.index l.taint) ≡ l.initial.places.items ++ places_in l.port 0 l.taint
