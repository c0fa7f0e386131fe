use Rattle.std.proofs.Common.{◌≡◌, map, filter, drop}
use Rattle.std.specs.List.{list_any}
use Rattle.cif_augment.specs.Refusals.{is_numbered_for}
use Rattle.cif_augment.proofs.taken.first_numbered.Given as goal

abbrev pub invariant-loop-thing : goal.invariant-loop-thing
invariant-loop-thing g l = filter (λ name. list_any (is_numbered_for name) l.cells) (map g.T.Named.name_of (drop l.thing-index l.things)) ≡ filter (λ name. list_any (is_numbered_for name) l.cells) (map g.T.Named.name_of l.things)
