use Rattle.std.proofs.Common.{◌≡◌}
use Rattle.serde_json.specs.View.{members_view}
use Rattle.cif_json.specs.WrongPlace.{each}
use Rattle.cif_json.proofs.Folds.{more_things}
use Rattle.cif_json.proofs.thing.read_each.Given as goal

abbrev pub invariant-loop-name : goal.invariant-loop-name
invariant-loop-name g l = each g.T.FromMember.reading (members_view l.fn.members.entries) ≡ more_things l.things.items (each g.T.FromMember.reading (members_view l.name-iterator))
