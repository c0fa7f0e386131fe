use Rattle.std.proofs.Common.{◌≡◌, ◌++◌}
use Rattle.serde_json.specs.View.{members_view}
use Rattle.cif_json.specs.Shape.{attributes_of}
use Rattle.cif_json.proofs.thing.attributes_of.Given as goal

abbrev pub invariant-loop-name : goal.invariant-loop-name
invariant-loop-name l = attributes_of (members_view l.fn.members.entries) ≡ l.attributes.items ++ attributes_of (members_view l.name-iterator)
