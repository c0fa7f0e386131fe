use Rattle.std.proofs.Common.{◌≡◌, ◌++◌, drop}
use Rattle.std.specs.List.{AllByRecursion}
use Rattle.json.specs.Tree.{members_tokens}
use Rattle.serde_json.specs.Data.{object}
use Rattle.serde_json.specs.Written.{members_outline}
use Rattle.cif_json.specs.Writable.{IsConnectionWritable}
use Rattle.cif_json.specs.WrittenNetlist.{directions, data_tokens}
use Rattle.cif_json.proofs.write.write_directions.Given as goal

abbrev pub invariant-loop-connection : goal.invariant-loop-connection
invariant-loop-connection l =
    (l.out.before ≡ l.fn.out.before)
    × (l.out.tokens ++ members_tokens (members_outline (directions l.fn.kind (drop l.connection-index l.connections)))
    ≡ l.fn.out.tokens ++ data_tokens (object (directions l.fn.kind l.connections)))
    × AllByRecursion IsConnectionWritable (drop l.connection-index l.connections)
