use Rattle.std.proofs.Common.{◌≡◌, ◌++◌, drop}
use Rattle.std.specs.List.{AllByRecursion}
use Rattle.json.specs.Tree.{members_tokens}
use Rattle.serde_json.specs.Data.{object}
use Rattle.serde_json.specs.Written.{members_outline}
use Rattle.cif_json.specs.WrittenNetlist.{members_by, data_tokens}
use Rattle.cif_json.proofs.write.write_each.Given as goal

abbrev pub invariant-loop-thing : goal.invariant-loop-thing
invariant-loop-thing g l =
    (l.out.before ≡ l.fn.out.before)
    × (l.out.tokens ++ members_tokens (members_outline (members_by g.T.ToMember.name_of g.T.ToMember.data_of (drop l.thing-index l.things)))
    ≡ l.fn.out.tokens ++ data_tokens (object (members_by g.T.ToMember.name_of g.T.ToMember.data_of l.things)))
    × AllByRecursion g.T.ToMember.IsFit (drop l.thing-index l.things)
