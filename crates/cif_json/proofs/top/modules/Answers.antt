use Rattle.std.proofs.Common.{sym}
use Rattle.cif_json.proofs.TopLaws.{members_there}
use Rattle.cif_json.proofs.top.modules.Goals as goal

pub returns : goal.returns
returns c =
    rw (← c.in_ok-members.ensures, ← c.in_ok-take.ensures.value, ← c.in_ok-modules.ensures)
    (sym (members_there c.in_ok-modules.modules.entries _ c.is_empty.ensures.1 c.if-is_empty.false))
