-- A kind that selects has one output.
use Rattle.std.proofs.Common.{sym}
use Rattle.rule_select.proofs.SelectLaws.{one_port}
use Rattle.rule_select.proofs.shadow.SelectShadowShadow.outputs.Goals as goal

pub returns : goal.returns
returns c = rw (← c.self.view_is) (sym (one_port c.self.inside.cell.now c.self.invariant.0))
