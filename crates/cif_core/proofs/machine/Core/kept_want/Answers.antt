use Rattle.std.proofs.Common.{◌≡◌, arith, get_or, None}
use Rattle.std.proofs.lemmas.Grind.{common_steps}
use Rattle.cif_core.proofs.Facts.{floor-match}
use Rattle.cif_core.proofs.machine.Core.kept_want.Goals as goal

pub returns-clause-above : goal.returns-clause-above
returns-clause-above g c =
    let w = c.index.ensures in
    let q = c.self.invariant.1.kept.sessions in
    let h : get_or c.self.inside.wants.items c.args.session None ≡ c.index.result.now = grind (arith, common_steps) in
    rw (← c.self.view_is) (floor-match c.self.inside.done c.self.inside.wants.items c.args.session _ h)
