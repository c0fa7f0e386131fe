use Rattle.std.proofs.Common.{◌∙◌}
use Rattle.cif_nets.proofs.NetLaws.{contradiction, single_step}
use Rattle.cif_nets.proofs.nets.check_single.Goals as goal
use Rattle.cif_nets.proofs.nets.check_single.Goals.{in-Several, in_default}

pub loop-place-preserved : goal.loop-place-preserved
loop-place-preserved c = elim c.match-matches.branch [
  | in-Several w ↦ contradiction c.match-matches.matches w.matches-is c.if-matches.false
  | in_default w ↦ single_step c.args.numbers.now c.args.drives.now c.loop-place.place _ c.loop-place-test.true c.requires w.in_default.not-Several ∙ c.loop-place.invariant
]
