use Rattle.cif_nets.proofs.NetLaws.{numbers_increase}
use Rattle.cif_cells.proofs.finding.wire_if.Goals as goal

pub sources-requires-clause-rising : goal.sources-requires-clause-rising
sources-requires-clause-rising c = numbers_increase c.args.nets.now c.numbers.result.now c.numbers.ensures.is
