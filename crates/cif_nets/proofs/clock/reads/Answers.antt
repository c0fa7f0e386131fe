use Rattle.std.proofs.Common.{ap, ◌∙◌}
use Rattle.cif_defs.specs.Table.{operands_of}
use Rattle.cif_checks.specs.Checks.{reads_number}
use Rattle.cif_checks.proofs.KnownCells.{joined_is}
use Rattle.cif_nets.proofs.clock.reads.Goals as goal

pub returns : goal.returns
returns c = c.ports_hold.ensures ∙ ap (reads_number c.args.number) (joined_is operands_of c.args.cell.now c.operands.result.now c.operands.ensures)
