use Rattle.std.proofs.Common.{◌≡◌, drop}
use Rattle.cif_checks.specs.Checks.{first_fault}
use Rattle.cif_nets.specs.Clocks.{operand_fault}
use Rattle.cif_nets.proofs.clock.check_operands.Given as goal

abbrev pub invariant-loop-cell : goal.invariant-loop-cell
invariant-loop-cell l = first_fault (operand_fault l.number) (drop l.cell-index l.cells) ≡ first_fault (operand_fault l.number) l.cells
