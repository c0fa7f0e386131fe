use Rattle.std.proofs.Common.{◌≡◌, drop}
use Rattle.cif_checks.specs.Checks.{first_fault, operand_fault}
use Rattle.cif_nets.proofs.reads.check_operands.Given as goal

abbrev pub invariant-loop-port : goal.invariant-loop-port
invariant-loop-port l = first_fault (operand_fault l.nets l.cell) (drop l.port l.rows) ≡ first_fault (operand_fault l.nets l.cell) l.rows
