use Rattle.std.proofs.Common.{arith, ap, length}
use Rattle.cif_nets.proofs.reads.check_operand.Goals as goal

pub first_bad-requires : goal.first_bad-requires
first_bad-requires c = omega (arith, ap length c.requires.same, c.requires.few)
