use Rattle.cif_nets.proofs.InitLaws.{digit_skipped, bit_skipped}
use Rattle.cif_nets.proofs.inits.record_bit.Goals as goal

pub returns-in_default-digit_of : goal.returns-in_default-digit_of
returns-in_default-digit_of c = digit_skipped c.args.value.now c.args.index c.in-Net.number c.args.bit c.args.numbers.now c.args.inits.now c.requires.same c.in-Net.is c.in_default-digit_of.ensures

pub returns-in_default : goal.returns-in_default
returns-in_default c = bit_skipped c.args.value.now c.args.index c.args.bit c.args.numbers.now c.args.inits.now c.requires.same c.in_default.not-Net
