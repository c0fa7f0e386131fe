use Rattle.cif_defs.specs.Words.{bit}
use Rattle.cif_register_bits.proofs.SourceBits.{operand_read}
use Rattle.cif_register_bits.proofs.sources.operand_bit.Goals as goal

pub returns : goal.returns
returns c =
    operand_read (bit c.args.values.now) (bit c.args.taints.now) c.args.cell.now.operands c.args.port c.args.index c.operand_sources-sources.result.now c.read_bit.result
    c.operand_sources-sources.ensures c.read_bit.ensures.value c.read_bit.ensures.taint
