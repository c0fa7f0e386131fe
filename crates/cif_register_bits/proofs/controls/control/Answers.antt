use Rattle.cif_register_bits.proofs.ControlBits.{found_active}
use Rattle.cif_register_bits.proofs.controls.control.Goals as goal

pub returns : goal.returns
returns c = found_active c.number-polarity.result _ c.operand_bit-found.result _ _ _ _ c.operand_bit-found.ensures c.number-polarity.ensures c.is_active.ensures c.is_active-2.ensures c.is_active-3.ensures
