use Rattle.cif_defs.specs.Words.{bit}
use Rattle.cif_ports.proofs.HeldOperands.{held_values, narrow_four}
use Rattle.cif_ports.proofs.operands.operand_values.Goals as goal

pub returns-clause-held : goal.returns-clause-held
returns-clause-held c = held_values (bit c.args.values.now) c.args.cell.now.operands _ _ _ _ c.requires.few c.operand_value.ensures.word c.operand_value-2.ensures.word c.operand_value-3.ensures.word c.operand_value-4.ensures.word

pub returns-clause-fits : goal.returns-clause-fits
returns-clause-fits c = narrow_four c.args.cell.now.operands _ c.operand_value.ensures.fits c.operand_value-2.ensures.fits c.operand_value-3.ensures.fits c.operand_value-4.ensures.fits
