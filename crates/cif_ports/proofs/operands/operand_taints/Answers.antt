use Rattle.cif_defs.specs.Words.{bit}
use Rattle.cif_ports.proofs.HeldOperands.{held_taints, narrow_four}
use Rattle.cif_ports.proofs.operands.operand_taints.Goals as goal

pub returns-clause-held : goal.returns-clause-held
returns-clause-held c = held_taints (bit c.args.taints.now) c.args.cell.now.operands _ _ _ _ c.requires.few c.operand_taint.ensures.word c.operand_taint-2.ensures.word c.operand_taint-3.ensures.word c.operand_taint-4.ensures.word

pub returns-clause-fits : goal.returns-clause-fits
returns-clause-fits c = narrow_four c.args.cell.now.operands _ c.operand_taint.ensures.fits c.operand_taint-2.ensures.fits c.operand_taint-3.ensures.fits c.operand_taint-4.ensures.fits
