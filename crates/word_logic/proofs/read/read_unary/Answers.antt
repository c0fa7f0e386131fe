use Rattle.word_logic.proofs.LogicCells.{unary_limits}
use Rattle.word_logic.proofs.read.read_unary.Goals as goal

pub width_of-from-requires : goal.width_of-from-requires
width_of-from-requires c = let l = unary_limits c.args.cell.now c.requires.unary c.requires.fitted in l.0

pub width_of-to-requires : goal.width_of-to-requires
width_of-to-requires c = let l = unary_limits c.args.cell.now c.requires.unary c.requires.fitted in l.1
