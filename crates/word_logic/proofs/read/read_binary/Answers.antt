use Rattle.word_logic.proofs.LogicCells.{binary_limits}
use Rattle.word_logic.proofs.read.read_binary.Goals as goal

pub width_of-from-requires : goal.width_of-from-requires
width_of-from-requires c = let l = binary_limits c.args.cell.now c.requires.binary c.requires.fitted in l.0

pub width_of-b_width-requires : goal.width_of-b_width-requires
width_of-b_width-requires c = let l = binary_limits c.args.cell.now c.requires.binary c.requires.fitted in l.1

pub width_of-to-requires : goal.width_of-to-requires
width_of-to-requires c = let l = binary_limits c.args.cell.now c.requires.binary c.requires.fitted in l.2
