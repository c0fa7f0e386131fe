use Rattle.word_logic.proofs.LogicCells.{slice_limits}
use Rattle.word_logic.proofs.read.read_slice.Goals as goal

pub width_of-a_width-requires : goal.width_of-a_width-requires
width_of-a_width-requires c = let l = slice_limits c.args.cell.now c.requires.kind c.requires.fitted in l.0

pub width_of-offset-requires : goal.width_of-offset-requires
width_of-offset-requires c = let l = slice_limits c.args.cell.now c.requires.kind c.requires.fitted in l.1

pub width_of-requires : goal.width_of-requires
width_of-requires c = let l = slice_limits c.args.cell.now c.requires.kind c.requires.fitted in l.2
