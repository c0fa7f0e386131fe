use Rattle.word_logic.proofs.LogicCells.{fa_limit}
use Rattle.word_logic.proofs.read.read_adder.Goals as goal

pub width_of-requires : goal.width_of-requires
width_of-requires c = fa_limit c.args.cell.now c.requires.kind c.requires.fitted
