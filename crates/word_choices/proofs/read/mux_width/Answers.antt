use Rattle.word_choices.proofs.NarrowWidths.{mux_cell}
use Rattle.word_choices.proofs.read.mux_width.Goals as goal

pub narrow_number-requires : goal.narrow_number-requires
narrow_number-requires c = (mux_cell c.args.cell.now c.requires.fitted c.requires.narrow c.requires.kind).few
