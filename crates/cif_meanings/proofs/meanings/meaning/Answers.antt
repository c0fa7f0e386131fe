use Rattle.std.proofs.Common.{rules, sym, ◌∙◌}
use Rattle.cif_meanings.proofs.PortLaws.{unary_ports, binary_ports, shift_ports, slice_ports, concat_ports, mux_ports, pmux_ports, bmux_ports, demux_ports, lut_ports, fa_ports}
use Rattle.cif_meanings.proofs.meanings.meaning.Goals as goal

pub unary_word-requires-clause-ports : goal.unary_word-requires-clause-ports
unary_word-requires-clause-ports c = unary_ports c.args.cell.now c.args.operands.now (search rules) c.requires.fitted c.requires.shape

pub binary_word-requires-clause-ports : goal.binary_word-requires-clause-ports
binary_word-requires-clause-ports c = binary_ports c.args.cell.now c.args.operands.now (search rules) c.requires.fitted c.requires.shape

pub shift_word-requires-clause-ports : goal.shift_word-requires-clause-ports
shift_word-requires-clause-ports c = shift_ports c.args.cell.now c.args.operands.now (search rules) c.requires.fitted c.requires.shape

pub slice_word-requires-clause-ports : goal.slice_word-requires-clause-ports
slice_word-requires-clause-ports c = slice_ports c.args.cell.now c.args.operands.now (sym c.kind.ensures ∙ c.in-Slice.is) c.requires.fitted c.requires.shape

pub concat_word-requires-clause-ports : goal.concat_word-requires-clause-ports
concat_word-requires-clause-ports c = concat_ports c.args.cell.now c.args.operands.now (sym c.kind.ensures ∙ c.in-Concat.is) c.requires.fitted c.requires.shape

pub mux_word-requires-clause-ports : goal.mux_word-requires-clause-ports
mux_word-requires-clause-ports c = mux_ports c.args.cell.now c.args.operands.now (sym c.kind.ensures ∙ c.in-Mux.is) c.requires.fitted c.requires.shape

pub pmux_word-requires-clause-ports : goal.pmux_word-requires-clause-ports
pmux_word-requires-clause-ports c = pmux_ports c.args.cell.now c.args.operands.now (sym c.kind.ensures ∙ c.in-Pmux.is) c.requires.fitted c.requires.shape

pub bmux_word-requires-clause-ports : goal.bmux_word-requires-clause-ports
bmux_word-requires-clause-ports c = bmux_ports c.args.cell.now c.args.operands.now (sym c.kind.ensures ∙ c.in-Bmux.is) c.requires.fitted c.requires.shape

pub demux_word-requires-clause-ports : goal.demux_word-requires-clause-ports
demux_word-requires-clause-ports c = demux_ports c.args.cell.now c.args.operands.now (sym c.kind.ensures ∙ c.in-Demux.is) c.requires.fitted c.requires.shape

pub lut_word-requires-clause-ports : goal.lut_word-requires-clause-ports
lut_word-requires-clause-ports c = lut_ports c.args.cell.now c.args.operands.now (sym c.kind.ensures ∙ c.in-Lut.is) c.requires.fitted c.requires.shape

pub fa_words-requires-clause-ports : goal.fa_words-requires-clause-ports
fa_words-requires-clause-ports c = fa_ports c.args.cell.now c.args.operands.now (sym c.kind.ensures ∙ c.in-Fa.is) c.requires.fitted c.requires.shape
