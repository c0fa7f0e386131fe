-- Each kind has its taint.
use Rattle.word_choices.specs.declared.form.SelectForm.TheVariants.{Mux, Pmux, Bmux, Demux, Lut, Left, Right, Signed, Offset, Indexed}
use Rattle.word_choices.proofs.FormLaws.{taint_as}
use Rattle.word_choices.proofs.form.staged_taint.Goals as goal

pub returns-in-Mux-clause-word : goal.returns-in-Mux-clause-word
returns-in-Mux-clause-word c = taint_as c.args.form (Mux c.in-Mux.width) c.args.values c.args.taints c.mux_taint.result c.in-Mux.is c.mux_taint.ensures.word

pub returns-in-Pmux-clause-word : goal.returns-in-Pmux-clause-word
returns-in-Pmux-clause-word c = taint_as c.args.form (Pmux c.in-Pmux.chain) c.args.values c.args.taints c.pmux_taint.result c.in-Pmux.is c.pmux_taint.ensures.word

pub returns-in-Bmux-clause-word : goal.returns-in-Bmux-clause-word
returns-in-Bmux-clause-word c = taint_as c.args.form (Bmux c.in-Bmux.blocks) c.args.values c.args.taints c.bmux_taint.result c.in-Bmux.is c.bmux_taint.ensures.word

pub returns-in-Demux-clause-word : goal.returns-in-Demux-clause-word
returns-in-Demux-clause-word c = taint_as c.args.form (Demux c.in-Demux.blocks) c.args.values c.args.taints c.demux_taint.result c.in-Demux.is c.demux_taint.ensures.word

pub returns-in-Lut-clause-word : goal.returns-in-Lut-clause-word
returns-in-Lut-clause-word c = taint_as c.args.form (Lut c.in-Lut.table) c.args.values c.args.taints c.lut_taint.result c.in-Lut.is c.lut_taint.ensures.word

pub returns-in-Left-clause-word : goal.returns-in-Left-clause-word
returns-in-Left-clause-word c = taint_as c.args.form (Left c.in-Left.shift) c.args.values c.args.taints c.left_taint.result c.in-Left.is c.left_taint.ensures.word

pub returns-in-Right-clause-word : goal.returns-in-Right-clause-word
returns-in-Right-clause-word c = taint_as c.args.form (Right c.in-Right.shift) c.args.values c.args.taints c.right_taint.result c.in-Right.is c.right_taint.ensures.word

pub returns-in-Signed-clause-word : goal.returns-in-Signed-clause-word
returns-in-Signed-clause-word c = taint_as c.args.form (Signed c.in-Signed.shift) c.args.values c.args.taints c.signed_taint.result c.in-Signed.is c.signed_taint.ensures.word

pub returns-in-Offset-clause-word : goal.returns-in-Offset-clause-word
returns-in-Offset-clause-word c = taint_as c.args.form (Offset c.in-Offset.shift) c.args.values c.args.taints c.offset_taint.result c.in-Offset.is c.offset_taint.ensures.word

pub returns-in-Indexed-clause-word : goal.returns-in-Indexed-clause-word
returns-in-Indexed-clause-word c = taint_as c.args.form (Indexed c.in-Indexed.shift) c.args.values c.args.taints c.indexed_taint.result c.in-Indexed.is c.indexed_taint.ensures.word
