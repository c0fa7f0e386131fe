use Rattle.std.proofs.Common.{◌≡◌, true, rules}
use Rattle.cif_defs.specs.Words.{word_of}
use Rattle.word_logic.specs.Chances.{is_logic}
use Rattle.word_logic.proofs.TruthValues.{taint-logic}
use Rattle.word_logic.proofs.binary.binary_taint.Goals as goal

pub returns-in-LogicAnd-clause-word : goal.returns-in-LogicAnd-clause-word
returns-in-LogicAnd-clause-word c =
    let logic : is_logic c.args.kind ≡ true = search rules in
    taint-logic c.args.kind c.args.shown.now.to c.args.shown.now.signed c.logic_taint.result c.of-a.result c.of-b.result
    (word_of c.args.shown.now.from c.args.values.now.a) (word_of c.args.shown.now.from c.args.taints.now.a) (word_of c.args.b_width c.args.values.now.b) (word_of c.args.b_width c.args.taints.now.b) _
    logic c.of-a.ensures.possible c.of-a.ensures.certain c.of-b.ensures.possible c.of-b.ensures.certain c.logic_taint.ensures
    (c.flag.ensures.word c.args.shown.now.to c.requires.form.narrow.some_shown)
