-- By its controls the register shows what it does.
use Rattle.cif_defs.specs.Words.{bit}
use Rattle.cif_defs.specs.Run.{operand_words}
use Rattle.cif_defs.specs.TaintRun.{operand_taints}
use Rattle.cif_cycle.proofs.RegisterWords.{shown_taint_is, shown_word_is}
use Rattle.cif_cycle.proofs.register.ShownBits.of.Goals as goal

pub returns-clause-value : goal.returns-clause-value
returns-clause-value c =
    let vs = operand_words (bit c.args.values.now) c.args.cell.now in
    let ts = operand_taints (bit c.args.taints.now) c.args.cell.now in
    shown_word_is c.args.cell.now vs ts c.of.result c.args.stored.value.now c.args.stored.taint.now (c.of.ensures.shown c.requires.role)

pub returns-clause-taint : goal.returns-clause-taint
returns-clause-taint c =
    let vs = operand_words (bit c.args.values.now) c.args.cell.now in
    let ts = operand_taints (bit c.args.taints.now) c.args.cell.now in
    shown_taint_is c.args.cell.now vs ts c.of.result c.args.stored.value.now c.args.stored.taint.now (c.of.ensures.shown c.requires.role) c.requires.value c.requires.taint
