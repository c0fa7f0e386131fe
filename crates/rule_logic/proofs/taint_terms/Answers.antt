-- The terms of all outputs stand for the cell's formulas.
use Rattle.rule_logic.proofs.LogicOutputs.{logic_terms_are}
use Rattle.rule_logic.proofs.taint_terms.Goals as goal

pub returns : goal.returns
returns c = logic_terms_are c.args.cell.now c.of.result _ c.of.ensures c.requires.covered c.requires.fitted c.in_ok-all_terms.ensures.stand
