-- The one term stands for the cell's formula.
use Rattle.rule_select.proofs.SelectLaws.{select_terms_are}
use Rattle.rule_select.proofs.taint_terms.Goals as goal

pub returns : goal.returns
returns c = select_terms_are c.args.cell.now c.of.result _ c.of.ensures c.requires.covered c.requires.fitted c.in_ok-all_terms.ensures.stand
