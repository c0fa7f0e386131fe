use Rattle.cif_rules.proofs.CellFormulas.{cell_formulas}
use Rattle.rule_check.proofs.ExactRules.{formulas_exact}
use Rattle.rule_check.proofs.agree.rules_are_exact.Goals as goal

pub returns-clause-exact : goal.returns-clause-exact
returns-clause-exact c = formulas_exact

pub returns-clause-given : goal.returns-clause-given
returns-clause-given c = cell_formulas
