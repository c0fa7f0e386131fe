use Rattle.std.proofs.Common.{◌∙◌, sym}
use Rattle.rule_check.proofs.ExactRules.{both_same}
use Rattle.rule_check.proofs.agree.agrees.Goals as goal

pub returns : goal.returns
returns c = c.are_same.ensures.1 (c.deref.ensures.value ∙ both_same _ _ _ _ _ c.requires.role c.requires.exact c.in_ok-by_rule.ensures c.in_ok-exact.ensures ∙ sym c.deref-2.ensures.value)
