use Rattle.std.proofs.Common.{rules, arith, []}
use Rattle.std.proofs.lemmas.List.{ext_get_or}
use Rattle.rule_check.proofs.agree.are_same.Goals as goal

pub returns : goal.returns
returns c = (
  λ t. ext_get_or [] c.args.first.now c.args.second.now c.if-first-second.false (λ k h. c.loop-index.invariant k (omega arith)),
  λ e. search rules,
)
