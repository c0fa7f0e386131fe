use Rattle.std.proofs.Common.{rules, arith, ap, ◌∙◌, length, map}
use Rattle.rule_check.proofs.OperandWords.{widths_same, wrong_width}
use Rattle.rule_check.proofs.modules.are_operands.Goals as goal

pub returns-then-bits-items : goal.returns-then-bits-items
returns-then-bits-items c = (
  λ f. absurd (cc),
  λ e. absurd (wrong_width _ _ _ _ _ _ _ _ c.operands-operands.ensures c.loop-port-test.true c.if-words-operands.false c.bits.ensures.value c.index-words-port.is c.items.ensures c.index-operands-port.is c.if-bits-items.true e),
)

pub returns : goal.returns
returns c = (
  λ t. widths_same _ _ c.if-words-operands.false (λ k h. c.loop-port.invariant k (omega arith)) ∙ ap (map length) c.operands-operands.ensures,
  λ e. search rules,
)
