-- Where no operand bit is tainted, the taint words are words of zeros.
use Rattle.std.proofs.Common.{sym, ◌∙◌}
use Rattle.cif_shapes.proofs.NoTaint.{from_test, words_are_zeros}
use Rattle.cif_shapes.proofs.rule.TaintRule.taint_if_any.Goals as goal

pub returns-then-not-is_tainted : goal.returns-then-not-is_tainted
returns-then-not-is_tainted c = words_are_zeros c.args.cell.now c.args.values.now c.args.taints.now (from_test c.args.taints.now (sym c.is_tainted.ensures ∙ c.if-not-is_tainted.true))
