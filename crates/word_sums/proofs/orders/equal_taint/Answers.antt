use Rattle.std.proofs.Common.{ap, ◌∙◌, ◌&&◌, ◌||◌}
use Rattle.word_sums.proofs.OrderLaws.{both_tainted, equal_taint_is}
use Rattle.word_sums.proofs.orders.equal_taint.Goals as goal

pub returns-clause-word : goal.returns-clause-word
returns-clause-word c =
    equal_taint_is c.args.shape c.args.values c.args.taints c.larger_width-width.result c.flag.result c.summand-first.result c.summand-second.result (c.meets.result && (c.has_one.result || c.has_one-2.result))
    c.args.shape.some_a c.args.shape.some_b c.args.shape.some_y c.larger_width-width.ensures.value
    (record { value = c.summand-first.ensures.value; taint = c.summand-first.ensures.taint; start = c.summand-first.ensures.start })
    (record { value = c.summand-second.ensures.value; taint = c.summand-second.ensures.taint; start = c.summand-second.ensures.start })
    (ap (λ m. m && (c.has_one.result || c.has_one-2.result)) c.meets.ensures
    ∙ both_tainted _ _ _ _ _ (c.has_one.ensures c.args.shape.a c.requires.taints.a) (c.has_one-2.ensures c.args.shape.b c.requires.taints.b))
    c.flag.ensures.word
