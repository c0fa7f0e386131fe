use Rattle.word_sums.proofs.OrderLaws.{less_taint_is}
use Rattle.word_sums.proofs.orders.less_taint.Goals as goal

pub returns-clause-word : goal.returns-clause-word
returns-clause-word c =
    less_taint_is c.args.shape c.args.values c.args.taints c.larger_width-width.result c.flag.result c.ordered-first.result c.ordered-second.result c.order_differs.result
    c.args.shape.some_a c.args.shape.some_b c.args.shape.some_y c.larger_width-width.ensures.value
    (record { value = c.ordered-first.ensures.value; taint = c.ordered-first.ensures.taint; start = c.ordered-first.ensures.start })
    (record { value = c.ordered-second.ensures.value; taint = c.ordered-second.ensures.taint; start = c.ordered-second.ensures.start })
    c.order_differs.ensures c.flag.ensures.word
