use Rattle.word_sums.proofs.SumTaintLaws.{add_taint_is}
use Rattle.word_sums.proofs.sum_taints.add_taint.Goals as goal

pub returns-clause-word : goal.returns-clause-word
returns-clause-word c =
    add_taint_is c.args.shape c.args.values c.args.taints c.summand-first.result c.summand-second.result c.sum_taint.result c.args.shape.some_a c.args.shape.some_b
    (record { value = c.summand-first.ensures.value; taint = c.summand-first.ensures.taint; start = c.summand-first.ensures.start })
    (record { value = c.summand-second.ensures.value; taint = c.summand-second.ensures.taint; start = c.summand-second.ensures.start })
    c.sum_taint.ensures.value
