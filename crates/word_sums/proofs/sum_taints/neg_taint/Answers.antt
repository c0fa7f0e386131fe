use Rattle.word_sums.proofs.SumTaintLaws.{neg_taint_is}
use Rattle.word_sums.proofs.sum_taints.neg_taint.Goals as goal

pub returns-clause-word : goal.returns-clause-word
returns-clause-word c =
    neg_taint_is c.args.shape c.args.value c.args.taint c.summand-first.result c.complemented.result c.sum_taint.result c.args.shape.some_a
    (record { value = c.summand-first.ensures.value; taint = c.summand-first.ensures.taint; start = c.summand-first.ensures.start })
    (record { value = c.complemented.ensures.value; taint = c.complemented.ensures.taint; start = c.complemented.ensures.start })
    c.sum_taint.ensures.value
