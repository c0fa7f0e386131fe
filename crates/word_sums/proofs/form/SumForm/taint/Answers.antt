use Rattle.std.proofs.Common.{sym, ap, ◌∙◌}
use Rattle.word_numbers.specs.HeldWords.{words_held}
use Rattle.word_numbers.specs.NarrowCells.{output_widths}
use Rattle.word_sums.proofs.FormLaws.{binary_narrow, neg_narrow, binary_taint_is, covered_kind, is_neg_kind, neg_taint_means}
use Rattle.word_sums.proofs.form.SumForm.taint.Goals as goal

pub binary_taint-requires-clause-kind : goal.binary_taint-requires-clause-kind
binary_taint-requires-clause-kind c = covered_kind c.args.self.now.kind c.args.self.now.covered (sym c.is_neg.ensures ∙ c.if-is_neg.false)

pub returns-then-is_neg-clause-words : goal.returns-then-is_neg-clause-words
returns-then-is_neg-clause-words c d i =
    ap (words_held (output_widths d)) c.one.ensures
    ∙ neg_taint_means c.args.self.now d c.args.values.now c.args.taints.now c.neg_taint.result (is_neg_kind c.args.self.now.kind (sym c.is_neg.ensures ∙ c.if-is_neg.true)) i c.neg_taint.ensures.word

pub returns-clause-words : goal.returns-clause-words
returns-clause-words c d i =
    ap (words_held (output_widths d)) c.one-2.ensures
    ∙ binary_taint_is c.args.self.now d c.args.values.now c.args.taints.now c.binary_taint.result (covered_kind c.args.self.now.kind c.args.self.now.covered (sym c.is_neg.ensures ∙ c.if-is_neg.false)) i c.binary_taint.ensures.word

pub returns-then-is_neg-clause-narrow : goal.returns-then-is_neg-clause-narrow
returns-then-is_neg-clause-narrow c d i =
    neg_narrow c.args.self.now d c.neg_taint.result c.one.result (is_neg_kind c.args.self.now.kind (sym c.is_neg.ensures ∙ c.if-is_neg.true)) i c.one.ensures c.neg_taint.ensures.fits

pub returns-clause-narrow : goal.returns-clause-narrow
returns-clause-narrow c d i =
    binary_narrow c.args.self.now d c.binary_taint.result c.one-2.result (covered_kind c.args.self.now.kind c.args.self.now.covered (sym c.is_neg.ensures ∙ c.if-is_neg.false)) i c.one-2.ensures c.binary_taint.ensures.fits
