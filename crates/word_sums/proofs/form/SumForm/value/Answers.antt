use Rattle.std.proofs.Common.{sym, ap, ◌∙◌}
use Rattle.word_numbers.specs.HeldWords.{words_held}
use Rattle.word_numbers.specs.NarrowCells.{output_widths}
use Rattle.word_sums.proofs.FormLaws.{binary_narrow, neg_narrow, binary_value_is, covered_kind, is_neg_kind, neg_value_is}
use Rattle.word_sums.proofs.form.SumForm.value.Goals as goal

pub binary_value-requires-clause-kind : goal.binary_value-requires-clause-kind
binary_value-requires-clause-kind c = covered_kind c.args.self.now.kind c.args.self.now.covered (sym c.is_neg.ensures ∙ c.if-is_neg.false)

pub returns-then-is_neg-clause-words : goal.returns-then-is_neg-clause-words
returns-then-is_neg-clause-words c d i =
    ap (words_held (output_widths d)) c.one.ensures
    ∙ neg_value_is c.args.self.now d c.args.values.now c.neg_value.result (is_neg_kind c.args.self.now.kind (sym c.is_neg.ensures ∙ c.if-is_neg.true)) i c.neg_value.ensures.word

pub returns-clause-words : goal.returns-clause-words
returns-clause-words c d i =
    ap (words_held (output_widths d)) c.one-2.ensures
    ∙ binary_value_is c.args.self.now d c.args.values.now c.binary_value.result (covered_kind c.args.self.now.kind c.args.self.now.covered (sym c.is_neg.ensures ∙ c.if-is_neg.false)) i c.binary_value.ensures.word

pub returns-then-is_neg-clause-narrow : goal.returns-then-is_neg-clause-narrow
returns-then-is_neg-clause-narrow c d i =
    neg_narrow c.args.self.now d c.neg_value.result c.one.result (is_neg_kind c.args.self.now.kind (sym c.is_neg.ensures ∙ c.if-is_neg.true)) i c.one.ensures c.neg_value.ensures.fits

pub returns-clause-narrow : goal.returns-clause-narrow
returns-clause-narrow c d i =
    binary_narrow c.args.self.now d c.binary_value.result c.one-2.result (covered_kind c.args.self.now.kind c.args.self.now.covered (sym c.is_neg.ensures ∙ c.if-is_neg.false)) i c.one-2.ensures c.binary_value.ensures.fits
