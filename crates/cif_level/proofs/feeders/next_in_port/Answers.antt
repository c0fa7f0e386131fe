use Rattle.std.proofs.Common.{◌∙◌, sym, refl}
use Rattle.cif_level.proofs.Searches.{skipped, passed, passed_to, feeds}
use Rattle.cif_level.proofs.feeders.next_in_port.Goals as goal

pub returns-then-not-counts-clause-none : goal.returns-then-not-counts-clause-none
returns-then-not-counts-clause-none c = λ e. skipped _ _ _ _ c.cell_data-data.result.now c.requires.before c.cell_data-data.ensures (sym c.counts.ensures ∙ c.if-not-counts.true)

pub returns-in_err-index-clause-none : goal.returns-in_err-index-clause-none
returns-in_err-index-clause-none c = λ e. passed _ _ _ _ c.cell_data-data.result.now c.operand.result.now c.requires.before c.cell_data-data.ensures (sym c.counts.ensures ∙ c.if-not-counts.false) c.operand.ensures (c.in_err-index.ensures.none refl)

pub returns-clause-first : goal.returns-clause-first
returns-clause-first c = passed_to _ _ _ _ _ c.cell_data-data.result.now c.operand.result.now c.requires.before c.cell_data-data.ensures (sym c.counts.ensures ∙ c.if-not-counts.false) c.operand.ensures c.in_ok-index.ensures.first

pub returns-clause-feeds : goal.returns-clause-feeds
returns-clause-feeds c = feeds _ _ _ _ _ c.cell_data-data.result.now c.operand.result.now c.cell_data-data.ensures (sym c.counts.ensures ∙ c.if-not-counts.false) c.operand.ensures c.in_ok-index.ensures.feeds
