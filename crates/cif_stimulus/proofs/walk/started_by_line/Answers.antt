use Rattle.std.proofs.Common.{sym, ap, ◌∙◌, ◌-◌, ◌/◌, ◌%◌}
use Rattle.cif_defs.specs.Words.{bit}
use Rattle.cif_stimulus.proofs.Starts.{row_hit, row_miss}
use Rattle.cif_stimulus.proofs.walk.started_by_line.Goals as goal

pub returns-then-index-width : goal.returns-then-index-width
returns-then-index-width c =
    row_hit c.args.line.now c.args.owner.now c.in-Mem.cell c.in-Mem.value c.in-Mem.taint c.in-Mem.address c.args.index c.args.given c.pair_of-then-index-width.result
    c.in-Mem.is
    c.requires
    (sym c.if-is_named-2.ensures)
    (ap (λ n. c.args.index / n) (sym c.number-width.ensures) ∙ c.if-index-width.true ∙ c.saturating_sub-row.ensures ∙ ap (λ n. c.in-Mem.address - n) c.number.ensures)
    (c.pair_of-then-index-width.ensures.value ∙ ap (λ n. bit c.in-Mem.value (c.args.index % n)) c.number-width.ensures)
    (c.pair_of-then-index-width.ensures.taint ∙ ap (λ n. bit c.in-Mem.taint (c.args.index % n)) c.number-width.ensures)

pub returns-else-index-width : goal.returns-else-index-width
returns-else-index-width c =
    row_miss c.args.line.now c.args.owner.now c.in-Mem.cell c.in-Mem.value c.in-Mem.taint c.in-Mem.address c.args.index c.args.given
    c.in-Mem.is
    c.requires
    (sym c.if-is_named-2.ensures)
    (λ e. c.if-index-width.false
    (ap (λ n. c.args.index / n) c.number-width.ensures ∙ e ∙ ap (λ n. c.in-Mem.address - n) (sym c.number.ensures) ∙ sym c.saturating_sub-row.ensures))
