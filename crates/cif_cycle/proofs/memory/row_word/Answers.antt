use Rattle.std.proofs.Common.{◌∙◌, ◌+◌, ◌*◌, ap}
use Rattle.cif_defs.specs.Words.{bit, word, zeros}
use Rattle.cif_defs.specs.Cells.{shape_of, width}
use Rattle.cif_cycle.proofs.MemoryReads.{narrow_row, row_inside, row_outside}
use Rattle.cif_cycle.proofs.memory.row_word.Goals as goal

pub of-requires : goal.of-requires
of-requires c = narrow_row _ _ _ _ c.in_ok-bits-in-Some.ensures c.number-width.ensures c.requires.numbers.width_limit

pub returns-in_ok-bits-in-Some : goal.returns-in_ok-bits-in-Some
returns-in_ok-bits-in-Some c =
    row_inside (shape_of c.args.cell.now) c.args.address.now c.args.stored.now _ (c.in-Some.row * c.number.result) c.in-Some.ensures.0
    (ap (λ x. c.in-Some.row * x) c.number.ensures ∙ ap (λ x. x * width c.args.cell.now) c.in-Some.ensures.1)
    (c.of.ensures ∙ c.in_ok-bits-in-Some.ensures ∙ ap (λ n. word n (λ i. bit c.args.stored.now (c.in-Some.row * c.number.result + i))) c.number-width.ensures)

pub returns-in_ok-zeros-in-None : goal.returns-in_ok-zeros-in-None
returns-in_ok-zeros-in-None c =
    row_outside (shape_of c.args.cell.now) c.args.address.now c.args.stored.now _ c.in-None.ensures (c.in_ok-zeros-in-None.ensures ∙ ap zeros c.number-width.ensures)
