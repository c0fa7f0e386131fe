use Rattle.std.proofs.Common.{ℕ, List, refl, ap, ◌∙◌}
use Rattle.std.specs.List.{flat_map}
use Rattle.cif_defs.specs.Table.{kind_of}
use Rattle.cif_defs.specs.declared.raw_module.RawCell.{RawCell}
use Rattle.cif_checks.specs.Checks.{register_numbers_by}
use Rattle.cif_nets.specs.Told.{told_all}
use Rattle.cif_nets.specs.Inits.{marked, named}
use Rattle.cif_nets.proofs.InitLaws.{named-append, told_next, told_last}
use Rattle.cif_nets.proofs.inits.mark_cells.Goals as goal

abbrev numbers : RawCell → List ℕ
numbers x = register_numbers_by x (kind_of x.kind)

pub loop-cell-preserved : goal.loop-cell-preserved
loop-cell-preserved c =
    told_next marked (λ _ (xs : List RawCell). named (flat_map numbers xs)) (λ _ (x : RawCell). named (numbers x)) (λ _ x xs. named-append (numbers x) (flat_map numbers xs))
    c.args.numbers.now c.loop-cell.marks c.mark_bits.new.marks c.args.cells.now c.loop-cell.cell-index c.cell-item.result _ c.loop-cell-test.true c.cell-item.is
    (c.mark_bits.ensures ∙ ap (λ (xs : List ℕ). told_all marked c.args.numbers.now c.loop-cell.marks (named xs)) c.register_bits.ensures) ∙ c.loop-cell.invariant

pub returns : goal.returns
returns c =
    told_last marked (λ _ (xs : List RawCell). named (flat_map numbers xs)) (λ _. refl) c.args.numbers.now c.loop-cell.marks _ c.args.cells.now c.loop-cell.cell-index c.loop-cell-test.false (c.loop-cell.auto.marks ∙ c.requires.same) c.loop-cell.invariant
