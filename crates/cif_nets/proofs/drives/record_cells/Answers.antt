use Rattle.std.proofs.Common.{refl, ◌∙◌}
use Rattle.cif_defs.specs.Table.{kind_of}
use Rattle.cif_defs.specs.Accepted.{driven_by_cells, driven_by_kind}
use Rattle.cif_defs.specs.declared.raw_module.RawCell.{RawCell}
use Rattle.cif_nets.specs.Drives.{driven_more}
use Rattle.cif_nets.proofs.DriveLaws.{told_step, told_done}
use Rattle.cif_nets.proofs.drives.record_cells.Goals as goal

pub loop-index-preserved : goal.loop-index-preserved
loop-index-preserved c =
    told_step driven_more driven_by_cells (λ i (x : RawCell). driven_by_kind i x (kind_of x.kind)) (λ _ _ _. refl)
    c.args.numbers.now c.loop-index.drives c.record_cell.new.drives c.args.cells.now c.loop-index.index _ _ c.loop-index-test.true c.index-cells-index.is c.record_cell.ensures ∙ c.loop-index.invariant

pub returns : goal.returns
returns c = told_done driven_more driven_by_cells (λ _. refl) c.args.numbers.now c.loop-index.drives _ c.args.cells.now c.loop-index.index c.loop-index-test.false (c.loop-index.auto.drives ∙ c.requires.same) c.loop-index.invariant
