use Rattle.std.specs.List.{flat_map}
use Rattle.cif_defs.specs.Table.{kind_of}
use Rattle.cif_defs.specs.declared.raw_module.RawCell.{RawCell}
use Rattle.cif_checks.specs.Checks.{register_numbers_by}
use Rattle.cif_nets.proofs.InitLaws.{all_marks_written}
use Rattle.cif_nets.proofs.inits.register_marks.Goals as goal

pub returns : goal.returns
returns c =
    all_marks_written c.args.numbers.now (flat_map (λ (x : RawCell). register_numbers_by x (kind_of x.kind)) c.args.cells.now) c.in_ok-marks.marks.items c.deref_mut.result.now c.mark_cells.new.marks c.in_ok-marks.marks.len
    (c.in_ok-marks.ensures.items_if_clones_equal (λ y h. h)) c.in_ok-marks.marks.ok.0 c.deref_mut.ensures.value c.mark_cells.ensures
