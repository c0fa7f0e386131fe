use Rattle.std.proofs.Common.{◌≡◌, drop}
use Rattle.std.specs.List.{flat_map}
use Rattle.cif_defs.specs.Table.{kind_of}
use Rattle.cif_defs.specs.declared.raw_module.RawCell.{RawCell}
use Rattle.cif_checks.specs.Checks.{register_numbers_by}
use Rattle.cif_nets.specs.Told.{told_all}
use Rattle.cif_nets.specs.Inits.{marked, named}
use Rattle.cif_nets.proofs.inits.mark_cells.Given as goal

abbrev pub invariant-loop-cell : goal.invariant-loop-cell
invariant-loop-cell l =
    told_all marked l.numbers l.marks (named (flat_map (λ (c : RawCell). register_numbers_by c (kind_of c.kind)) (drop l.cell-index l.cells)))
    ≡ told_all marked l.numbers l.initial.marks (named (flat_map (λ (c : RawCell). register_numbers_by c (kind_of c.kind)) l.cells))
