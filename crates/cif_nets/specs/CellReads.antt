-- The bits that a cell reads, by the text of its type.
use Rattle.std.specs.Prelude.{Option}
use Rattle.cif_defs.specs.Table.{kind_of}
use Rattle.cif_defs.specs.declared.raw_module.RawCell.{RawCell}
use Rattle.cif_defs.specs.declared.raw_module.Raw.{Raw}
use Rattle.cif_checks.specs.Checks.{operands_fault_by}
use Rattle.cif_checks.specs.declared.fault.BuildFault.{BuildFault}

abbrev pub cell_reads : Raw → RawCell → Option BuildFault
cell_reads raw c = operands_fault_by raw c (kind_of c.kind)
