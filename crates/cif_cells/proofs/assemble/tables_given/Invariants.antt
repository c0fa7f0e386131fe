use Rattle.std.proofs.Common.{◌≡◌, ◌++◌, drop}
use Rattle.cif_defs.specs.Accepted.{tables_of}
use Rattle.cif_kinds.specs.CellView.{digits_seen}
use Rattle.cif_cells.proofs.assemble.tables_given.Given as goal

abbrev pub invariant-loop-param : goal.invariant-loop-param
invariant-loop-param l = digits_seen l.tables.items ++ tables_of l.cell (drop l.param-index l.params) ≡ tables_of l.cell l.params
