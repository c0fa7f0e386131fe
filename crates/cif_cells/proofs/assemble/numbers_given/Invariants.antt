use Rattle.std.proofs.Common.{◌≡◌, ◌++◌, drop}
use Rattle.cif_defs.specs.Accepted.{numbers_of}
use Rattle.cif_kinds.specs.CellView.{numbers_seen}
use Rattle.cif_cells.proofs.assemble.numbers_given.Given as goal

abbrev pub invariant-loop-param : goal.invariant-loop-param
invariant-loop-param l = numbers_seen l.numbers.items ++ numbers_of l.cell (drop l.param-index l.params) ≡ numbers_of l.cell l.params
