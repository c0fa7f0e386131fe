use Rattle.std.proofs.Common.{◌≡◌, drop}
use Rattle.cif_defs.specs.Cells.{digits_in as digits_among}
use Rattle.cif_kinds.specs.CellView.{digits_seen}
use Rattle.cif_kinds.proofs.cell.digits_in.Given as goal

abbrev pub invariant-loop-given : goal.invariant-loop-given
invariant-loop-given l = digits_among (digits_seen (drop l.given-index l.digits)) l.param ≡ digits_among (digits_seen l.digits) l.param
