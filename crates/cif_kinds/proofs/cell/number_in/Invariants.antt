use Rattle.std.proofs.Common.{◌≡◌, drop}
use Rattle.cif_defs.specs.Cells.{number_in as number_among}
use Rattle.cif_kinds.specs.CellView.{numbers_seen}
use Rattle.cif_kinds.proofs.cell.number_in.Given as goal

abbrev pub invariant-loop-given : goal.invariant-loop-given
invariant-loop-given l = number_among (numbers_seen (drop l.given-index l.numbers)) l.param ≡ number_among (numbers_seen l.numbers) l.param
