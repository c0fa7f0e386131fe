use Rattle.std.proofs.Common.{◌≡◌, ◌<◌, ℕ}
use Rattle.cif_defs.specs.Words.{bit}
use Rattle.cif_defs.specs.Cells.{digits_of}
use Rattle.cif_defs.specs.declared.kinds.Param.TheVariants.{Lut}
use Rattle.cif_shapes.proofs.shape.has_table.Given as goal

abbrev pub invariant-loop-i : goal.invariant-loop-i
invariant-loop-i l = (k : ℕ) → k < l.i → bit l.digits k ≡ bit (digits_of l.cell Lut) k
