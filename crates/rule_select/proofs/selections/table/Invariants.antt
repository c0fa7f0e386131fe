-- The digits so far.
use Rattle.std.specs.Prelude.{◌≡◌}
use Rattle.cif_defs.specs.declared.kinds.Param.TheVariants.{Lut}
use Rattle.cif_defs.specs.Cells.{digits_of}
use Rattle.cif_defs.specs.Words.{bit, word}
use Rattle.rule_select.proofs.selections.table.Given as goal

abbrev pub invariant-loop-place : goal.invariant-loop-place
invariant-loop-place l = l.bits.items ≡ word l.place (bit (digits_of l.cell Lut))
