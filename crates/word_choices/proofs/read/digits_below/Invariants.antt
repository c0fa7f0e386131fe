-- The digits read so far are those of the table below their place.
use Rattle.cif_defs.specs.Cells.{digits_of}
use Rattle.cif_defs.specs.Words.{bit, word}
use Rattle.cif_defs.specs.declared.kinds.Param.TheVariants.{Lut}
use Rattle.cif_bits.proofs.WordForms.{IsNumberBelow}
use Rattle.word_choices.proofs.read.digits_below.Given as goal

abbrev pub invariant-loop-place : goal.invariant-loop-place
invariant-loop-place l = IsNumberBelow (word l.count (bit (digits_of l.cell Lut))) l.place l.digits
