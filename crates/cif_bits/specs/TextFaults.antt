-- When the reading of a word's text is refused.
use Rattle.std.specs.Prelude.{ℕ, ◌≡◌, List, position, Some}
use Rattle.cif_defs.specs.WordText.{is_no_digit}
use Rattle.cif_bits.specs.declared.faults.TextFault.{TextFault}
use Rattle.cif_bits.specs.declared.faults.TextFault.TheVariants.{BadDigit, Memory}

-- the place is that of the first byte that is no digit; want of memory says nothing of the text
abbrev pub IsFaultOf : List ℕ → TextFault → Type 0
IsFaultOf text (BadDigit place) = position is_no_digit text ≡ Some place
IsFaultOf text Memory = Unit {0}
