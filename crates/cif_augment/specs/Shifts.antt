-- The kinds that shift by the number at their second operand.
use Rattle.std.specs.Prelude.{Bool, true, false}
use Rattle.cif_defs.specs.declared.kinds.Kind.{Kind}
use Rattle.cif_defs.specs.declared.kinds.Kind.TheVariants.{Shl, Sshl, Shr, Sshr, Shift, Shiftx}

abbrev pub is_shift : Kind → Bool
is_shift Shl = true
is_shift Sshl = true
is_shift Shr = true
is_shift Sshr = true
is_shift Shift = true
is_shift Shiftx = true
is_shift _ = false
