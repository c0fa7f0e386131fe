-- The kinds of cells that work on numbers.
use Rattle.std.specs.Prelude.{Bool, true, false, ◌||◌}
use Rattle.cif_defs.specs.Table.{is_arithmetic}
use Rattle.cif_defs.specs.declared.kinds.Kind.{Kind}
use Rattle.cif_defs.specs.declared.kinds.Kind.TheVariants.{Eq, Ne, Eqx, Nex}

-- whether both operands have the same number, of any width
abbrev pub is_equality : Kind → Bool
is_equality Eq = true
is_equality Ne = true
is_equality Eqx = true
is_equality Nex = true
is_equality _ = false

-- $add $sub $neg $mul $div $mod $divfloor $modfloor $alu $lt $le $ge $gt, and $eq $ne $eqx $nex
abbrev pub is_on_numbers : Kind → Bool
is_on_numbers k = is_arithmetic k || is_equality k
