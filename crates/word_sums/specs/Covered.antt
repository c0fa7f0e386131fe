-- The kinds whose words and taints are made here.
use Rattle.std.specs.Prelude.{Bool, true, false}
use Rattle.cif_defs.specs.declared.kinds.Kind.{Kind}
use Rattle.cif_defs.specs.declared.kinds.Kind.TheVariants.{Add, Sub, Neg, Mul, Div, Mod, DivFloor, ModFloor, Eq, Ne, Eqx, Nex, Lt, Le, Ge, Gt}

abbrev pub is_neg : Kind → Bool
is_neg Neg = true
is_neg _ = false

-- the kinds with operands A and B and the output Y
abbrev pub is_binary : Kind → Bool
is_binary Add = true
is_binary Sub = true
is_binary Mul = true
is_binary Div = true
is_binary Mod = true
is_binary DivFloor = true
is_binary ModFloor = true
is_binary Eq = true
is_binary Ne = true
is_binary Eqx = true
is_binary Nex = true
is_binary Lt = true
is_binary Le = true
is_binary Ge = true
is_binary Gt = true
is_binary _ = false

-- those and $neg
abbrev pub covers_numbers : Kind → Bool
covers_numbers Neg = true
covers_numbers k = is_binary k
