-- What is open of a truth value that is made of two.
use Rattle.std.specs.Prelude.{Bool, true, false, not, ◌&&◌, ◌||◌}
use Rattle.cif_defs.specs.declared.kinds.Kind.{Kind}
use Rattle.cif_defs.specs.declared.kinds.Kind.TheVariants.{LogicAnd, LogicOr}
use Rattle.word_logic.specs.declared.bounds.Chance.{Chance}

abbrev pub is_logic : Kind → Bool
is_logic LogicAnd = true
is_logic LogicOr = true
is_logic _ = false

-- whether it can be true, and need not
abbrev pub logic_open : Kind → Chance → Chance → Bool
logic_open LogicAnd a b = (a.possible && b.possible) && not (a.certain && b.certain)
logic_open LogicOr a b = (a.possible || b.possible) && not (a.certain || b.certain)
logic_open _ a b = false
