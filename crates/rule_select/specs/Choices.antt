-- A choice between two bits or words by one select bit: its taint, and the formulas of its value and of its taint.
use Rattle.std.specs.Prelude.{Bool, ◌||◌, if◌then◌else◌}
use Rattle.cif_defs.specs.Words.{xor}
use Rattle.cif_term.specs.Formulas.{Formula, Two, Choose}
use Rattle.cif_term.specs.declared.ops.Op2.TheVariants.{Or, Xor}

-- the taint of y where the select s is 1, else of x: where the select is tainted, that of both and of their difference
abbrev pub choice_taint : Bool → Bool → Bool → Bool → Bool → Bool → Bool
choice_taint x tx y ty s ts = if ts then tx || ty || xor x y else (if s then ty else tx)

-- the same of words: select and its taint, then value and taint of the part for 0, and of the part for 1
abbrev pub taint_choice : Formula → Formula → Formula → Formula → Formula → Formula → Formula
taint_choice s ts x tx y ty = Choose ts (Choose s tx ty) (Two Or (Two Or tx ty) (Two Xor x y))
