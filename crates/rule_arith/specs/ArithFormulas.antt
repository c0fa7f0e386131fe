-- The kinds whose terms are made here, and the formula of the taint of each output.
use Rattle.std.specs.Prelude.{ℕ, zero, suc, Bool, true, false, [], List, map, length}
use Rattle.std.specs.List.{range_with_len}
use Rattle.cif_defs.specs.Cells.{Cell}
use Rattle.cif_defs.specs.Table.{outputs_of}
use Rattle.cif_defs.specs.declared.kinds.Kind.{Kind}
use Rattle.cif_defs.specs.declared.kinds.Kind.TheVariants.{Neg, Add, Sub, Eq, Ne, Eqx, Nex, Lt, Le, Ge, Gt, Alu}
use Rattle.cif_term.specs.Formulas.{Formula, Const}
use Rattle.rule_arith.specs.AluFormulas.{alu_carry_taint, alu_sum_taint, alu_xor_taint}
use Rattle.rule_arith.specs.EqualFormulas.{equal_taint}
use Rattle.rule_arith.specs.OrderFormulas.{greater_taint, less_taint}
use Rattle.rule_arith.specs.SumFormulas.{add_taint, neg_taint, of_own, of_pair, sub_taint}

-- the kinds with operands A and B
abbrev pub is_pair : Kind → Bool
is_pair Add = true
is_pair Sub = true
is_pair Eq = true
is_pair Ne = true
is_pair Eqx = true
is_pair Nex = true
is_pair Lt = true
is_pair Le = true
is_pair Ge = true
is_pair Gt = true
is_pair Alu = true
is_pair _ = false

abbrev pub covers_arith : Kind → Bool
covers_arith Neg = true
covers_arith k = is_pair k

-- X, Y and CO
abbrev pub alu_formula : Cell → ℕ → Formula
alu_formula c zero = of_pair alu_xor_taint c
alu_formula c (suc zero) = of_pair alu_sum_taint c
alu_formula c (suc (suc p)) = of_pair alu_carry_taint c

unfoldable pub formula_by : Kind → Cell → ℕ → Formula
formula_by Add c p = of_pair add_taint c
formula_by Sub c p = of_pair sub_taint c
formula_by Neg c p = of_own neg_taint c
formula_by Lt c p = of_pair less_taint c
formula_by Ge c p = of_pair less_taint c
formula_by Gt c p = of_pair greater_taint c
formula_by Le c p = of_pair greater_taint c
formula_by Eq c p = of_pair equal_taint c
formula_by Ne c p = of_pair equal_taint c
formula_by Eqx c p = of_pair equal_taint c
formula_by Nex c p = of_pair equal_taint c
formula_by Alu c p = alu_formula c p
formula_by _ c p = Const []

-- the formula of the taint of output p
abbrev pub arith_formula : Cell → ℕ → Formula
arith_formula c p = formula_by c.kind c p

-- of all outputs
abbrev pub formulas_by : Kind → Cell → List Formula
formulas_by k c = map (formula_by k c) (range_with_len 0 (length (outputs_of k)))
