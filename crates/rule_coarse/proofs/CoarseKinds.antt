-- Each coarse kind in turn: its formula gives its taint, within its weight.
use Rattle.std.specs.Prelude.{◌≡◌, Bool, true, false, List, [], ◌∷◌, length, refl, if◌then◌else◌}
use Rattle.std.proofs.Common.{ap, ◌∙◌}
use Rattle.cif_defs.specs.Words.{Word}
use Rattle.cif_defs.specs.Kinds.{is_coarse}
use Rattle.cif_defs.specs.Cells.{Cell, both_signed, coarse_by, number_of, y_width}
use Rattle.cif_defs.specs.Table.{operands_of, outputs_of, width_limit}
use Rattle.cif_defs.specs.Fitted.{IsFitted}
use Rattle.cif_defs.specs.Weights.{weight, weight_by}
use Rattle.cif_defs.specs.declared.kinds.Kind.{Kind}
use Rattle.cif_defs.specs.declared.kinds.Kind.TheVariants.{Mul, Div, Mod, DivFloor, ModFloor}
use Rattle.cif_defs.specs.declared.kinds.Param.TheVariants.{AWidth, BWidth}
use Rattle.cif_term.specs.CellTaints.{AreTaintsOf}
use Rattle.cif_term.proofs.ExactTaintWords.{one_output}
use Rattle.rule_logic.proofs.LogicTaints.{IsRule}
use Rattle.rule_coarse.specs.CoarseFormulas.{coarse_formula, coarse_formula_by, covers_coarse, division_formula, quotient_formula}
use Rattle.rule_coarse.proofs.CoarseShapes.{IsNumeric, numeric}
use Rattle.rule_coarse.proofs.CoarseDivisions.{division_row, division_rule}
use Rattle.rule_coarse.proofs.CoarseProducts.{product_row, product_rule}
use Rattle.rule_coarse.proofs.CoarseQuotients.{quotient_row, quotient_rule}

-- ---- shapes

shape_by : (k : Kind) (c : Cell) → c.kind ≡ k → covers_coarse k ≡ true → IsFitted c → IsNumeric c
unfolding operands_of outputs_of width_limit
shape_by Mul c e h f = numeric c Mul e (λ q. absurd (cc)) refl refl refl refl refl f
shape_by Div c e h f = numeric c Div e (λ q. absurd (cc)) refl refl refl refl refl f
shape_by Mod c e h f = numeric c Mod e (λ q. absurd (cc)) refl refl refl refl refl f
shape_by DivFloor c e h f = numeric c DivFloor e (λ q. absurd (cc)) refl refl refl refl refl f
shape_by ModFloor c e h f = numeric c ModFloor e (λ q. absurd (cc)) refl refl refl refl refl f
shape_by _ c e h f = absurd (cc)

-- a cell of a coarse kind that fits the table of kinds
pub coarse_shape : (c : Cell) → covers_coarse c.kind ≡ true → IsFitted c → IsNumeric c
coarse_shape c h f = shape_by c.kind c refl h f

-- ---- rows and weights

mul_row : (c : Cell) → c.kind ≡ Mul → (vs ts : List Word) → coarse_by c.kind c vs ts ≡ product_row c vs ts
unfolding coarse_by
mul_row c k vs ts = ap (λ x. coarse_by x c vs ts) k

div_row : (c : Cell) (signed : Bool) → c.kind ≡ Div → both_signed c ≡ signed → (vs ts : List Word) → coarse_by c.kind c vs ts ≡ (if signed then division_row c vs ts else quotient_row c vs ts)
unfolding coarse_by
div_row c signed k s vs ts = ap (λ x. coarse_by x c vs ts) k ∙ ap (λ b. if b then division_row c vs ts else quotient_row c vs ts) s

mod_row : (c : Cell) → c.kind ≡ Mod → (vs ts : List Word) → coarse_by c.kind c vs ts ≡ division_row c vs ts
unfolding coarse_by
mod_row c k vs ts = ap (λ x. coarse_by x c vs ts) k

divfloor_row : (c : Cell) → c.kind ≡ DivFloor → (vs ts : List Word) → coarse_by c.kind c vs ts ≡ division_row c vs ts
unfolding coarse_by
divfloor_row c k vs ts = ap (λ x. coarse_by x c vs ts) k

modfloor_row : (c : Cell) → c.kind ≡ ModFloor → (vs ts : List Word) → coarse_by c.kind c vs ts ≡ division_row c vs ts
unfolding coarse_by
modfloor_row c k vs ts = ap (λ x. coarse_by x c vs ts) k

weight-mul : (c : Cell) → c.kind ≡ Mul → weight c ≡ 32
unfolding weight_by
weight-mul c k = ap (λ x. weight_by x c) k

weight-div : (c : Cell) → c.kind ≡ Div → weight c ≡ 80
unfolding weight_by
weight-div c k = ap (λ x. weight_by x c) k

weight-mod : (c : Cell) → c.kind ≡ Mod → weight c ≡ 80
unfolding weight_by
weight-mod c k = ap (λ x. weight_by x c) k

weight-divfloor : (c : Cell) → c.kind ≡ DivFloor → weight c ≡ 80
unfolding weight_by
weight-divfloor c k = ap (λ x. weight_by x c) k

weight-modfloor : (c : Cell) → c.kind ≡ ModFloor → weight c ≡ 80
unfolding weight_by
weight-modfloor c k = ap (λ x. weight_by x c) k

-- ---- $div: quotients where it is unsigned

div_is : (c : Cell) (signed : Bool) → both_signed c ≡ signed → c.kind ≡ Div → IsNumeric c
    → IsRule c (if signed then division_formula (y_width c) else quotient_formula (y_width c) (number_of c AWidth) (number_of c BWidth))
div_is c true s k u = division_rule c u (weight-div c k) (ap is_coarse k) (div_row c true k s)
div_is c false s k u = quotient_rule c u (weight-div c k) (ap is_coarse k) (div_row c false k s)

-- ---- all five

-- the formula of its kind is a cell's taint, within its weight
rule_by : (k : Kind) (c : Cell) → c.kind ≡ k → covers_coarse k ≡ true → IsNumeric c → IsRule c (coarse_formula_by k c)
unfolding coarse_formula_by
rule_by Mul c e h u = product_rule c u (weight-mul c e) (ap is_coarse e) (mul_row c e)
rule_by Div c e h u = div_is c (both_signed c) refl e u
rule_by Mod c e h u = division_rule c u (weight-mod c e) (ap is_coarse e) (mod_row c e)
rule_by DivFloor c e h u = division_rule c u (weight-divfloor c e) (ap is_coarse e) (divfloor_row c e)
rule_by ModFloor c e h u = division_rule c u (weight-modfloor c e) (ap is_coarse e) (modfloor_row c e)
rule_by _ c e h u = absurd (cc)

outputs_by : (k : Kind) → covers_coarse k ≡ true → length (outputs_of k) ≡ 1
unfolding outputs_of
outputs_by Mul h = refl
outputs_by Div h = refl
outputs_by Mod h = refl
outputs_by DivFloor h = refl
outputs_by ModFloor h = refl
outputs_by _ h = absurd (cc)

pub one_coarse_output : (c : Cell) → covers_coarse c.kind ≡ true → length (outputs_of c.kind) ≡ 1
one_coarse_output c h = outputs_by c.kind h

pub coarse_taints : (c : Cell) → covers_coarse c.kind ≡ true → IsFitted c → AreTaintsOf c (coarse_formula c ∷ [])
coarse_taints c h f = let r : IsRule c (coarse_formula c) = rule_by c.kind c refl h (coarse_shape c h f) in one_output c (coarse_formula c) (one_coarse_output c h) r.taint r.cost
