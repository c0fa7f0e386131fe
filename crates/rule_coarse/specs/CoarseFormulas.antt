-- The formulas of the coarse taint of products and divisions.
use Rattle.std.specs.Prelude.{ℕ, ◌-◌, max, Bool, true, false, List, map, if◌then◌else◌}
use Rattle.std.specs.List.{range_with_len}
use Rattle.cif_defs.specs.Words.{Word, word, zeros}
use Rattle.cif_defs.specs.Cells.{Cell, number_of, y_width, both_signed}
use Rattle.cif_defs.specs.declared.kinds.Kind.{Kind}
use Rattle.cif_defs.specs.declared.kinds.Kind.TheVariants.{Mul as MulKind, Div as DivKind, Mod, DivFloor, ModFloor}
use Rattle.cif_defs.specs.declared.kinds.Param.TheVariants.{AWidth, BWidth}
use Rattle.cif_term.specs.declared.ops.Op1.TheVariants.{Not, ReduceOr}
use Rattle.cif_term.specs.declared.ops.Op2.TheVariants.{And, Or, Xor, Add, Div}
use Rattle.cif_term.specs.Formulas.{Formula, Taint, Const, Bound, Pick, One, Two, Choose, Let}
use Rattle.cif_term.specs.Extended.{extended}
use Rattle.rule_logic.specs.LogicFormulas.{max_formula, min_formula, value_at, taint_at}

-- ---- which kinds

abbrev pub covers_coarse : Kind → Bool
covers_coarse MulKind = true
covers_coarse DivKind = true
covers_coarse Mod = true
covers_coarse DivFloor = true
covers_coarse ModFloor = true
covers_coarse _ = false

-- ---- divisions: every bit or none

-- the one bit of f at each of n places
abbrev pub everywhere : ℕ → Formula → Formula
everywhere n f = extended n true 1 f

-- whether a bit of A or B is tainted, in one bit
abbrev pub any_taint : Formula
any_taint = Two Or (One ReduceOr (Taint 0)) (One ReduceOr (Taint 1))

-- whether B can be other than 0, in one bit
abbrev pub some_divisor : Formula
some_divisor = One ReduceOr (max_formula 1)

abbrev pub division_formula : ℕ → Formula
division_formula n = everywhere n (Two And any_taint some_divisor)

-- ---- products: every bit from the lowest tainted place on

abbrev pub ones : ℕ → Word
ones n = word n (λ i. true)

-- the places of f, which has n bits, that are 1 or have a 1 below them: f less 1 keeps the bits above the lowest 1, and
-- turns that bit and all below it
abbrev pub from_lowest : ℕ → Formula → Formula
from_lowest n f = Two Or f (One Not (Two Add f (Const (ones n))))

-- whether operand p of m bits, extended to n bits, can be other than 0, in one bit
abbrev pub some_factor : ℕ → Bool → ℕ → ℕ → Formula
some_factor n signed m p = One ReduceOr (Two Or (value_at n signed m p) (taint_at n signed m p))

-- over the width of Y, whether both operands are signed, and the widths of A and B
abbrev pub product_formula : ℕ → Bool → ℕ → ℕ → Formula
product_formula n signed a b =
    Two And (everywhere n (Two And (some_factor n signed a 0) (some_factor n signed b 1)))
    (from_lowest n (Two Or (taint_at n signed a 0) (taint_at n signed b 1)))

-- ---- unsigned quotients: every bit up to the highest place where the least and the largest quotient differ

-- operand p of k bits with its tainted bits cleared, and with them set, as a number of m bits
abbrev pub least : ℕ → ℕ → ℕ → Formula
least m k p = extended m false k (min_formula p)

abbrev pub largest : ℕ → ℕ → ℕ → Formula
largest m k p = extended m false k (max_formula p)

-- whether B can't be 0, in one bit
abbrev pub sure_divisor : Formula
sure_divisor = One ReduceOr (min_formula 1)

-- the least quotient, of m bits, where A and B have a and b bits
abbrev pub least_quotient : ℕ → ℕ → ℕ → Formula
least_quotient m a b = Choose sure_divisor (Const (zeros m)) (Two Div (least m a 0) (largest m b 1))

-- the largest quotient: A itself where B can be 0
abbrev pub largest_quotient : ℕ → ℕ → ℕ → Formula
largest_quotient m a b = Choose sure_divisor (largest m a 0) (Two Div (largest m a 0) (least m b 1))

-- the places of m bits from the highest down
abbrev pub places_down : ℕ → List ℕ
places_down m = map (λ i. m - 1 - i) (range_with_len 0 m)

abbrev pub turned : ℕ → Formula → Formula
turned m f = Pick f (places_down m)

-- the places of f, which has m bits, that are 1 or have a 1 above them
abbrev pub to_highest : ℕ → Formula → Formula
to_highest m f = Let (turned m f) (turned m (from_lowest m (Bound 0)))

-- over m bits, which hold A and B
abbrev pub differing : ℕ → ℕ → ℕ → Formula
differing m a b = to_highest m (Two Xor (least_quotient m a b) (largest_quotient m a b))

-- over the widths of Y, A and B
abbrev pub quotient_formula : ℕ → ℕ → ℕ → Formula
quotient_formula n a b = Two And (division_formula n) (extended n false (max a b) (differing (max a b) a b))

-- ---- by kind

abbrev pub div_formula : Cell → Formula
div_formula c = if both_signed c then division_formula (y_width c) else quotient_formula (y_width c) (number_of c AWidth) (number_of c BWidth)

unfoldable pub coarse_formula_by : Kind → Cell → Formula
coarse_formula_by MulKind c = product_formula (y_width c) (both_signed c) (number_of c AWidth) (number_of c BWidth)
coarse_formula_by DivKind c = div_formula c
coarse_formula_by Mod c = division_formula (y_width c)
coarse_formula_by DivFloor c = division_formula (y_width c)
coarse_formula_by ModFloor c = division_formula (y_width c)
coarse_formula_by _ c = Taint 0

-- the formula of the taint of a cell's one output
abbrev pub coarse_formula : Cell → Formula
coarse_formula c = coarse_formula_by c.kind c
