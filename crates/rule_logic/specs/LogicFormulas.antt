-- The formulas of the taint of bitwise, reducing and wiring kinds.
use Rattle.std.specs.Prelude.{ℕ, zero, suc, Bool, true, false}
use Rattle.std.specs.List.{range_with_len}
use Rattle.cif_defs.specs.Cells.{Cell, number_of, y_width, a_signed, both_signed}
use Rattle.cif_defs.specs.declared.kinds.Kind.{Kind}
use Rattle.cif_defs.specs.declared.kinds.Kind.TheVariants.{Not as NotKind, Pos, And as AndKind, Or as OrKind, Xor as XorKind, Xnor, ReduceAnd as ReduceAndKind, ReduceOr as ReduceOrKind, ReduceXor as ReduceXorKind, ReduceXnor, ReduceBool, LogicNot, LogicAnd, LogicOr, Concat, Slice, Fa}
use Rattle.cif_defs.specs.declared.kinds.Param.TheVariants.{AWidth, BWidth, Offset}
use Rattle.cif_term.specs.declared.ops.Op1.TheVariants.{Not, ReduceAnd, ReduceOr}
use Rattle.cif_term.specs.declared.ops.Op2.TheVariants.{And, Or}
use Rattle.cif_term.specs.Formulas.{Formula, Value, Taint, Pick, Join, One, Two}
use Rattle.cif_term.specs.Extended.{extended}

-- ---- which kinds

abbrev pub covers_logic : Kind → Bool
covers_logic NotKind = true
covers_logic Pos = true
covers_logic AndKind = true
covers_logic OrKind = true
covers_logic XorKind = true
covers_logic Xnor = true
covers_logic ReduceAndKind = true
covers_logic ReduceOrKind = true
covers_logic ReduceXorKind = true
covers_logic ReduceXnor = true
covers_logic ReduceBool = true
covers_logic LogicNot = true
covers_logic LogicAnd = true
covers_logic LogicOr = true
covers_logic Concat = true
covers_logic Slice = true
covers_logic Fa = true
covers_logic _ = false

-- the kinds with operand A alone, and those with A and B, that give Y
abbrev pub is_unary : Kind → Bool
is_unary NotKind = true
is_unary Pos = true
is_unary ReduceAndKind = true
is_unary ReduceOrKind = true
is_unary ReduceXorKind = true
is_unary ReduceXnor = true
is_unary ReduceBool = true
is_unary LogicNot = true
is_unary _ = false

abbrev pub is_binary : Kind → Bool
is_binary AndKind = true
is_binary OrKind = true
is_binary XorKind = true
is_binary Xnor = true
is_binary LogicAnd = true
is_binary LogicOr = true
is_binary _ = false

-- ---- bit by bit: x and y are operands, tx and ty their taints

-- a tainted bit shows where the other bit is 1 or tainted
abbrev pub and_formula : Formula → Formula → Formula → Formula → Formula
and_formula x tx y ty = Two Or (Two And tx ty) (Two Or (Two And tx y) (Two And ty x))

-- a tainted bit shows where the other bit is 0 or tainted
abbrev pub or_formula : Formula → Formula → Formula → Formula → Formula
or_formula x tx y ty = Two Or (Two And tx ty) (Two Or (Two And tx (One Not y)) (Two And ty (One Not x)))

abbrev pub either_formula : Formula → Formula → Formula
either_formula tx ty = Two Or tx ty

-- operand p of m bits, and its taint, extended to n bits
abbrev pub value_at : ℕ → Bool → ℕ → ℕ → Formula
value_at n signed m p = extended n signed m (Value p)

abbrev pub taint_at : ℕ → Bool → ℕ → ℕ → Formula
taint_at n signed m p = extended n signed m (Taint p)

-- ---- over all bits

-- an operand with its tainted bits set, and with them cleared
abbrev pub max_formula : ℕ → Formula
max_formula p = Two Or (Value p) (Taint p)

abbrev pub min_formula : ℕ → Formula
min_formula p = Two And (Value p) (One Not (Taint p))

-- what is 1 with all tainted bits set and 0 with all of them cleared
abbrev pub spread : Formula → Formula → Formula
spread high low = Two And high (One Not low)

-- one bit, and zeros above it, n bits in all
abbrev pub flag_formula : ℕ → Formula → Formula
flag_formula n f = extended n false 1 f

abbrev pub reduce_and_formula : Formula
reduce_and_formula = spread (One ReduceAnd (max_formula 0)) (One ReduceAnd (min_formula 0))

abbrev pub reduce_or_formula : Formula
reduce_or_formula = spread (One ReduceOr (max_formula 0)) (One ReduceOr (min_formula 0))

abbrev pub reduce_xor_formula : Formula
reduce_xor_formula = One ReduceOr (Taint 0)

abbrev pub logic_and_formula : Formula
logic_and_formula = spread (Two And (One ReduceOr (max_formula 0)) (One ReduceOr (max_formula 1))) (Two And (One ReduceOr (min_formula 0)) (One ReduceOr (min_formula 1)))

abbrev pub logic_or_formula : Formula
logic_or_formula = spread (Two Or (One ReduceOr (max_formula 0)) (One ReduceOr (max_formula 1))) (Two Or (One ReduceOr (min_formula 0)) (One ReduceOr (min_formula 1)))

-- ---- $fa

abbrev pub majority_formula : Formula → Formula → Formula → Formula
majority_formula x y z = Two Or (Two And x y) (Two And z (Two Or x y))

abbrev pub fa_carry_formula : Formula
fa_carry_formula = spread (majority_formula (max_formula 0) (max_formula 1) (max_formula 2)) (majority_formula (min_formula 0) (min_formula 1) (min_formula 2))

abbrev pub fa_sum_formula : Formula
fa_sum_formula = Two Or (Taint 0) (Two Or (Taint 1) (Taint 2))

abbrev pub fa_formula : ℕ → Formula
fa_formula zero = fa_carry_formula
fa_formula (suc p) = fa_sum_formula

-- ---- by kind

-- the width that a kind's operands are extended to is that of Y
abbrev pub binary_formula : (Formula → Formula → Formula → Formula → Formula) → Cell → Formula
binary_formula rule c = rule (value_at (y_width c) (both_signed c) (number_of c AWidth) 0) (taint_at (y_width c) (both_signed c) (number_of c AWidth) 0) (value_at (y_width c) (both_signed c) (number_of c BWidth) 1) (taint_at (y_width c) (both_signed c) (number_of c BWidth) 1)

abbrev pub either_taint_formula : Cell → Formula
either_taint_formula c = either_formula (taint_at (y_width c) (both_signed c) (number_of c AWidth) 0) (taint_at (y_width c) (both_signed c) (number_of c BWidth) 1)

unfoldable pub logic_by : Kind → Cell → ℕ → Formula
logic_by NotKind c p = taint_at (y_width c) (a_signed c) (number_of c AWidth) 0
logic_by Pos c p = taint_at (y_width c) (a_signed c) (number_of c AWidth) 0
logic_by AndKind c p = binary_formula and_formula c
logic_by OrKind c p = binary_formula or_formula c
logic_by XorKind c p = either_taint_formula c
logic_by Xnor c p = either_taint_formula c
logic_by ReduceAndKind c p = flag_formula (y_width c) reduce_and_formula
logic_by ReduceOrKind c p = flag_formula (y_width c) reduce_or_formula
logic_by ReduceBool c p = flag_formula (y_width c) reduce_or_formula
logic_by LogicNot c p = flag_formula (y_width c) reduce_or_formula
logic_by ReduceXorKind c p = flag_formula (y_width c) reduce_xor_formula
logic_by ReduceXnor c p = flag_formula (y_width c) reduce_xor_formula
logic_by LogicAnd c p = flag_formula (y_width c) logic_and_formula
logic_by LogicOr c p = flag_formula (y_width c) logic_or_formula
logic_by Concat c p = Join (Taint 0) (Taint 1)
logic_by Slice c p = Pick (Taint 0) (range_with_len (number_of c Offset) (y_width c))
logic_by Fa c p = fa_formula p
logic_by _ c p = Taint 0

-- the formula of the taint of output p
abbrev pub logic_formula : Cell → ℕ → Formula
logic_formula c p = logic_by c.kind c p
