-- The words and taints of a cell, from those of its form.
use Rattle.std.specs.Prelude.{ℕ, ◌^◌, ◌<◌, ◌≤◌, ◌≡◌, ◌≢◌, Bool, true, false, List, [], ◌∷◌, map, length, get_or, if◌then◌else◌, refl}
use Rattle.std.specs.List.{range_with_len}
use Rattle.std.proofs.Common.{arith, sym, ap, ◌∙◌, subst}
use Rattle.std.proofs.lemmas.Nat.{pow_pos}
use Rattle.cif_defs.specs.Cells.{Cell, a_signed, binary, both_signed, coarse_by, meaning, number_of, unary, words_by, y_width}
use Rattle.cif_defs.specs.Coarse.{division_taint, product_taint, quotient_taint}
use Rattle.cif_defs.specs.Fitted.{IsFitted, operand_widths, row_width}
use Rattle.cif_defs.specs.Kinds.{is_coarse}
use Rattle.cif_defs.specs.Meanings.{add_word, div_word, divfloor_word, eq_word, ge_word, gt_word, le_word, lt_word, mod_word, modfloor_word, mul_word, ne_word, neg_word, sub_word}
use Rattle.cif_defs.specs.Table.{a_row, b_row, operands_of, outputs_of, y_row}
use Rattle.cif_defs.specs.Words.{Word, word_of}
use Rattle.cif_defs.specs.declared.kinds.Kind.{Kind}
use Rattle.cif_defs.specs.declared.kinds.Kind.TheVariants.{Add, Sub, Neg, Mul, Div, Mod, DivFloor, ModFloor, Eq, Ne, Eqx, Nex, Lt, Le, Ge, Gt, Mem}
use Rattle.cif_defs.specs.declared.kinds.Param.TheVariants.{AWidth, BWidth}
use Rattle.cif_defs.proofs.WordLaws.{length-word}
use Rattle.cif_term.specs.CellTaints.{AreTaintsOf, IsTaintOf, output_width, taint_word, taint_words}
use Rattle.cif_term.specs.Formulas.{Formula, value_of}
use Rattle.rule_arith.specs.EqualFormulas.{equal_taint}
use Rattle.rule_arith.specs.OrderFormulas.{greater_taint, less_taint}
use Rattle.rule_arith.specs.SumFormulas.{add_taint, neg_taint, of_own, of_pair, sub_taint}
use Rattle.rule_arith.proofs.EqualTaints.{eq_taints, eqx_taints, ne_taints, nex_taints}
use Rattle.rule_arith.proofs.OrderTaints.{ge_taints, gt_taints, le_taints, lt_taints}
use Rattle.rule_arith.proofs.OwnTaints.{neg_taints}
use Rattle.rule_arith.proofs.SumTaints.{add_taints, sub_taints}
use Rattle.rule_coarse.proofs.CoarseShapes.{coarse_taint}
use Rattle.rule_logic.proofs.Shapes.{HasRows, has_rows}
use Rattle.word_numbers.specs.HeldWords.{AreNarrow, words_held}
use Rattle.word_numbers.specs.NarrowCells.{AreWithin128, IsNarrow, output_widths}
use Rattle.word_numbers.specs.declared.words.Words.{Words}
use Rattle.word_sums.specs.declared.form.SumForm.{SumForm}
use Rattle.word_sums.specs.declared.shape.Pair.{Pair}
use Rattle.word_sums.specs.declared.shape.Shape.{Shape}
use Rattle.word_sums.specs.CellForms.{IsFormOf, div_taint_of, taint_row, value_row}
use Rattle.word_sums.specs.CoarseWords.{division_taint_of, product_taint_of, quotient_taint_of}
use Rattle.word_sums.specs.Covered.{covers_numbers, is_binary, is_neg}
use Rattle.word_sums.specs.HeldForms.{IsHeldBy}
use Rattle.word_sums.specs.Operands.{pair_words, row_of, taint_of, taint_of_one}

-- ---- ports

-- a kind with operands A and B and the output Y
record IsBinaryKind (k : Kind) : Type 0 where
  operands : operands_of k ≡ a_row ∷ b_row ∷ []
  outputs : outputs_of k ≡ y_row ∷ []
  no_memory : k ≢ Mem
  no_neg : is_neg k ≡ false

binary_kind : (k : Kind) → is_binary k ≡ true → IsBinaryKind k
unfolding operands_of outputs_of
binary_kind Add h = record { operands = refl; outputs = refl; no_memory = λ e. cc; no_neg = refl }
binary_kind Sub h = record { operands = refl; outputs = refl; no_memory = λ e. cc; no_neg = refl }
binary_kind Mul h = record { operands = refl; outputs = refl; no_memory = λ e. cc; no_neg = refl }
binary_kind Div h = record { operands = refl; outputs = refl; no_memory = λ e. cc; no_neg = refl }
binary_kind Mod h = record { operands = refl; outputs = refl; no_memory = λ e. cc; no_neg = refl }
binary_kind DivFloor h = record { operands = refl; outputs = refl; no_memory = λ e. cc; no_neg = refl }
binary_kind ModFloor h = record { operands = refl; outputs = refl; no_memory = λ e. cc; no_neg = refl }
binary_kind Eq h = record { operands = refl; outputs = refl; no_memory = λ e. cc; no_neg = refl }
binary_kind Ne h = record { operands = refl; outputs = refl; no_memory = λ e. cc; no_neg = refl }
binary_kind Eqx h = record { operands = refl; outputs = refl; no_memory = λ e. cc; no_neg = refl }
binary_kind Nex h = record { operands = refl; outputs = refl; no_memory = λ e. cc; no_neg = refl }
binary_kind Lt h = record { operands = refl; outputs = refl; no_memory = λ e. cc; no_neg = refl }
binary_kind Le h = record { operands = refl; outputs = refl; no_memory = λ e. cc; no_neg = refl }
binary_kind Ge h = record { operands = refl; outputs = refl; no_memory = λ e. cc; no_neg = refl }
binary_kind Gt h = record { operands = refl; outputs = refl; no_memory = λ e. cc; no_neg = refl }
binary_kind _ h = absurd (cc)

pub binary_rows : (c : Cell) → is_binary c.kind ≡ true → IsFitted c → HasRows c (a_row ∷ b_row ∷ []) (y_row ∷ [])
binary_rows c h f = let k = binary_kind c.kind h in has_rows c c.kind (a_row ∷ b_row ∷ []) (y_row ∷ []) refl k.no_memory k.operands k.outputs f

pub neg_rows : (c : Cell) → c.kind ≡ Neg → IsFitted c → HasRows c (a_row ∷ []) (y_row ∷ [])
unfolding operands_of outputs_of
neg_rows c e f = has_rows c Neg (a_row ∷ []) (y_row ∷ []) e (λ q. absurd (cc)) refl refl f

pub covered_kind : (k : Kind) → covers_numbers k ≡ true → is_neg k ≡ false → is_binary k ≡ true
covered_kind Neg h n = absurd (cc)
covered_kind k h n = h

pub is_neg_kind : (k : Kind) → is_neg k ≡ true → k ≡ Neg
is_neg_kind Neg h = refl
is_neg_kind _ h = absurd (cc)

-- the least widths of a covered cell
pub record HasSome (c : Cell) : Type 0 where
  pub a : 1 ≤ number_of c AWidth
  pub b : is_neg c.kind ≡ false → 1 ≤ number_of c BWidth
  pub y : 1 ≤ y_width c

some_by : (c : Cell) (n : Bool) → is_neg c.kind ≡ n → covers_numbers c.kind ≡ true → IsFitted c → HasSome c
some_by c true e h f =
    let r : HasRows c (a_row ∷ []) (y_row ∷ []) = neg_rows c (is_neg_kind c.kind e) f in
    let i = r.within in let o = r.outputs_within in
    record { a = i.0.some; b = λ q. absurd (cc); y = o.0.some }
some_by c false e h f =
    let r : HasRows c (a_row ∷ b_row ∷ []) (y_row ∷ []) = binary_rows c (covered_kind c.kind h e) f in
    let i = r.within in let o = r.outputs_within in
    record { a = i.0.some; b = λ q. (let j = i.1 in j.0.some); y = o.0.some }

pub has_some : (c : Cell) → covers_numbers c.kind ≡ true → IsFitted c → HasSome c
has_some c h f = some_by c (is_neg c.kind) refl h f

-- ---- the shape of a cell with two operands

record IsShapeOf (c : Cell) (s : Shape) : Type 0 where
  a : s.a ≡ number_of c AWidth
  b : s.b ≡ number_of c BWidth
  y : s.y ≡ y_width c
  signed : s.signed ≡ both_signed c
  rows : HasRows c (a_row ∷ b_row ∷ []) (y_row ∷ [])

shape_of : (f : SumForm) (c : Cell) → is_binary c.kind ≡ true → IsFormOf f c → IsShapeOf c f.shape
shape_of f c h i =
    let k = binary_kind c.kind h in
    record { a = i.a; b = i.b k.no_neg; y = i.y; signed = i.signed ∙ ap (λ n. if n then a_signed c else both_signed c) k.no_neg; rows = binary_rows c h i.fitted }

-- the pair of numbers of A and B
abbrev pub pair_in : Words → Pair
pair_in w = record { a = w.a; b = w.b }

held_pair : (c : Cell) (s : Shape) (w : Words) → IsShapeOf c s → pair_words s (pair_in w) ≡ words_held (operand_widths c) w
held_pair c s w q =
    let r = q.rows in
    ap (λ n. word_of n w.a ∷ word_of s.b w.b ∷ []) q.a ∙ ap (λ n. word_of (number_of c AWidth) w.a ∷ word_of n w.b ∷ []) q.b ∙ sym (ap (λ ns. words_held ns w) r.widths)

held_one : (c : Cell) (n r : ℕ) → outputs_of c.kind ≡ y_row ∷ [] → n ≡ y_width c → words_held (output_widths c) (record { a = r; b = 0; c = 0; d = 0 }) ≡ word_of n r ∷ []
held_one c n r rows y = ap (λ rs. words_held (map (row_width c) rs) (record { a = r; b = 0; c = 0; d = 0 })) rows ∙ sym (ap (λ k. word_of k r ∷ []) y)

-- ---- values

row_is : (g : ℕ → Bool → Word → Word → Word) (c : Cell) (s : Shape) (x : Pair) → IsShapeOf c s → row_of g s x ∷ [] ≡ binary g c (pair_words s x)
row_is g c s x q = ap (λ n. g n s.signed (word_of s.a x.a) (word_of s.b x.b) ∷ []) q.y ∙ ap (λ b. g (y_width c) b (word_of s.a x.a) (word_of s.b x.b) ∷ []) q.signed

value_by : (k : Kind) (c : Cell) (s : Shape) (x : Pair) → is_binary k ≡ true → IsShapeOf c s → value_row k s x ∷ [] ≡ words_by k c (pair_words s x)
unfolding words_by value_row
value_by Add c s x h q = row_is add_word c s x q
value_by Sub c s x h q = row_is sub_word c s x q
value_by Mul c s x h q = row_is mul_word c s x q
value_by Div c s x h q = row_is div_word c s x q
value_by Mod c s x h q = row_is mod_word c s x q
value_by DivFloor c s x h q = row_is divfloor_word c s x q
value_by ModFloor c s x h q = row_is modfloor_word c s x q
value_by Eq c s x h q = row_is eq_word c s x q
value_by Ne c s x h q = row_is ne_word c s x q
value_by Eqx c s x h q = row_is eq_word c s x q
value_by Nex c s x h q = row_is ne_word c s x q
value_by Lt c s x h q = row_is lt_word c s x q
value_by Le c s x h q = row_is le_word c s x q
value_by Ge c s x h q = row_is ge_word c s x q
value_by Gt c s x h q = row_is gt_word c s x q
value_by _ c s x h q = absurd (cc)

pub binary_value_is : (f : SumForm) (c : Cell) (w : Words) (r : ℕ) → is_binary f.kind ≡ true → IsFormOf f c → word_of f.shape.y r ≡ value_row f.kind f.shape (pair_in w)
    → words_held (output_widths c) (record { a = r; b = 0; c = 0; d = 0 }) ≡ meaning c (words_held (operand_widths c) w)
binary_value_is f c w r h i e =
    let q = shape_of f c (sym (ap is_binary i.kind) ∙ h) i in
    let rows = q.rows in
    held_one c f.shape.y r rows.output_rows i.y ∙ ap (λ (x : Word). x ∷ []) e ∙ value_by f.kind c f.shape (pair_in w) h q
    ∙ ap (λ k. words_by k c (pair_words f.shape (pair_in w))) i.kind ∙ ap (words_by c.kind c) (held_pair c f.shape w q)

-- ---- taints

fits_pair : (c : Cell) (s : Shape) (x : Pair) → IsShapeOf c s → map length (pair_words s x) ≡ operand_widths c
fits_pair c s x q =
    let r = q.rows in
    ap (λ n. n ∷ length (word_of s.b x.b) ∷ []) (length-word s.a _ ∙ q.a) ∙ ap (λ n. number_of c AWidth ∷ n ∷ []) (length-word s.b _ ∙ q.b) ∙ sym r.widths

formula_is : (g : ℕ → Bool → ℕ → ℕ → Formula) (c : Cell) (s : Shape) (vs ts : List Word) → IsShapeOf c s → value_of (g s.y s.signed s.a s.b) vs ts [] ≡ value_of (of_pair g c) vs ts []
formula_is g c s vs ts q =
    ap (λ n. value_of (g n s.signed s.a s.b) vs ts []) q.y ∙ ap (λ b. value_of (g (y_width c) b s.a s.b) vs ts []) q.signed
    ∙ ap (λ n. value_of (g (y_width c) (both_signed c) n s.b) vs ts []) q.a ∙ ap (λ n. value_of (g (y_width c) (both_signed c) (number_of c AWidth) n) vs ts []) q.b

arith_is : (g : ℕ → Bool → ℕ → ℕ → Formula) (c : Cell) (s : Shape) (v t : Pair) → IsShapeOf c s → AreTaintsOf c (of_pair g c ∷ []) → taint_of g s v t ≡ taint_word c (pair_words s v) (pair_words s t) 0
unfolding taint_of
arith_is g c s v t q is =
    let first : IsTaintOf c 0 (of_pair g c) = is.each 0 (omega arith) in
    formula_is g c s (pair_words s v) (pair_words s t) q ∙ first.means (pair_words s v) (pair_words s t) (fits_pair c s v q) (fits_pair c s t q)

one_width : (c : Cell) (s : Shape) → IsShapeOf c s → s.y ≡ output_width c 0
one_width c s q = let r = q.rows in q.y ∙ sym (ap (λ rs. get_or (map (row_width c) rs) 0 0) r.output_rows)

coarse_is : (c : Cell) (s : Shape) (v t : Pair) (w : Word) → IsShapeOf c s → is_coarse c.kind ≡ true → coarse_by c.kind c (pair_words s v) (pair_words s t) ≡ w → length w ≡ s.y → w ≡ taint_word c (pair_words s v) (pair_words s t) 0
coarse_is c s v t w q h e l = coarse_taint c (pair_words s v) (pair_words s t) w h e (l ∙ one_width c s q)

long_division : (s : Shape) (v t : Pair) → length (division_taint_of s v t) ≡ s.y
unfolding division_taint_of
long_division s v t = length-word s.y _

long_product : (s : Shape) (v t : Pair) → length (product_taint_of s v t) ≡ s.y
unfolding product_taint_of
long_product s v t = length-word s.y _

long_quotient : (s : Shape) (v t : Pair) → length (quotient_taint_of s v t) ≡ s.y
unfolding quotient_taint_of
long_quotient s v t = length-word s.y _

mul_row : (c : Cell) (s : Shape) (v t : Pair) → IsShapeOf c s → coarse_by Mul c (pair_words s v) (pair_words s t) ≡ product_taint_of s v t
unfolding coarse_by product_taint_of
mul_row c s v t q =
    sym (ap (λ n. product_taint n s.signed (word_of s.a v.a) (word_of s.a t.a) (word_of s.b v.b) (word_of s.b t.b)) q.y
    ∙ ap (λ b. product_taint (y_width c) b (word_of s.a v.a) (word_of s.a t.a) (word_of s.b v.b) (word_of s.b t.b)) q.signed)

division_row : (c : Cell) (s : Shape) (v t : Pair) → IsShapeOf c s → division_taint (y_width c) (word_of s.a t.a) (word_of s.b v.b) (word_of s.b t.b) ≡ division_taint_of s v t
unfolding division_taint_of
division_row c s v t q = sym (ap (λ n. division_taint n (word_of s.a t.a) (word_of s.b v.b) (word_of s.b t.b)) q.y)

quotient_row : (c : Cell) (s : Shape) (v t : Pair) → IsShapeOf c s → quotient_taint (y_width c) (word_of s.a v.a) (word_of s.a t.a) (word_of s.b v.b) (word_of s.b t.b) ≡ quotient_taint_of s v t
unfolding quotient_taint_of
quotient_row c s v t q = sym (ap (λ n. quotient_taint n (word_of s.a v.a) (word_of s.a t.a) (word_of s.b v.b) (word_of s.b t.b)) q.y)

div_row : (c : Cell) (s : Shape) (v t : Pair) (b : Bool) → IsShapeOf c s → s.signed ≡ b → coarse_by Div c (pair_words s v) (pair_words s t) ≡ (if b then division_taint_of s v t else quotient_taint_of s v t)
unfolding coarse_by
div_row c s v t true q e = ap (λ x. if x then division_taint (y_width c) (word_of s.a t.a) (word_of s.b v.b) (word_of s.b t.b) else quotient_taint (y_width c) (word_of s.a v.a) (word_of s.a t.a) (word_of s.b v.b) (word_of s.b t.b)) (sym q.signed ∙ e) ∙ division_row c s v t q
div_row c s v t false q e = ap (λ x. if x then division_taint (y_width c) (word_of s.a t.a) (word_of s.b v.b) (word_of s.b t.b) else quotient_taint (y_width c) (word_of s.a v.a) (word_of s.a t.a) (word_of s.b v.b) (word_of s.b t.b)) (sym q.signed ∙ e) ∙ quotient_row c s v t q

mod_row : (c : Cell) (s : Shape) (v t : Pair) → IsShapeOf c s → coarse_by Mod c (pair_words s v) (pair_words s t) ≡ division_taint_of s v t
unfolding coarse_by
mod_row c s v t q = division_row c s v t q

divfloor_row : (c : Cell) (s : Shape) (v t : Pair) → IsShapeOf c s → coarse_by DivFloor c (pair_words s v) (pair_words s t) ≡ division_taint_of s v t
unfolding coarse_by
divfloor_row c s v t q = division_row c s v t q

modfloor_row : (c : Cell) (s : Shape) (v t : Pair) → IsShapeOf c s → coarse_by ModFloor c (pair_words s v) (pair_words s t) ≡ division_taint_of s v t
unfolding coarse_by
modfloor_row c s v t q = division_row c s v t q

long_div : (s : Shape) (v t : Pair) (b : Bool) → length (if b then division_taint_of s v t else quotient_taint_of s v t) ≡ s.y
long_div s v t true = long_division s v t
long_div s v t false = long_quotient s v t

-- the row of a kind by another name
by_kind : (c : Cell) (k : Kind) (vs ts : List Word) (w : Word) → c.kind ≡ k → coarse_by k c vs ts ≡ w → coarse_by c.kind c vs ts ≡ w
by_kind c k vs ts w e h = ap (λ x. coarse_by x c vs ts) e ∙ h

taint_by : (k : Kind) (c : Cell) (s : Shape) (v t : Pair) → c.kind ≡ k → is_binary k ≡ true → IsFitted c → IsShapeOf c s → taint_row k s v t ≡ taint_word c (pair_words s v) (pair_words s t) 0
unfolding taint_row
taint_by Add c s v t e h f q = arith_is add_taint c s v t q (add_taints c f e)
taint_by Sub c s v t e h f q = arith_is sub_taint c s v t q (sub_taints c f e)
taint_by Lt c s v t e h f q = arith_is less_taint c s v t q (lt_taints c f e)
taint_by Ge c s v t e h f q = arith_is less_taint c s v t q (ge_taints c f e)
taint_by Gt c s v t e h f q = arith_is greater_taint c s v t q (gt_taints c f e)
taint_by Le c s v t e h f q = arith_is greater_taint c s v t q (le_taints c f e)
taint_by Eq c s v t e h f q = arith_is equal_taint c s v t q (eq_taints c f e)
taint_by Ne c s v t e h f q = arith_is equal_taint c s v t q (ne_taints c f e)
taint_by Eqx c s v t e h f q = arith_is equal_taint c s v t q (eqx_taints c f e)
taint_by Nex c s v t e h f q = arith_is equal_taint c s v t q (nex_taints c f e)
taint_by Mul c s v t e h f q = coarse_is c s v t (product_taint_of s v t) q (ap is_coarse e) (by_kind c Mul (pair_words s v) (pair_words s t) (product_taint_of s v t) e (mul_row c s v t q)) (long_product s v t)
taint_by Div c s v t e h f q = coarse_is c s v t (div_taint_of s v t) q (ap is_coarse e) (by_kind c Div (pair_words s v) (pair_words s t) (div_taint_of s v t) e (div_row c s v t s.signed q refl)) (long_div s v t s.signed)
taint_by Mod c s v t e h f q = coarse_is c s v t (division_taint_of s v t) q (ap is_coarse e) (by_kind c Mod (pair_words s v) (pair_words s t) (division_taint_of s v t) e (mod_row c s v t q)) (long_division s v t)
taint_by DivFloor c s v t e h f q = coarse_is c s v t (division_taint_of s v t) q (ap is_coarse e) (by_kind c DivFloor (pair_words s v) (pair_words s t) (division_taint_of s v t) e (divfloor_row c s v t q)) (long_division s v t)
taint_by ModFloor c s v t e h f q = coarse_is c s v t (division_taint_of s v t) q (ap is_coarse e) (by_kind c ModFloor (pair_words s v) (pair_words s t) (division_taint_of s v t) e (modfloor_row c s v t q)) (long_division s v t)
taint_by _ c s v t e h f q = absurd (cc)

one_taint : (c : Cell) (vs ts : List Word) → outputs_of c.kind ≡ y_row ∷ [] → taint_words c vs ts ≡ taint_word c vs ts 0 ∷ []
one_taint c vs ts rows = ap (λ rs. map (taint_word c vs ts) (range_with_len 0 (length rs))) rows

pub binary_taint_is : (f : SumForm) (c : Cell) (v t : Words) (r : ℕ) → is_binary f.kind ≡ true → IsFormOf f c → word_of f.shape.y r ≡ taint_row f.kind f.shape (pair_in v) (pair_in t)
    → words_held (output_widths c) (record { a = r; b = 0; c = 0; d = 0 }) ≡ taint_words c (words_held (operand_widths c) v) (words_held (operand_widths c) t)
binary_taint_is f c v t r h i e =
    let q = shape_of f c (sym (ap is_binary i.kind) ∙ h) i in
    let rows = q.rows in
    held_one c f.shape.y r rows.output_rows i.y ∙ ap (λ (x : Word). x ∷ []) (e ∙ taint_by f.kind c f.shape (pair_in v) (pair_in t) (sym i.kind) h i.fitted q)
    ∙ sym (one_taint c (pair_words f.shape (pair_in v)) (pair_words f.shape (pair_in t)) rows.output_rows)
    ∙ ap (λ vs. taint_words c vs (pair_words f.shape (pair_in t))) (held_pair c f.shape v q) ∙ ap (λ ts. taint_words c (words_held (operand_widths c) v) ts) (held_pair c f.shape t q)

-- ---- $neg

held_own : (f : SumForm) (c : Cell) (w : Words) → operand_widths c ≡ number_of c AWidth ∷ [] → IsFormOf f c → word_of f.shape.a w.a ∷ [] ≡ words_held (operand_widths c) w
held_own f c w widths i = ap (λ n. word_of n w.a ∷ []) i.a ∙ sym (ap (λ ns. words_held ns w) widths)

neg_signed : (f : SumForm) (c : Cell) → c.kind ≡ Neg → IsFormOf f c → f.shape.signed ≡ a_signed c
neg_signed f c e i = i.signed ∙ ap (λ k. if is_neg k then a_signed c else both_signed c) e

neg_meaning : (c : Cell) (us : List Word) → words_by Neg c us ≡ unary neg_word c us
unfolding words_by
neg_meaning c us = refl

pub neg_value_is : (f : SumForm) (c : Cell) (w : Words) (r : ℕ) → f.kind ≡ Neg → IsFormOf f c → word_of f.shape.y r ≡ neg_word f.shape.y f.shape.signed (word_of f.shape.a w.a)
    → words_held (output_widths c) (record { a = r; b = 0; c = 0; d = 0 }) ≡ meaning c (words_held (operand_widths c) w)
neg_value_is f c w r k i e =
    let is : c.kind ≡ Neg = sym i.kind ∙ k in
    let rows : HasRows c (a_row ∷ []) (y_row ∷ []) = neg_rows c is i.fitted in
    held_one c f.shape.y r rows.output_rows i.y ∙ ap (λ (x : Word). x ∷ []) e
    ∙ ap (λ n. neg_word n f.shape.signed (word_of f.shape.a w.a) ∷ []) i.y ∙ ap (λ b. neg_word (y_width c) b (word_of f.shape.a w.a) ∷ []) (neg_signed f c is i)
    ∙ sym (neg_meaning c (word_of f.shape.a w.a ∷ [])) ∙ sym (ap (λ x. words_by x c (word_of f.shape.a w.a ∷ [])) is)
    ∙ ap (words_by c.kind c) (held_own f c w rows.widths i)

own_formula : (f : SumForm) (c : Cell) (vs ts : List Word) → c.kind ≡ Neg → IsFormOf f c → value_of (neg_taint f.shape.y f.shape.signed f.shape.a) vs ts [] ≡ value_of (of_own neg_taint c) vs ts []
own_formula f c vs ts e i =
    ap (λ n. value_of (neg_taint n f.shape.signed f.shape.a) vs ts []) i.y ∙ ap (λ b. value_of (neg_taint (y_width c) b f.shape.a) vs ts []) (neg_signed f c e i)
    ∙ ap (λ n. value_of (neg_taint (y_width c) (a_signed c) n) vs ts []) i.a

pub neg_taint_means : (f : SumForm) (c : Cell) (v t : Words) (r : ℕ) → f.kind ≡ Neg → IsFormOf f c → word_of f.shape.y r ≡ taint_of_one neg_taint f.shape v.a t.a
    → words_held (output_widths c) (record { a = r; b = 0; c = 0; d = 0 }) ≡ taint_words c (words_held (operand_widths c) v) (words_held (operand_widths c) t)
unfolding taint_of_one
neg_taint_means f c v t r k i e =
    let is : c.kind ≡ Neg = sym i.kind ∙ k in
    let rows : HasRows c (a_row ∷ []) (y_row ∷ []) = neg_rows c is i.fitted in
    let all : AreTaintsOf c (of_own neg_taint c ∷ []) = neg_taints c i.fitted is in
    let first : IsTaintOf c 0 (of_own neg_taint c) = all.each 0 (omega arith) in
    let vs : List Word = word_of f.shape.a v.a ∷ [] in
    let ts : List Word = word_of f.shape.a t.a ∷ [] in
    held_one c f.shape.y r rows.output_rows i.y
    ∙ ap (λ (x : Word). x ∷ []) (e ∙ own_formula f c vs ts is i ∙ first.means vs ts (ap (λ n. n ∷ []) (length-word f.shape.a _ ∙ i.a) ∙ sym rows.widths) (ap (λ n. n ∷ []) (length-word f.shape.a _ ∙ i.a) ∙ sym rows.widths))
    ∙ sym (one_taint c vs ts rows.output_rows)
    ∙ ap (λ us. taint_words c us ts) (held_own f c v rows.widths i) ∙ ap (λ us. taint_words c (words_held (operand_widths c) v) us) (held_own f c t rows.widths i)

-- ---- outputs fit their widths

narrow_one : (ns : List ℕ) (r : ℕ) → r < 2 ^ get_or ns 0 0 → AreNarrow ns (record { a = r; b = 0; c = 0; d = 0 })
narrow_one ns r h = record { a = h; b = pow_pos (get_or ns 1 0); c = pow_pos (get_or ns 2 0); d = pow_pos (get_or ns 3 0) }

narrow_output : (c : Cell) (n r : ℕ) (w : Words) → w ≡ record { a = r; b = 0; c = 0; d = 0 } → outputs_of c.kind ≡ y_row ∷ [] → n ≡ y_width c → r < 2 ^ n → AreNarrow (output_widths c) w
narrow_output c n r w e rows y h =
    subst (λ (u : Words). AreNarrow (output_widths c) u) (sym e)
    (narrow_one (output_widths c) r (subst (λ k. r < 2 ^ k) (y ∙ sym (ap (λ rs. get_or (map (row_width c) rs) 0 0) rows)) h))

pub binary_narrow : (f : SumForm) (c : Cell) (r : ℕ) (w : Words) → is_binary f.kind ≡ true → IsFormOf f c → w ≡ record { a = r; b = 0; c = 0; d = 0 } → r < 2 ^ f.shape.y → AreNarrow (output_widths c) w
binary_narrow f c r w h i e l = let rows = binary_rows c (sym (ap is_binary i.kind) ∙ h) i.fitted in narrow_output c f.shape.y r w e rows.output_rows i.y l

pub neg_narrow : (f : SumForm) (c : Cell) (r : ℕ) (w : Words) → f.kind ≡ Neg → IsFormOf f c → w ≡ record { a = r; b = 0; c = 0; d = 0 } → r < 2 ^ f.shape.y → AreNarrow (output_widths c) w
neg_narrow f c r w k i e l = let rows = neg_rows c (sym i.kind ∙ k) i.fitted in narrow_output c f.shape.y r w e rows.output_rows i.y l

-- ---- a narrow cell

pub record HasFew (c : Cell) : Type 0 where
  pub a : number_of c AWidth ≤ 128
  pub b : is_neg c.kind ≡ false → number_of c BWidth ≤ 128
  pub y : y_width c ≤ 128

few_by : (c : Cell) (n : Bool) → is_neg c.kind ≡ n → covers_numbers c.kind ≡ true → IsFitted c → IsNarrow c → HasFew c
few_by c true e h f w =
    let r : HasRows c (a_row ∷ []) (y_row ∷ []) = neg_rows c (is_neg_kind c.kind e) f in
    let ins : AreWithin128 (number_of c AWidth ∷ []) = subst (λ ns. AreWithin128 ns) r.widths w.operands in
    let outs : AreWithin128 (y_width c ∷ []) = subst (λ ns. AreWithin128 ns) (ap (map (row_width c)) r.output_rows) w.outputs in
    record { a = ins.0; b = λ q. absurd (cc); y = outs.0 }
few_by c false e h f w =
    let r : HasRows c (a_row ∷ b_row ∷ []) (y_row ∷ []) = binary_rows c (covered_kind c.kind h e) f in
    let ins : AreWithin128 (number_of c AWidth ∷ number_of c BWidth ∷ []) = subst (λ ns. AreWithin128 ns) r.widths w.operands in
    let outs : AreWithin128 (y_width c ∷ []) = subst (λ ns. AreWithin128 ns) (ap (map (row_width c)) r.output_rows) w.outputs in
    record { a = ins.0; b = λ q. (let j = ins.1 in j.0); y = outs.0 }

pub has_few : (c : Cell) → covers_numbers c.kind ≡ true → IsFitted c → IsNarrow c → HasFew c
has_few c h f w = few_by c (is_neg c.kind) refl h f w

-- ---- numbers of the widths of a cell's operands are those of its form

held_by_kind : (f : SumForm) (c : Cell) (w : Words) (n : Bool) → is_neg c.kind ≡ n → covers_numbers c.kind ≡ true → IsFormOf f c → AreNarrow (operand_widths c) w → IsHeldBy f w
held_by_kind f c w true e h i s =
    let r : HasRows c (a_row ∷ []) (y_row ∷ []) = neg_rows c (is_neg_kind c.kind e) i.fitted in
    let own : AreNarrow (number_of c AWidth ∷ []) w = subst (λ ns. AreNarrow ns w) r.widths s in
    let none : w.b < 2 ^ 0 = own.b in
    let power : 1 ≤ 2 ^ f.shape.b = pow_pos f.shape.b in
    record { a = subst (λ k. w.a < 2 ^ k) (sym i.a) own.a; b = omega arith }
held_by_kind f c w false e h i s =
    let r : HasRows c (a_row ∷ b_row ∷ []) (y_row ∷ []) = binary_rows c (covered_kind c.kind h e) i.fitted in
    let own : AreNarrow (number_of c AWidth ∷ number_of c BWidth ∷ []) w = subst (λ ns. AreNarrow ns w) r.widths s in
    record { a = subst (λ k. w.a < 2 ^ k) (sym i.a) own.a; b = subst (λ k. w.b < 2 ^ k) (sym (i.b e)) own.b }

pub held_by : (f : SumForm) (c : Cell) (w : Words) → IsFormOf f c → AreNarrow (operand_widths c) w → IsHeldBy f w
held_by f c w i s = held_by_kind f c w (is_neg c.kind) refl (sym (ap covers_numbers i.kind) ∙ f.covered) i s
