-- The formulas of $lt, $le, $ge and $gt are the taint of their cells.
use Rattle.std.specs.Prelude.{ℕ, zero, suc, max, ◌+◌, ◌≤◌, ◌≡◌, Bool, true, false, not, ◌&&◌, ◌||◌, ◌==◌, List, [], ◌∷◌, ◌++◌, length, Some, slice_get, int_lt, refl}
use Rattle.std.proofs.Common.{arith, sym, ap, ◌∙◌}
use Rattle.std.proofs.lemmas.Bool.Decides.{nat_tests}
use Rattle.cif_defs.specs.Cells.{Cell, binary, both_signed, number_of, words_by, y_width}
use Rattle.cif_defs.specs.Fitted.{IsFitted, operand_widths}
use Rattle.cif_defs.specs.Kinds.{is_coarse}
use Rattle.cif_defs.specs.Meanings.{compared, ge_word, gt_word, le_word, lt_word}
use Rattle.cif_defs.specs.Table.{operands_of, outputs_of, width_limit}
use Rattle.cif_defs.specs.Weights.{weight, weight_by}
use Rattle.cif_defs.specs.Words.{Word, extend, extended_bit, flag_word, int_number, operand, word, xor}
use Rattle.cif_defs.specs.declared.kinds.Kind.TheVariants.{Lt, Le, Ge, Gt}
use Rattle.cif_defs.specs.declared.kinds.Param.TheVariants.{AWidth, BWidth}
use Rattle.cif_defs.proofs.Numbers.{word-same}
use Rattle.cif_defs.proofs.WordLaws.{length-word}
use Rattle.cif_defs.proofs.WordNumbers.{compared-numbers, int_number-extend}
use Rattle.cif_term.specs.CellTaints.{AreTaintsOf}
use Rattle.cif_term.specs.Extended.{extended}
use Rattle.cif_term.specs.Formulas.{Bound, Formula, IsFormed, Two, value_of}
use Rattle.cif_term.specs.declared.ops.Op2.TheVariants.{LessSigned, LessUnsigned, Xor}
use Rattle.cif_term.proofs.ExactTaintWords.{one_output}
use Rattle.cif_term.proofs.FormedFormulas.{formed_bound, formed_extended, formed_let, raised}
use Rattle.cif_term.proofs.Values.{value-extended, value-xor}
use Rattle.rule_arith.specs.Bounds.{bounds, greatest_of, half_of, least_of, order_start}
use Rattle.rule_arith.specs.OrderFormulas.{greater_taint, less_bit, less_op, less_taint}
use Rattle.rule_arith.specs.Addends.{operand_taint, operand_word}
use Rattle.rule_arith.specs.SumFormulas.{of_pair}
use Rattle.rule_arith.proofs.BinaryCells.{IsBinary, binary_cell, pair_taint}
use Rattle.rule_arith.proofs.BoundValues.{value-bound, value-bounds}
use Rattle.rule_arith.proofs.Comparisons.{ge_exact, gt_exact, le_exact, less_rule, lt_exact}
use Rattle.rule_arith.proofs.Forming.{formed_bounds, formed_half, two_more}
use Rattle.rule_arith.proofs.Limits.{limit}
use Rattle.rule_arith.proofs.OrderLimits.{extended_order, greatest_word, least_word}
use Rattle.rule_arith.proofs.SumTaints.{at_first, at_second, forms_taint, forms_value, gives_taint, gives_value}

-- ---- flags

flag_past : (b : Bool) (i : ℕ) → extended_bit false i (flag_word 1 b) ≡ (i == 0 && b)
flag_past b zero = refl
flag_past b (suc i) = let later : (suc i == 0) ≡ false = grind (arith, nat_tests) in sym (ap (λ x. x && b) later)

pub value-flag : (n : ℕ) (b : Bool) (f : Formula) (vs ts named : List Word) → value_of f vs ts named ≡ flag_word 1 b → value_of (extended n false 1 f) vs ts named ≡ flag_word n b
value-flag n b f vs ts named e =
    value-extended n 1 false f vs ts named (ap length e) (omega arith) ∙ ap (extend n false) e ∙ word-same n _ _ (λ i h. flag_past b i)

flag_xor : (b c : Bool) → word 1 (λ i. xor (i == 0 && b) (i == 0 && c)) ≡ flag_word 1 (xor b c)
flag_xor b c = refl

-- ---- less than

less_value : (signed : Bool) (f g : Formula) (vs ts named : List Word) → value_of (Two (less_op signed) f g) vs ts named ≡ lt_word 1 signed (value_of f vs ts named) (value_of g vs ts named)
less_value true f g vs ts named = refl
less_value false f g vs ts named = refl

compared-extended : (m : ℕ) (signed : Bool) (u w : Word) → length u ≤ m → length w ≤ m → compared int_lt signed (extend m signed u) (extend m signed w) ≡ compared int_lt signed u w
compared-extended m signed u w h k =
    compared-numbers int_lt signed (extend m signed u) (extend m signed w)
    ∙ ap (λ z. int_lt z (int_number signed (extend m signed w))) (int_number-extend m signed u h)
    ∙ ap (λ z. int_lt (int_number signed u) z) (int_number-extend m signed w k)
    ∙ sym (compared-numbers int_lt signed u w)

value-less : (m : ℕ) (signed : Bool) (u w : Word) (f g : Formula) (vs ts named : List Word) → length u ≤ m → length w ≤ m → value_of f vs ts named ≡ extend m signed u → value_of g vs ts named ≡ extend m signed w
    → value_of (Two (less_op signed) f g) vs ts named ≡ flag_word 1 (compared int_lt signed u w)
value-less m signed u w f g vs ts named h k p q =
    less_value signed f g vs ts named ∙ ap (λ (x : Word). lt_word 1 signed x (value_of g vs ts named)) p ∙ ap (λ (x : Word). lt_word 1 signed (extend m signed u) x) q
    ∙ ap (flag_word 1) (compared-extended m signed u w h k)

-- a bound in the order of numbers, extended
value-order : (m : ℕ) (signed low high : Bool) (v t : Word) (pair : Formula) (vs ts named : List Word) → length t ≡ length v → 1 ≤ length v
    → value_of pair vs ts named ≡ word m (λ i. extended_bit signed i v && not (extended_bit signed i t)) ++ word m (λ i. extended_bit signed i v || extended_bit signed i t)
    → value_of (half_of m (order_start m signed (length v)) low high pair) vs ts named ≡ extend m signed (limit low high (order_start m signed (length v)) v t)
value-order m signed low high v t pair vs ts named e some h =
    value-bound m (order_start m signed (length v)) low high (λ i. extended_bit signed i v) (λ i. extended_bit signed i t) pair vs ts named h ∙ sym (extended_order m signed low high v t e some)

limit_short : (low high : Bool) (k m : ℕ) (v t : Word) → length v ≤ m → length (limit low high k v t) ≤ m
limit_short low high k m v t h = let long : length (limit low high k v t) ≡ length v = length-word (length v) _ in omega arith

value-less_bit : (m : ℕ) (signed : Bool) (p q : ℕ) (vs ts : List Word) (a ta b tb : Word) → operand vs p ≡ a → operand ts p ≡ ta → operand vs q ≡ b → operand ts q ≡ tb
    → length ta ≡ length a → length tb ≡ length b → 1 ≤ length a → 1 ≤ length b → length a ≤ m → length b ≤ m
    → value_of (less_bit m signed (length a) p (length b) q) vs ts [] ≡ flag_word 1 (less_rule m signed a ta b tb)
value-less_bit m signed p q vs ts a ta b tb of_a of_ta of_b of_tb e f some_a some_b few_a few_b =
    let j : ℕ = order_start m signed (length a) in
    let k : ℕ = order_start m signed (length b) in
    let first : Word = value_of (bounds (operand_word m signed (length a) p) (operand_taint m signed (length a) p)) vs ts [] in
    let second : Word = value_of (bounds (operand_word m signed (length b) q) (operand_taint m signed (length b) q)) vs ts (first ∷ []) in
    let inner : List Word = second ∷ first ∷ [] in
    let pair_a : first ≡ word m (λ i. extended_bit signed i a && not (extended_bit signed i ta)) ++ word m (λ i. extended_bit signed i a || extended_bit signed i ta) =
    value-bounds m (λ i. extended_bit signed i a) (λ i. extended_bit signed i ta) (operand_word m signed (length a) p) (operand_taint m signed (length a) p) vs ts []
    (gives_value m (length a) signed p vs ts (ap length of_a) some_a [] ∙ ap (extend m signed) of_a) (gives_taint m (length a) signed p vs ts (ap length of_ta ∙ e) some_a [] ∙ ap (extend m signed) of_ta) in
    let pair_b : second ≡ word m (λ i. extended_bit signed i b && not (extended_bit signed i tb)) ++ word m (λ i. extended_bit signed i b || extended_bit signed i tb) =
    value-bounds m (λ i. extended_bit signed i b) (λ i. extended_bit signed i tb) (operand_word m signed (length b) q) (operand_taint m signed (length b) q) vs ts (first ∷ [])
    (gives_value m (length b) signed q vs ts (ap length of_b) some_b (first ∷ []) ∙ ap (extend m signed) of_b) (gives_taint m (length b) signed q vs ts (ap length of_tb ∙ f) some_b (first ∷ []) ∙ ap (extend m signed) of_tb) in
    value-xor 1 (λ i. i == 0 && compared int_lt signed (least_word m signed a ta) (greatest_word m signed b tb)) (λ i. i == 0 && compared int_lt signed (greatest_word m signed a ta) (least_word m signed b tb))
    (Two (less_op signed) (least_of m j (Bound 1)) (greatest_of m k (Bound 0))) (Two (less_op signed) (greatest_of m j (Bound 1)) (least_of m k (Bound 0))) vs ts inner
    (value-less m signed (least_word m signed a ta) (greatest_word m signed b tb) (least_of m j (Bound 1)) (greatest_of m k (Bound 0)) vs ts inner
    (limit_short false true j m a ta few_a) (limit_short true false k m b tb few_b)
    (value-order m signed false true a ta (Bound 1) vs ts inner e some_a pair_a) (value-order m signed true false b tb (Bound 0) vs ts inner f some_b pair_b))
    (value-less m signed (greatest_word m signed a ta) (least_word m signed b tb) (greatest_of m j (Bound 1)) (least_of m k (Bound 0)) vs ts inner
    (limit_short true false j m a ta few_a) (limit_short false true k m b tb few_b)
    (value-order m signed true false a ta (Bound 1) vs ts inner e some_a pair_a) (value-order m signed false true b tb (Bound 0) vs ts inner f some_b pair_b))
    ∙ flag_xor (compared int_lt signed (least_word m signed a ta) (greatest_word m signed b tb)) (compared int_lt signed (greatest_word m signed a ta) (least_word m signed b tb))

less_row : (n : ℕ) (signed : Bool) (a ta b tb : Word) → length ta ≡ length a → length tb ≡ length b → 1 ≤ length a → 1 ≤ length b
    → value_of (less_taint n signed (length a) (length b)) (a ∷ b ∷ []) (ta ∷ tb ∷ []) [] ≡ flag_word n (less_rule (max (length a) (length b)) signed a ta b tb)
less_row n signed a ta b tb e f some_a some_b =
    let m : ℕ = max (length a) (length b) in
    value-flag n (less_rule m signed a ta b tb) (less_bit m signed (length a) 0 (length b) 1) (a ∷ b ∷ []) (ta ∷ tb ∷ []) []
    (value-less_bit m signed 0 1 (a ∷ b ∷ []) (ta ∷ tb ∷ []) a ta b tb refl refl refl refl e f some_a some_b (omega arith) (omega arith))

greater_row : (n : ℕ) (signed : Bool) (a ta b tb : Word) → length ta ≡ length a → length tb ≡ length b → 1 ≤ length a → 1 ≤ length b
    → value_of (greater_taint n signed (length a) (length b)) (a ∷ b ∷ []) (ta ∷ tb ∷ []) [] ≡ flag_word n (less_rule (max (length a) (length b)) signed b tb a ta)
greater_row n signed a ta b tb e f some_a some_b =
    let m : ℕ = max (length a) (length b) in
    value-flag n (less_rule m signed b tb a ta) (less_bit m signed (length b) 1 (length a) 0) (a ∷ b ∷ []) (ta ∷ tb ∷ []) []
    (value-less_bit m signed 1 0 (a ∷ b ∷ []) (ta ∷ tb ∷ []) b tb a ta refl refl refl refl f e some_b some_a (omega arith) (omega arith))

-- ---- widths and costs

formed_less : {f g : Formula} {ws named : List ℕ} {m j k : ℕ} (signed : Bool) → m ≤ 128 → IsFormed f ws named m j → IsFormed g ws named m k → IsFormed (Two (less_op signed) f g) ws named 1 (j + k + 1)
formed_less true h x y = two_more LessSigned (omega arith) (λ e. h) x y
formed_less false h x y = two_more LessUnsigned (omega arith) (λ e. h) x y

formed_less_bit : (ws : List ℕ) (m : ℕ) (signed : Bool) (a p b q : ℕ) → slice_get ws p ≡ Some a → slice_get ws q ≡ Some b → 1 ≤ a → 1 ≤ b → a ≤ m → b ≤ m → m ≤ 128
    → IsFormed (less_bit m signed a p b q) ws [] 1 9
formed_less_bit ws m signed a p b q at_a at_b some_a some_b few_a few_b few =
    let inner : List ℕ = (m + m) ∷ (m + m) ∷ [] in
    let first : IsFormed (Bound 1) ws inner (m + m) 0 = formed_bound ws inner 1 (m + m) refl (omega arith) (omega arith) in
    let second : IsFormed (Bound 0) ws inner (m + m) 0 = formed_bound ws inner 0 (m + m) refl (omega arith) (omega arith) in
    let some : 1 ≤ m = omega arith in
    let short : m ≤ 4096 = omega arith in
    raised 9
    (formed_let (formed_bounds some short (forms_value ws m a signed p at_a some_a (omega arith) some short []) (forms_taint ws m a signed p at_a some_a (omega arith) some short []))
    (formed_let (formed_bounds some short (forms_value ws m b signed q at_b some_b (omega arith) some short ((m + m) ∷ [])) (forms_taint ws m b signed q at_b some_b (omega arith) some short ((m + m) ∷ [])))
    (two_more Xor (omega arith) (λ e. absurd (cc))
    (formed_less signed few (formed_half (order_start m signed a) false true some short first) (formed_half (order_start m signed b) true false some short second))
    (formed_less signed few (formed_half (order_start m signed a) true false some short first) (formed_half (order_start m signed b) false true some short second)))))
    (omega arith)

less_formed : (c : Cell) → IsBinary c 128 → IsFormed (of_pair less_taint c) (operand_widths c) [] (y_width c) 9
less_formed c b =
    let m : ℕ = max (number_of c AWidth) (number_of c BWidth) in
    let few : y_width c ≤ 128 = b.few_y in
    let few_a : number_of c AWidth ≤ 128 = b.few_a in
    let few_b : number_of c BWidth ≤ 128 = b.few_b in
    formed_extended (y_width c) 1 false (formed_less_bit (operand_widths c) m (both_signed c) (number_of c AWidth) 0 (number_of c BWidth) 1 (at_first c 128 b) (at_second c 128 b) b.some_a b.some_b (omega arith) (omega arith) (omega arith))
    (omega arith) b.some_y (omega arith)

greater_formed : (c : Cell) → IsBinary c 128 → IsFormed (of_pair greater_taint c) (operand_widths c) [] (y_width c) 9
greater_formed c b =
    let m : ℕ = max (number_of c AWidth) (number_of c BWidth) in
    let few : y_width c ≤ 128 = b.few_y in
    let few_a : number_of c AWidth ≤ 128 = b.few_a in
    let few_b : number_of c BWidth ≤ 128 = b.few_b in
    formed_extended (y_width c) 1 false (formed_less_bit (operand_widths c) m (both_signed c) (number_of c BWidth) 1 (number_of c AWidth) 0 (at_second c 128 b) (at_first c 128 b) b.some_b b.some_a (omega arith) (omega arith) (omega arith))
    (omega arith) b.some_y (omega arith)

-- ---- $lt

pub lt_cell : (c : Cell) → IsFitted c → c.kind ≡ Lt → IsBinary c 128
unfolding operands_of outputs_of width_limit
lt_cell c h e = binary_cell c Lt 128 h e (λ q. absurd (cc)) refl refl refl refl refl

lt_words : (c : Cell) (us : List Word) → words_by Lt c us ≡ binary lt_word c us
unfolding words_by
lt_words c us = refl

lt_weight : (c : Cell) → weight_by Lt c ≡ 40
unfolding weight_by
lt_weight c = refl

pub lt_taints : (c : Cell) → IsFitted c → c.kind ≡ Lt → AreTaintsOf c (of_pair less_taint c ∷ [])
lt_taints c h e =
    let b = lt_cell c h e in
    let formed = less_formed c b in
    let heavy : weight c ≡ 40 = ap (λ k. weight_by k c) e ∙ lt_weight c in
    one_output c (of_pair less_taint c) (ap length b.one_output)
    (pair_taint c 128 9 lt_word less_taint b (ap is_coarse e) (λ us. ap (λ k. words_by k c us) e ∙ lt_words c us)
    (λ n signed a ta d td some p q some_a some_d. lt_exact n (max (length a) (length d)) signed a ta d td _ p q some_a some_d (omega arith) (omega arith) (less_row n signed a ta d td p q some_a some_d)) formed)
    (let k = formed.cost in omega arith)

-- ---- $ge

pub ge_cell : (c : Cell) → IsFitted c → c.kind ≡ Ge → IsBinary c 128
unfolding operands_of outputs_of width_limit
ge_cell c h e = binary_cell c Ge 128 h e (λ q. absurd (cc)) refl refl refl refl refl

ge_words : (c : Cell) (us : List Word) → words_by Ge c us ≡ binary ge_word c us
unfolding words_by
ge_words c us = refl

ge_weight : (c : Cell) → weight_by Ge c ≡ 40
unfolding weight_by
ge_weight c = refl

pub ge_taints : (c : Cell) → IsFitted c → c.kind ≡ Ge → AreTaintsOf c (of_pair less_taint c ∷ [])
ge_taints c h e =
    let b = ge_cell c h e in
    let formed = less_formed c b in
    let heavy : weight c ≡ 40 = ap (λ k. weight_by k c) e ∙ ge_weight c in
    one_output c (of_pair less_taint c) (ap length b.one_output)
    (pair_taint c 128 9 ge_word less_taint b (ap is_coarse e) (λ us. ap (λ k. words_by k c us) e ∙ ge_words c us)
    (λ n signed a ta d td some p q some_a some_d. ge_exact n (max (length a) (length d)) signed a ta d td _ p q some_a some_d (omega arith) (omega arith) (less_row n signed a ta d td p q some_a some_d)) formed)
    (let k = formed.cost in omega arith)

-- ---- $gt

pub gt_cell : (c : Cell) → IsFitted c → c.kind ≡ Gt → IsBinary c 128
unfolding operands_of outputs_of width_limit
gt_cell c h e = binary_cell c Gt 128 h e (λ q. absurd (cc)) refl refl refl refl refl

gt_words : (c : Cell) (us : List Word) → words_by Gt c us ≡ binary gt_word c us
unfolding words_by
gt_words c us = refl

gt_weight : (c : Cell) → weight_by Gt c ≡ 40
unfolding weight_by
gt_weight c = refl

pub gt_taints : (c : Cell) → IsFitted c → c.kind ≡ Gt → AreTaintsOf c (of_pair greater_taint c ∷ [])
gt_taints c h e =
    let b = gt_cell c h e in
    let formed = greater_formed c b in
    let heavy : weight c ≡ 40 = ap (λ k. weight_by k c) e ∙ gt_weight c in
    one_output c (of_pair greater_taint c) (ap length b.one_output)
    (pair_taint c 128 9 gt_word greater_taint b (ap is_coarse e) (λ us. ap (λ k. words_by k c us) e ∙ gt_words c us)
    (λ n signed a ta d td some p q some_a some_d. gt_exact n (max (length a) (length d)) signed a ta d td _ p q some_a some_d (omega arith) (omega arith) (greater_row n signed a ta d td p q some_a some_d)) formed)
    (let k = formed.cost in omega arith)

-- ---- $le

pub le_cell : (c : Cell) → IsFitted c → c.kind ≡ Le → IsBinary c 128
unfolding operands_of outputs_of width_limit
le_cell c h e = binary_cell c Le 128 h e (λ q. absurd (cc)) refl refl refl refl refl

le_words : (c : Cell) (us : List Word) → words_by Le c us ≡ binary le_word c us
unfolding words_by
le_words c us = refl

le_weight : (c : Cell) → weight_by Le c ≡ 40
unfolding weight_by
le_weight c = refl

pub le_taints : (c : Cell) → IsFitted c → c.kind ≡ Le → AreTaintsOf c (of_pair greater_taint c ∷ [])
le_taints c h e =
    let b = le_cell c h e in
    let formed = greater_formed c b in
    let heavy : weight c ≡ 40 = ap (λ k. weight_by k c) e ∙ le_weight c in
    one_output c (of_pair greater_taint c) (ap length b.one_output)
    (pair_taint c 128 9 le_word greater_taint b (ap is_coarse e) (λ us. ap (λ k. words_by k c us) e ∙ le_words c us)
    (λ n signed a ta d td some p q some_a some_d. le_exact n (max (length a) (length d)) signed a ta d td _ p q some_a some_d (omega arith) (omega arith) (greater_row n signed a ta d td p q some_a some_d)) formed)
    (let k = formed.cost in omega arith)
