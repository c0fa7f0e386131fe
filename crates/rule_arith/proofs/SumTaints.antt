-- The formulas of $add and $sub are the taint of their cells.
use Rattle.std.specs.Prelude.{ℕ, ◌≤◌, ◌≡◌, Bool, true, false, List, [], ◌∷◌, length, Some, slice_get, refl}
use Rattle.std.proofs.Common.{arith, ap, ◌∙◌}
use Rattle.cif_defs.specs.Cells.{Cell, binary, both_signed, number_of, words_by, y_width}
use Rattle.cif_defs.specs.Fitted.{IsFitted, operand_widths}
use Rattle.cif_defs.specs.Kinds.{is_coarse}
use Rattle.cif_defs.specs.Meanings.{add_word, sub_word}
use Rattle.cif_defs.specs.Table.{operands_of, outputs_of, width_limit}
use Rattle.cif_defs.specs.Weights.{weight, weight_by}
use Rattle.cif_defs.specs.Words.{Word, extended_bit, operand, word, xor}
use Rattle.cif_defs.specs.declared.kinds.Kind.TheVariants.{Add, Sub}
use Rattle.cif_defs.specs.declared.kinds.Param.TheVariants.{AWidth, BWidth}
use Rattle.cif_defs.proofs.Numbers.{word-same}
use Rattle.cif_term.specs.CellTaints.{AreTaintsOf}
use Rattle.cif_term.specs.Extended.{extended}
use Rattle.cif_term.specs.Formulas.{Formula, IsFormed, One, Taint, Value, value_of}
use Rattle.cif_term.specs.declared.ops.Op1.TheVariants.{Not}
use Rattle.cif_term.proofs.ExactTaintWords.{one_output}
use Rattle.cif_term.proofs.FormedFormulas.{formed_extended, formed_taint, formed_value, raised}
use Rattle.cif_term.proofs.Values.{value-extended, value-not}
use Rattle.rule_arith.specs.Bounds.{sign_start}
use Rattle.rule_arith.specs.Addends.{operand_taint, operand_word}
use Rattle.rule_arith.specs.SumFormulas.{add_taint, of_pair, sub_taint, sum_formula}
use Rattle.rule_arith.proofs.BinaryCells.{IsBinary, RowIsExact, binary_cell, pair_taint}
use Rattle.rule_arith.proofs.Forming.{Forms, formed_sum_formula, one_more}
use Rattle.rule_arith.proofs.SumRules.{add_exact, not_xor, pair_rule, sub_exact, xor_none}
use Rattle.rule_arith.proofs.SumValues.{Gives, value-sum_formula}

-- ---- operands as formulas

pub gives_value : (n m : ℕ) (signed : Bool) (p : ℕ) (vs ts : List Word) → length (operand vs p) ≡ m → 1 ≤ m → Gives n vs ts (extended n signed m (Value p)) (λ i. extended_bit signed i (operand vs p))
gives_value n m signed p vs ts e h named = value-extended n m signed (Value p) vs ts named e h

pub gives_taint : (n m : ℕ) (signed : Bool) (p : ℕ) (vs ts : List Word) → length (operand ts p) ≡ m → 1 ≤ m → Gives n vs ts (extended n signed m (Taint p)) (λ i. extended_bit signed i (operand ts p))
gives_taint n m signed p vs ts e h named = value-extended n m signed (Taint p) vs ts named e h

pub gives_plain : (n m : ℕ) (signed : Bool) (p : ℕ) (vs ts : List Word) → length (operand vs p) ≡ m → 1 ≤ m → Gives n vs ts (extended n signed m (Value p)) (λ i. xor (extended_bit signed i (operand vs p)) false)
gives_plain n m signed p vs ts e h named = gives_value n m signed p vs ts e h named ∙ word-same n _ _ (λ i l. xor_none _)

pub gives_complement : (n m : ℕ) (signed : Bool) (p : ℕ) (vs ts : List Word) → length (operand vs p) ≡ m → 1 ≤ m → Gives n vs ts (One Not (extended n signed m (Value p))) (λ i. xor (extended_bit signed i (operand vs p)) true)
gives_complement n m signed p vs ts e h named =
    value-not n (λ i. extended_bit signed i (operand vs p)) (extended n signed m (Value p)) vs ts named (gives_value n m signed p vs ts e h named) ∙ word-same n _ _ (λ i l. not_xor _)

pub forms_value : (ws : List ℕ) (n m : ℕ) (signed : Bool) (p : ℕ) → slice_get ws p ≡ Some m → 1 ≤ m → m ≤ 4096 → 1 ≤ n → n ≤ 4096 → Forms (extended n signed m (Value p)) ws n 0
forms_value ws n m signed p e some few some_n few_n named = formed_extended n m signed (formed_value ws named p m e some (omega arith)) some some_n (omega arith)

pub forms_taint : (ws : List ℕ) (n m : ℕ) (signed : Bool) (p : ℕ) → slice_get ws p ≡ Some m → 1 ≤ m → m ≤ 4096 → 1 ≤ n → n ≤ 4096 → Forms (extended n signed m (Taint p)) ws n 0
forms_taint ws n m signed p e some few some_n few_n named = formed_extended n m signed (formed_taint ws named p m e some (omega arith)) some some_n (omega arith)

-- ---- cells

pub at_first : (c : Cell) (limit : ℕ) → IsBinary c limit → slice_get (operand_widths c) 0 ≡ Some (number_of c AWidth)
at_first c limit b = ap (λ ws. slice_get ws 0) b.widths

pub at_second : (c : Cell) (limit : ℕ) → IsBinary c limit → slice_get (operand_widths c) 1 ≡ Some (number_of c BWidth)
at_second c limit b = ap (λ ws. slice_get ws 1) b.widths

-- a sum of both operands, of which the first comes by one operation at most
pair_formed : (c : Cell) (f : Formula) → IsBinary c 128 → Forms f (operand_widths c) (y_width c) 1
    → IsFormed (sum_formula (y_width c) (sign_start (y_width c) (both_signed c) (number_of c AWidth)) (sign_start (y_width c) (both_signed c) (number_of c BWidth))
    f (operand_taint (y_width c) (both_signed c) (number_of c AWidth) 0)
    (operand_word (y_width c) (both_signed c) (number_of c BWidth) 1) (operand_taint (y_width c) (both_signed c) (number_of c BWidth) 1))
    (operand_widths c) [] (y_width c) 37
pair_formed c f b h =
    let ws : List ℕ = operand_widths c in
    let n : ℕ = y_width c in
    let signed : Bool = both_signed c in
    let some : 1 ≤ n = b.some_y in
    let few : n ≤ 128 = b.few_y in
    let few_a : number_of c AWidth ≤ 128 = b.few_a in
    let few_b : number_of c BWidth ≤ 128 = b.few_b in
    formed_sum_formula f (operand_taint n signed (number_of c AWidth) 0) (operand_word n signed (number_of c BWidth) 1) (operand_taint n signed (number_of c BWidth) 1)
    ws n (sign_start n signed (number_of c AWidth)) (sign_start n signed (number_of c BWidth)) some few h
    (forms_taint ws n (number_of c AWidth) signed 0 (at_first c 128 b) b.some_a (omega arith) some (omega arith))
    (forms_value ws n (number_of c BWidth) signed 1 (at_second c 128 b) b.some_b (omega arith) some (omega arith))
    (forms_taint ws n (number_of c BWidth) signed 1 (at_second c 128 b) b.some_b (omega arith) some (omega arith)) []

pair_first : (c : Cell) → IsBinary c 128 → Forms (operand_word (y_width c) (both_signed c) (number_of c AWidth) 0) (operand_widths c) (y_width c) 0
pair_first c b =
    let few : y_width c ≤ 128 = b.few_y in
    let few_a : number_of c AWidth ≤ 128 = b.few_a in
    forms_value (operand_widths c) (y_width c) (number_of c AWidth) (both_signed c) 0 (at_first c 128 b) b.some_a (omega arith) b.some_y (omega arith)

-- ---- $add

add_value : (n : ℕ) (signed : Bool) (a ta b tb : Word) → length ta ≡ length a → length tb ≡ length b → 1 ≤ length a → 1 ≤ length b
    → value_of (add_taint n signed (length a) (length b)) (a ∷ b ∷ []) (ta ∷ tb ∷ []) [] ≡ word n (pair_rule n signed false a ta b tb)
add_value n signed a ta b tb e f some_a some_b =
    let vs : List Word = a ∷ b ∷ [] in
    let ts : List Word = ta ∷ tb ∷ [] in
    value-sum_formula n (sign_start n signed (length a)) (sign_start n signed (length b))
    (operand_word n signed (length a) 0) (operand_taint n signed (length a) 0) (operand_word n signed (length b) 1) (operand_taint n signed (length b) 1)
    (λ i. xor (extended_bit signed i a) false) (λ i. extended_bit signed i ta) (λ i. xor (extended_bit signed i b) false) (λ i. extended_bit signed i tb) vs ts []
    (gives_plain n (length a) signed 0 vs ts refl some_a) (gives_taint n (length a) signed 0 vs ts e some_a)
    (gives_plain n (length b) signed 1 vs ts refl some_b) (gives_taint n (length b) signed 1 vs ts f some_b)

add_row_exact : RowIsExact add_word add_taint
add_row_exact n signed a ta b tb some e f some_a some_b = add_exact n signed a ta b tb _ e f some_a some_b (add_value n signed a ta b tb e f some_a some_b)

pub add_cell : (c : Cell) → IsFitted c → c.kind ≡ Add → IsBinary c 128
unfolding operands_of outputs_of width_limit
add_cell c h e = binary_cell c Add 128 h e (λ q. absurd (cc)) refl refl refl refl refl

add_words : (c : Cell) (us : List Word) → words_by Add c us ≡ binary add_word c us
unfolding words_by
add_words c us = refl

add_weight : (c : Cell) → weight_by Add c ≡ 72
unfolding weight_by
add_weight c = refl

pub add_taints : (c : Cell) → IsFitted c → c.kind ≡ Add → AreTaintsOf c (of_pair add_taint c ∷ [])
add_taints c h e =
    let b = add_cell c h e in
    let formed = pair_formed c (operand_word (y_width c) (both_signed c) (number_of c AWidth) 0) b (λ named. raised 1 (pair_first c b named) (omega arith)) in
    let heavy : weight c ≡ 72 = ap (λ k. weight_by k c) e ∙ add_weight c in
    one_output c (of_pair add_taint c) (ap length b.one_output)
    (pair_taint c 128 37 add_word add_taint b (ap is_coarse e) (λ us. ap (λ k. words_by k c us) e ∙ add_words c us) add_row_exact formed) (let k = formed.cost in omega arith)

-- ---- $sub

sub_value : (n : ℕ) (signed : Bool) (a ta b tb : Word) → length ta ≡ length a → length tb ≡ length b → 1 ≤ length a → 1 ≤ length b
    → value_of (sub_taint n signed (length a) (length b)) (a ∷ b ∷ []) (ta ∷ tb ∷ []) [] ≡ word n (pair_rule n signed true a ta b tb)
sub_value n signed a ta b tb e f some_a some_b =
    let vs : List Word = a ∷ b ∷ [] in
    let ts : List Word = ta ∷ tb ∷ [] in
    value-sum_formula n (sign_start n signed (length a)) (sign_start n signed (length b))
    (One Not (operand_word n signed (length a) 0)) (operand_taint n signed (length a) 0) (operand_word n signed (length b) 1) (operand_taint n signed (length b) 1)
    (λ i. xor (extended_bit signed i a) true) (λ i. extended_bit signed i ta) (λ i. xor (extended_bit signed i b) false) (λ i. extended_bit signed i tb) vs ts []
    (gives_complement n (length a) signed 0 vs ts refl some_a) (gives_taint n (length a) signed 0 vs ts e some_a)
    (gives_plain n (length b) signed 1 vs ts refl some_b) (gives_taint n (length b) signed 1 vs ts f some_b)

sub_row_exact : RowIsExact sub_word sub_taint
sub_row_exact n signed a ta b tb some e f some_a some_b = sub_exact n signed a ta b tb _ e f some_a some_b (sub_value n signed a ta b tb e f some_a some_b)

pub sub_cell : (c : Cell) → IsFitted c → c.kind ≡ Sub → IsBinary c 128
unfolding operands_of outputs_of width_limit
sub_cell c h e = binary_cell c Sub 128 h e (λ q. absurd (cc)) refl refl refl refl refl

sub_words : (c : Cell) (us : List Word) → words_by Sub c us ≡ binary sub_word c us
unfolding words_by
sub_words c us = refl

sub_weight : (c : Cell) → weight_by Sub c ≡ 72
unfolding weight_by
sub_weight c = refl

pub sub_taints : (c : Cell) → IsFitted c → c.kind ≡ Sub → AreTaintsOf c (of_pair sub_taint c ∷ [])
sub_taints c h e =
    let b = sub_cell c h e in
    let few : y_width c ≤ 128 = b.few_y in
    let formed = pair_formed c (One Not (operand_word (y_width c) (both_signed c) (number_of c AWidth) 0)) b (λ named. one_more Not (omega arith) (pair_first c b named)) in
    let heavy : weight c ≡ 72 = ap (λ k. weight_by k c) e ∙ sub_weight c in
    one_output c (of_pair sub_taint c) (ap length b.one_output)
    (pair_taint c 128 37 sub_word sub_taint b (ap is_coarse e) (λ us. ap (λ k. words_by k c us) e ∙ sub_words c us) sub_row_exact formed) (let k = formed.cost in omega arith)
