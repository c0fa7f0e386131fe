-- The formula of $neg is the taint of its cell.
use Rattle.std.specs.Prelude.{ℕ, suc, ◌≤◌, ◌≡◌, ◌≢◌, ◌==◌, ◌&&◌, Bool, true, false, List, [], ◌∷◌, map, length, get_or, Some, slice_get, refl}
use Rattle.std.proofs.Common.{arith, sym, ap, ◌∙◌, subst}
use Rattle.cif_defs.specs.Cells.{Cell, a_signed, number_of, unary, words_by, y_width}
use Rattle.cif_defs.specs.Completions.{IsExact, of_one}
use Rattle.cif_defs.specs.Fitted.{AllWithin, IsFitted, IsWithin, operand_widths, row_width}
use Rattle.cif_defs.specs.Kinds.{is_coarse}
use Rattle.cif_defs.specs.Meanings.{neg_word}
use Rattle.cif_defs.specs.Table.{a_row, operands_of, outputs_of, width_limit, y_row}
use Rattle.cif_defs.specs.Weights.{weight, weight_by}
use Rattle.cif_defs.specs.Words.{Word, bit, extended_bit, operand, word, xor, zeros}
use Rattle.cif_defs.specs.declared.kinds.CellPort.TheVariants.{A, Y}
use Rattle.cif_defs.specs.declared.kinds.Kind.{Kind}
use Rattle.cif_defs.specs.declared.kinds.Kind.TheVariants.{Mem, Neg}
use Rattle.cif_defs.specs.declared.kinds.Param.TheVariants.{AWidth, YWidth}
use Rattle.cif_defs.proofs.WordLaws.{length-word}
use Rattle.cif_term.specs.CellTaints.{AreTaintsOf, IsTaintOf, output_width}
use Rattle.cif_term.specs.Extended.{extended}
use Rattle.cif_term.specs.Formulas.{Const, IsFormed, One, value_of}
use Rattle.cif_term.specs.declared.ops.Op1.TheVariants.{Not}
use Rattle.cif_term.proofs.ExactTaintWords.{exact_taint, one_output}
use Rattle.cif_term.proofs.FormedFormulas.{formed_const, formed_extended}
use Rattle.rule_arith.specs.Addends.{operand_taint, operand_word}
use Rattle.rule_arith.specs.Bounds.{sign_start}
use Rattle.rule_arith.specs.SumFormulas.{neg_taint, of_own}
use Rattle.rule_arith.proofs.BinaryCells.{y_output}
use Rattle.rule_arith.proofs.Forming.{formed_sum_formula, one_more}
use Rattle.rule_arith.proofs.OrderTaints.{value-flag}
use Rattle.rule_arith.proofs.SumRules.{neg_exact, own_rule}
use Rattle.rule_arith.proofs.SumTaints.{forms_taint, forms_value, gives_complement, gives_taint}
use Rattle.rule_arith.proofs.SumValues.{Gives, value-sum_formula}

-- a cell with operand A and output Y, both of at most limit bits
pub record IsUnary (c : Cell) (limit : ℕ) : Type 0 where
  pub widths : operand_widths c ≡ number_of c AWidth ∷ []
  pub some_a : 1 ≤ number_of c AWidth
  pub some_y : 1 ≤ number_of c YWidth
  pub few_a : number_of c AWidth ≤ limit
  pub few_y : number_of c YWidth ≤ limit
  pub one_output : outputs_of c.kind ≡ y_row ∷ []

unary_cell : (c : Cell) (k : Kind) (limit : ℕ) → IsFitted c → c.kind ≡ k → k ≢ Mem → operands_of k ≡ a_row ∷ [] → outputs_of k ≡ y_row ∷ [] → width_limit k A ≡ limit → width_limit k Y ≡ limit → IsUnary c limit
unary_cell c k limit h e n ins outs la ly =
    let rows : operands_of c.kind ≡ a_row ∷ [] = ap operands_of e ∙ ins in
    let out_rows : outputs_of c.kind ≡ y_row ∷ [] = ap outputs_of e ∙ outs in
    let not_memory : c.kind ≢ Mem = λ q. n (sym e ∙ q) in
    let within : AllWithin c (a_row ∷ []) = subst (λ rs. AllWithin c rs) rows (h.operands_within not_memory) in
    let out_within : AllWithin c (y_row ∷ []) = subst (λ rs. AllWithin c rs) out_rows (h.outputs_within not_memory) in
    let a : IsWithin c a_row = within.0 in
    let y : IsWithin c y_row = out_within.0 in
    let limit_a : width_limit c.kind A ≡ limit = ap (λ q. width_limit q A) e ∙ la in
    let limit_y : width_limit c.kind Y ≡ limit = ap (λ q. width_limit q Y) e ∙ ly in
    record {
      widths = h.operands ∙ ap (map (row_width c)) rows;
      some_a = a.some;
      some_y = y.some;
      few_a = subst (λ m. number_of c AWidth ≤ m) limit_a a.limit;
      few_y = subst (λ m. number_of c YWidth ≤ m) limit_y y.limit;
      one_output = out_rows;
    }

-- the operand word of such a cell
record IsOwn (m : ℕ) (vs : List Word) : Type 0 where
  first : length (operand vs 0) ≡ m
  whole : vs ≡ operand vs 0 ∷ []

own_of_words : (m : ℕ) (vs : List Word) → map length vs ≡ m ∷ [] → IsOwn m vs
own_of_words m [] h = absurd (let q : 0 ≡ 1 = ap length h in omega arith)
own_of_words m (v ∷ []) h = record { first = ap (λ (xs : List ℕ). get_or xs 0 0) h; whole = refl }
own_of_words m (v ∷ w ∷ vs) h = absurd (let q : suc (suc (length (map length vs))) ≡ 1 = ap length h in omega arith)

-- ---- $neg

unit_gives : (n : ℕ) (vs ts : List Word) → Gives n vs ts (extended n false 1 (Const (true ∷ []))) (λ i. i == 0 && true)
unit_gives n vs ts named = value-flag n true (Const (true ∷ [])) vs ts named refl

neg_value : (n : ℕ) (signed : Bool) (a ta : Word) → length ta ≡ length a → 1 ≤ length a → value_of (neg_taint n signed (length a)) (a ∷ []) (ta ∷ []) [] ≡ word n (own_rule n signed a ta)
neg_value n signed a ta e some =
    value-sum_formula n (sign_start n signed (length a)) n
    (One Not (operand_word n signed (length a) 0)) (operand_taint n signed (length a) 0) (extended n false 1 (Const (true ∷ []))) (Const (zeros n))
    (λ i. xor (extended_bit signed i a) true) (λ i. extended_bit signed i ta) (λ i. i == 0 && true) (λ i. false) (a ∷ []) (ta ∷ []) []
    (gives_complement n (length a) signed 0 (a ∷ []) (ta ∷ []) refl some) (gives_taint n (length a) signed 0 (a ∷ []) (ta ∷ []) e some)
    (unit_gives n (a ∷ []) (ta ∷ [])) (λ named. refl)

neg_formed : (c : Cell) → IsUnary c 128 → IsFormed (of_own neg_taint c) (operand_widths c) [] (y_width c) 37
neg_formed c b =
    let ws : List ℕ = operand_widths c in
    let n : ℕ = y_width c in
    let m : ℕ = number_of c AWidth in
    let signed : Bool = a_signed c in
    let some : 1 ≤ n = b.some_y in
    let few : n ≤ 128 = b.few_y in
    let few_a : m ≤ 128 = b.few_a in
    let first : slice_get ws 0 ≡ Some m = ap (λ xs. slice_get xs 0) b.widths in
    formed_sum_formula (One Not (operand_word n signed m 0)) (operand_taint n signed m 0) (extended n false 1 (Const (true ∷ []))) (Const (zeros n)) ws n (sign_start n signed m) n some few
    (λ named. one_more Not (omega arith) (forms_value ws n m signed 0 first b.some_a (omega arith) some (omega arith) named))
    (forms_taint ws n m signed 0 first b.some_a (omega arith) some (omega arith))
    (λ named. formed_extended n 1 false (formed_const (true ∷ []) ws named 1 refl (omega arith) (omega arith)) (omega arith) some (omega arith))
    (λ named. formed_const (zeros n) ws named n (length-word n (λ i. false)) some (omega arith)) []

pub neg_cell : (c : Cell) → IsFitted c → c.kind ≡ Neg → IsUnary c 128
unfolding operands_of outputs_of width_limit
neg_cell c h e = unary_cell c Neg 128 h e (λ q. absurd (cc)) refl refl refl refl

neg_words : (c : Cell) (us : List Word) → words_by Neg c us ≡ unary neg_word c us
unfolding words_by
neg_words c us = refl

neg_weight : (c : Cell) → weight_by Neg c ≡ 40
unfolding weight_by
neg_weight c = refl

neg_exact_at : (c : Cell) → IsUnary c 128 → (vs ts : List Word) → IsOwn (number_of c AWidth) vs → IsOwn (number_of c AWidth) ts → IsExact (output_width c 0) (of_one (neg_word (y_width c) (a_signed c))) vs ts (value_of (of_own neg_taint c) vs ts [])
neg_exact_at c b vs ts pv pt =
    let a : Word = operand vs 0 in
    let ta : Word = operand ts 0 in
    let n : ℕ = y_width c in
    let some : 1 ≤ length a = subst (λ m. 1 ≤ m) (sym pv.first) b.some_a in
    let long : length ta ≡ length a = pt.first ∙ sym pv.first in
    let at_words : IsExact n (of_one (neg_word n (a_signed c))) (a ∷ []) (ta ∷ []) (value_of (neg_taint n (a_signed c) (length a)) (a ∷ []) (ta ∷ []) []) = neg_exact n (a_signed c) a ta _ long some (neg_value n (a_signed c) a ta long some) in
    let at_a = subst (λ m. IsExact n (of_one (neg_word n (a_signed c))) (a ∷ []) (ta ∷ []) (value_of (neg_taint n (a_signed c) m) (a ∷ []) (ta ∷ []) [])) pv.first at_words in
    let at_v = subst (λ ws. IsExact n (of_one (neg_word n (a_signed c))) ws (ta ∷ []) (value_of (of_own neg_taint c) ws (ta ∷ []) [])) (sym pv.whole) at_a in
    let at_t = subst (λ ws. IsExact n (of_one (neg_word n (a_signed c))) vs ws (value_of (of_own neg_taint c) vs ws [])) (sym pt.whole) at_v in
    subst (λ m. IsExact m (of_one (neg_word n (a_signed c))) vs ts (value_of (of_own neg_taint c) vs ts [])) (sym (y_output c b.one_output)) at_t

neg_means : (c : Cell) → c.kind ≡ Neg → IsUnary c 128 → IsTaintOf c 0 (of_own neg_taint c)
neg_means c e b = record {
  formed = (neg_formed c b).width ∙ ap Some (sym (y_output c b.one_output));
  means = λ vs ts hv ht.
      exact_taint c 0 (of_one (neg_word (y_width c) (a_signed c))) vs ts (value_of (of_own neg_taint c) vs ts []) (ap is_coarse e)
      (λ i us. ap (λ (ws : List Word). bit (operand ws 0) i) (ap (λ k. words_by k c us) e ∙ neg_words c us))
      (neg_exact_at c b vs ts (own_of_words (number_of c AWidth) vs (hv ∙ b.widths)) (own_of_words (number_of c AWidth) ts (ht ∙ b.widths)));
}

pub neg_taints : (c : Cell) → IsFitted c → c.kind ≡ Neg → AreTaintsOf c (of_own neg_taint c ∷ [])
neg_taints c h e =
    let b = neg_cell c h e in
    let heavy : weight c ≡ 40 = ap (λ k. weight_by k c) e ∙ neg_weight c in
    one_output c (of_own neg_taint c) (ap length b.one_output) (neg_means c e b) (let k = (neg_formed c b).cost in omega arith)
