-- What is known of the words of a fitted cell of two operands.
use Rattle.std.specs.Prelude.{ℕ, suc, get_or, Some, false, ◌≤◌, ◌≡◌, ◌≢◌, Bool, List, [], ◌∷◌, map, length, refl}
use Rattle.std.proofs.Common.{arith, sym, ap, ◌∙◌, subst}
use Rattle.cif_defs.specs.Cells.{Cell, binary, both_signed, meaning, number_of, y_width}
use Rattle.cif_defs.specs.Completions.{IsExact, of_two}
use Rattle.cif_defs.specs.Fitted.{AllWithin, IsFitted, IsWithin, operand_widths, row_width}
use Rattle.cif_defs.specs.Table.{a_row, b_row, operands_of, outputs_of, width_limit, y_row}
use Rattle.cif_defs.specs.Kinds.{is_coarse}
use Rattle.cif_defs.specs.Words.{Word, bit, operand}
use Rattle.cif_defs.specs.declared.kinds.PortRow.{PortRow}
use Rattle.cif_defs.specs.declared.kinds.CellPort.TheVariants.{A, B, Y}
use Rattle.cif_defs.specs.declared.kinds.Kind.{Kind}
use Rattle.cif_defs.specs.declared.kinds.Kind.TheVariants.{Mem}
use Rattle.cif_defs.specs.declared.kinds.Param.TheVariants.{AWidth, BWidth, YWidth}
use Rattle.cif_term.specs.CellTaints.{IsTaintOf, output_width}
use Rattle.cif_term.specs.Formulas.{Formula, IsFormed, value_of}
use Rattle.cif_term.proofs.ExactTaintWords.{exact_taint}
use Rattle.rule_arith.specs.SumFormulas.{of_pair}

-- a cell with operands A and B and output Y, all of at most limit bits
pub record IsBinary (c : Cell) (limit : ℕ) : Type 0 where
  pub widths : operand_widths c ≡ number_of c AWidth ∷ number_of c BWidth ∷ []
  pub some_a : 1 ≤ number_of c AWidth
  pub some_b : 1 ≤ number_of c BWidth
  pub some_y : 1 ≤ number_of c YWidth
  pub few_a : number_of c AWidth ≤ limit
  pub few_b : number_of c BWidth ≤ limit
  pub few_y : number_of c YWidth ≤ limit
  pub one_output : outputs_of c.kind ≡ y_row ∷ []

pub binary_cell : (c : Cell) (k : Kind) (limit : ℕ) → IsFitted c → c.kind ≡ k → k ≢ Mem → operands_of k ≡ a_row ∷ b_row ∷ [] → outputs_of k ≡ y_row ∷ [] → width_limit k A ≡ limit → width_limit k B ≡ limit → width_limit k Y ≡ limit → IsBinary c limit
binary_cell c k limit h e n ins outs la lb ly =
    let rows : operands_of c.kind ≡ a_row ∷ b_row ∷ [] = ap operands_of e ∙ ins in
    let out_rows : outputs_of c.kind ≡ y_row ∷ [] = ap outputs_of e ∙ outs in
    let not_memory : c.kind ≢ Mem = λ q. n (sym e ∙ q) in
    let within : AllWithin c (a_row ∷ b_row ∷ []) = subst (λ rs. AllWithin c rs) rows (h.operands_within not_memory) in
    let out_within : AllWithin c (y_row ∷ []) = subst (λ rs. AllWithin c rs) out_rows (h.outputs_within not_memory) in
    let a : IsWithin c a_row = within.0 in
    let b : IsWithin c b_row = within.1.0 in
    let y : IsWithin c y_row = out_within.0 in
    let limit_a : width_limit c.kind A ≡ limit = ap (λ q. width_limit q A) e ∙ la in
    let limit_b : width_limit c.kind B ≡ limit = ap (λ q. width_limit q B) e ∙ lb in
    let limit_y : width_limit c.kind Y ≡ limit = ap (λ q. width_limit q Y) e ∙ ly in
    record {
      widths = h.operands ∙ ap (map (row_width c)) rows;
      some_a = a.some;
      some_b = b.some;
      some_y = y.some;
      few_a = subst (λ m. number_of c AWidth ≤ m) limit_a a.limit;
      few_b = subst (λ m. number_of c BWidth ≤ m) limit_b b.limit;
      few_y = subst (λ m. number_of c YWidth ≤ m) limit_y y.limit;
      one_output = out_rows;
    }

-- operand words of such a cell
pub record ArePair (m k : ℕ) (vs : List Word) : Type 0 where
  pub first : length (operand vs 0) ≡ m
  pub second : length (operand vs 1) ≡ k
  pub whole : vs ≡ operand vs 0 ∷ operand vs 1 ∷ []

pub pair_of_words : (m k : ℕ) (vs : List Word) → map length vs ≡ m ∷ k ∷ [] → ArePair m k vs
pair_of_words m k [] h = absurd (let q : 0 ≡ 2 = ap length h in omega arith)
pair_of_words m k (v ∷ []) h = absurd (let q : 1 ≡ 2 = ap length h in omega arith)
pair_of_words m k (v ∷ w ∷ []) h = record {
  first = ap (λ (xs : List ℕ). get_or xs 0 0) h;
  second = ap (λ (xs : List ℕ). get_or xs 1 0) h;
  whole = refl;
}
pair_of_words m k (v ∷ w ∷ u ∷ vs) h = absurd (let q : suc (suc (suc (length (map length vs)))) ≡ 2 = ap length h in omega arith)

-- ---- the taint of such a cell, from a row and the formula of its exact taint

abbrev pub RowIsExact : (ℕ → Bool → Word → Word → Word) → (ℕ → Bool → ℕ → ℕ → Formula) → Type 0
RowIsExact row f = (n : ℕ) (signed : Bool) (a ta b tb : Word) → 1 ≤ n → length ta ≡ length a → length tb ≡ length b → 1 ≤ length a → 1 ≤ length b
    → IsExact n (of_two (row n signed)) (a ∷ b ∷ []) (ta ∷ tb ∷ []) (value_of (f n signed (length a) (length b)) (a ∷ b ∷ []) (ta ∷ tb ∷ []) [])

pub y_output : (c : Cell) → outputs_of c.kind ≡ y_row ∷ [] → output_width c 0 ≡ y_width c
y_output c e = ap (λ (rows : List PortRow). get_or (map (row_width c) rows) 0 0) e

pub pair_taint : (c : Cell) (limit k : ℕ) (row : ℕ → Bool → Word → Word → Word) (f : ℕ → Bool → ℕ → ℕ → Formula) → IsBinary c limit → is_coarse c.kind ≡ false → ((us : List Word) → meaning c us ≡ binary row c us)
    → RowIsExact row f → IsFormed (of_pair f c) (operand_widths c) [] (y_width c) k → IsTaintOf c 0 (of_pair f c)
pair_taint c limit k row f b fine same exact formed = record {
  formed = formed.width ∙ ap Some (sym (y_output c b.one_output));
  means = λ vs ts hv ht.
      let pv = pair_of_words (number_of c AWidth) (number_of c BWidth) vs (hv ∙ b.widths) in
      let pt = pair_of_words (number_of c AWidth) (number_of c BWidth) ts (ht ∙ b.widths) in
      exact_taint c 0 (of_two (row (y_width c) (both_signed c))) vs ts (value_of (of_pair f c) vs ts []) fine
      (λ i us. ap (λ (ws : List Word). bit (operand ws 0) i) (same us)) (exact_at vs ts pv pt);
}
  where
    exact_at : (vs ts : List Word) → ArePair (number_of c AWidth) (number_of c BWidth) vs → ArePair (number_of c AWidth) (number_of c BWidth) ts
        → IsExact (output_width c 0) (of_two (row (y_width c) (both_signed c))) vs ts (value_of (of_pair f c) vs ts [])
    exact_at vs ts pv pt =
        let a : Word = operand vs 0 in
        let d : Word = operand vs 1 in
        let ta : Word = operand ts 0 in
        let td : Word = operand ts 1 in
        let n : ℕ = y_width c in
        let some_a : 1 ≤ length a = subst (λ m. 1 ≤ m) (sym pv.first) b.some_a in
        let some_d : 1 ≤ length d = subst (λ m. 1 ≤ m) (sym pv.second) b.some_b in
        let at_words : IsExact n (of_two (row n (both_signed c))) (a ∷ d ∷ []) (ta ∷ td ∷ []) (value_of (f n (both_signed c) (length a) (length d)) (a ∷ d ∷ []) (ta ∷ td ∷ []) [])
        = exact n (both_signed c) a ta d td b.some_y (pt.first ∙ sym pv.first) (pt.second ∙ sym pv.second) some_a some_d in
        let at_a = subst (λ m. IsExact n (of_two (row n (both_signed c))) (a ∷ d ∷ []) (ta ∷ td ∷ []) (value_of (f n (both_signed c) m (length d)) (a ∷ d ∷ []) (ta ∷ td ∷ []) [])) pv.first at_words in
        let at_b = subst (λ m. IsExact n (of_two (row n (both_signed c))) (a ∷ d ∷ []) (ta ∷ td ∷ []) (value_of (f n (both_signed c) (number_of c AWidth) m) (a ∷ d ∷ []) (ta ∷ td ∷ []) [])) pv.second at_a in
        let at_v = subst (λ ws. IsExact n (of_two (row n (both_signed c))) ws (ta ∷ td ∷ []) (value_of (of_pair f c) ws (ta ∷ td ∷ []) [])) (sym pv.whole) at_b in
        let at_t = subst (λ ws. IsExact n (of_two (row n (both_signed c))) vs ws (value_of (of_pair f c) vs ws [])) (sym pt.whole) at_v in
        subst (λ m. IsExact m (of_two (row n (both_signed c))) vs ts (value_of (of_pair f c) vs ts [])) (sym (y_output c b.one_output)) at_t
