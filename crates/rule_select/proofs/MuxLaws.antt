-- The formula of $mux computes its exact taint.
use Rattle.std.specs.Prelude.{ℕ, ◌*◌, ◌<◌, ◌≤◌, ◌≡◌, Bool, false, List, [], ◌∷◌, length, map, Some, refl, if◌then◌else◌}
use Rattle.std.proofs.Common.{arith, sym, ap, subst, ◌∙◌}
use Rattle.cif_defs.specs.declared.kinds.Kind.TheVariants.{Mux}
use Rattle.cif_defs.specs.declared.kinds.CellPort.TheVariants.{A}
use Rattle.cif_defs.specs.Words.{Word, bit, word, operand}
use Rattle.cif_defs.specs.Kinds.{is_coarse}
use Rattle.cif_defs.specs.Table.{operands_of, outputs_of, width_limit}
use Rattle.cif_defs.specs.Cells.{Cell, width, meaning, words_by}
use Rattle.cif_defs.specs.Meanings.{mux_word}
use Rattle.cif_defs.specs.Completions.{can_differ}
use Rattle.cif_defs.specs.Taint.{output_bit}
use Rattle.cif_defs.specs.Fitted.{IsFitted, AllWithin, operand_widths, row_width}
use Rattle.cif_defs.specs.Weights.{weight, weight_by}
use Rattle.cif_defs.proofs.WordLaws.{bit-word}
use Rattle.cif_term.specs.Formulas.{IsFormed, Value, Taint, cost_of, pieces, value_of}
use Rattle.cif_term.specs.CellTaints.{AreTaintsOf, IsTaintOf, output_width}
use Rattle.cif_term.proofs.FormedFormulas.{formed_value, formed_taint, pieces_narrow}
use Rattle.cif_term.proofs.ExactTaintWords.{one_output}
use Rattle.rule_select.specs.Choices.{choice_taint}
use Rattle.rule_select.specs.Mux.{mux_formula}
use Rattle.rule_select.proofs.SelectOperands.{operand_by, taint_by_bits, word_of_bits}
use Rattle.rule_select.proofs.ChoiceTaints.{IsChoice, bit_differs, choice_differs, reads_other}
use Rattle.rule_select.proofs.ChoiceTerms.{value-taint_choice, formed_taint_choice}

-- ---- the cell

pub mux_widths : (c : Cell) → IsFitted c → c.kind ≡ Mux → operand_widths c ≡ width c ∷ width c ∷ 1 ∷ []
unfolding operands_of
mux_widths c f k = f.operands ∙ ap (λ x. map (row_width c) (operands_of x)) k

pub mux_output : (c : Cell) → c.kind ≡ Mux → output_width c 0 ≡ width c
unfolding outputs_of
mux_output c k = ap (λ x. output_width (record c { kind = x }) 0) k

mux_within : (c : Cell) → IsFitted c → c.kind ≡ Mux → (1 ≤ width c) × (width c ≤ 4096)
unfolding operands_of width_limit
mux_within c f k =
    let all : AllWithin c (operands_of Mux) = subst (λ x. AllWithin c (operands_of x)) k (f.operands_within (λ e. absurd (cc))) in
    let limit : width c ≤ width_limit c.kind A = all.0.limit in
    let few : width_limit c.kind A ≡ 4096 = ap (λ x. width_limit x A) k in
    (all.0.some, omega arith)

mux_row : (c : Cell) → c.kind ≡ Mux → (us : List Word) → meaning c us ≡ mux_word (width c) (operand us 0) (operand us 1) (operand us 2) ∷ []
unfolding words_by
mux_row c k us = ap (λ x. words_by x c us) k

mux_weight : (c : Cell) → c.kind ≡ Mux → weight c ≡ 12
unfolding weight_by
mux_weight c k = ap (λ x. weight_by x c) k

-- ---- each bit is a choice

abbrev mux_bit : ℕ → List Word → Bool
mux_bit i us = if bit (operand us 2) 0 then bit (operand us 1) i else bit (operand us 0) i

mux_gives : (c : Cell) → c.kind ≡ Mux → (i : ℕ) (us : List Word) → i < width c → output_bit c 0 i us ≡ mux_bit i us
mux_gives c k i us h = ap (λ (ws : List Word). bit (operand ws 0) i) (mux_row c k us) ∙ bit-word (width c) (λ j. mux_bit j us) i false h

mux_rule : List Word → List Word → ℕ → Bool
mux_rule vs ts i = choice_taint (bit (operand vs 0) i) (bit (operand ts 0) i) (bit (operand vs 1) i) (bit (operand ts 1) i) (bit (operand vs 2) 0) (bit (operand ts 2) 0)

mux_differs : (n i : ℕ) (vs ts : List Word) → map length vs ≡ n ∷ n ∷ 1 ∷ [] → i < n → can_differ (mux_bit i) vs ts ≡ mux_rule vs ts i
unfolding mux_rule
mux_differs n i vs ts e h =
    let a = operand_by vs (n ∷ n ∷ 1 ∷ []) 0 n e refl in
    let b = operand_by vs (n ∷ n ∷ 1 ∷ []) 1 n e refl in
    let s = operand_by vs (n ∷ n ∷ 1 ∷ []) 2 1 e refl in
    let a_long : length (operand vs 0) ≡ n = a.1 in
    let b_long : length (operand vs 1) ≡ n = b.1 in
    let s_long : length (operand vs 2) ≡ 1 = s.1 in
    let choice : IsChoice (mux_bit i) (λ us. bit (operand us 0) i) (λ us. bit (operand us 1) i) 2 0 vs = record {
      there = s.0;
      within = omega arith;
      chosen = λ us. refl;
      zero_ignores = reads_other 2 0 0 i (λ q. absurd (omega arith));
      one_ignores = reads_other 2 0 1 i (λ q. absurd (omega arith));
    } in
    choice_differs (mux_bit i) (λ us. bit (operand us 0) i) (λ us. bit (operand us 1) i) 2 0 vs ts choice
    ∙ ap (λ x. choice_taint (bit (operand vs 0) i) x (bit (operand vs 1) i) (can_differ (λ us. bit (operand us 1) i) vs ts) (bit (operand vs 2) 0) (bit (operand ts 2) 0)) (bit_differs 0 i vs ts a.0 (omega arith))
    ∙ ap (λ x. choice_taint (bit (operand vs 0) i) (bit (operand ts 0) i) (bit (operand vs 1) i) x (bit (operand vs 2) 0) (bit (operand ts 2) 0)) (bit_differs 1 i vs ts b.0 (omega arith))

-- ---- the formula

mux_value : (n : ℕ) (vs ts : List Word) → map length vs ≡ n ∷ n ∷ 1 ∷ [] → map length ts ≡ n ∷ n ∷ 1 ∷ [] → value_of mux_formula vs ts [] ≡ word n (λ i. mux_rule vs ts i)
unfolding mux_rule
mux_value n vs ts e q =
    value-taint_choice n (bit (operand vs 2) 0) (bit (operand ts 2) 0) (bit (operand vs 0)) (bit (operand ts 0)) (bit (operand vs 1)) (bit (operand ts 1)) (Value 2) (Taint 2) (Value 0) (Taint 0) (Value 1) (Taint 1) vs ts [] refl refl
    (word_of_bits (operand vs 0) n (operand_by vs _ 0 n e refl).1) (word_of_bits (operand ts 0) n (operand_by ts _ 0 n q refl).1)
    (word_of_bits (operand vs 1) n (operand_by vs _ 1 n e refl).1) (word_of_bits (operand ts 1) n (operand_by ts _ 1 n q refl).1)

mux_formed : (n : ℕ) → 1 ≤ n → n ≤ 4096 → IsFormed mux_formula (n ∷ n ∷ 1 ∷ []) [] n (5 * pieces n)
mux_formed n a b =
    formed_taint_choice (formed_value _ [] 2 1 refl (omega arith) (omega arith)) (formed_taint _ [] 2 1 refl (omega arith) (omega arith))
    (formed_value _ [] 0 n refl a (omega arith)) (formed_taint _ [] 0 n refl a (omega arith)) (formed_value _ [] 1 n refl a (omega arith)) (formed_taint _ [] 1 n refl a (omega arith)) a

formed_for : (c : Cell) → IsFitted c → c.kind ≡ Mux → IsFormed mux_formula (operand_widths c) [] (width c) (5 * pieces (width c))
formed_for c f k =
    let w = mux_within c f k in
    subst (λ (ws : List ℕ). IsFormed mux_formula ws [] (width c) (5 * pieces (width c))) (sym (mux_widths c f k)) (mux_formed (width c) w.0 w.1)

pub mux_taint : (c : Cell) → IsFitted c → c.kind ≡ Mux → IsTaintOf c 0 mux_formula
mux_taint c f k = record {
  formed = (formed_for c f k).width ∙ ap (λ n. Some n) (sym (mux_output c k));
  means = λ vs ts e q.
      mux_value (width c) vs ts (e ∙ mux_widths c f k) (q ∙ mux_widths c f k)
      ∙ taint_by_bits c 0 (width c) mux_bit (mux_rule vs ts) vs ts (ap is_coarse k) (mux_output c k) (λ i us h. mux_gives c k i us h)
      (λ i h. mux_differs (width c) i vs ts (e ∙ mux_widths c f k) h);
}

pub mux_cost : (c : Cell) → IsFitted c → c.kind ≡ Mux → cost_of mux_formula (operand_widths c) [] ≤ weight c
mux_cost c f k =
    let most : cost_of mux_formula (operand_widths c) [] ≤ 5 * pieces (width c) = (formed_for c f k).cost in
    let narrow : pieces (width c) ≤ 1 = pieces_narrow (width c) (mux_within c f k).1 in
    let heavy : weight c ≡ 12 = mux_weight c k in
    omega arith

one_output_port : (c : Cell) → c.kind ≡ Mux → length (outputs_of c.kind) ≡ 1
unfolding outputs_of
one_output_port c k = ap (λ x. length (outputs_of x)) k

-- the taints of a $mux
pub mux_taints : (c : Cell) → IsFitted c → c.kind ≡ Mux → AreTaintsOf c (mux_formula ∷ [])
mux_taints c f k = one_output c mux_formula (one_output_port c k) (mux_taint c f k) (mux_cost c f k)
