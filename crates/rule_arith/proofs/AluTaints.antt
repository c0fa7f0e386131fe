-- The formulas of $alu are the taint of its cell.
use Rattle.std.specs.Prelude.{ℕ, zero, suc, ◌+◌, ◌<◌, ◌≤◌, ◌≡◌, ◌≢◌, Bool, true, false, List, [], ◌∷◌, map, length, get_or, nat_lt, Some, slice_get, refl, if◌then◌else◌}
use Rattle.std.proofs.Common.{arith, sym, ap, ◌∙◌, subst}
use Rattle.cif_defs.specs.Cells.{Cell, both_signed, meaning, number_of, words_by, y_width}
use Rattle.cif_defs.specs.Completions.{IsExact}
use Rattle.cif_defs.specs.Fitted.{AllWithin, IsFitted, IsWithin, operand_widths, row_width}
use Rattle.cif_defs.specs.Kinds.{is_coarse}
use Rattle.cif_defs.specs.Meanings.{alu_carry_word, alu_sum_word, alu_xor_word}
use Rattle.cif_defs.specs.Table.{a_row, b_row, operands_of, outputs_of, row, width_limit}
use Rattle.cif_defs.specs.Weights.{weight, weight_by}
use Rattle.cif_defs.specs.Words.{Word, bit, operand}
use Rattle.cif_defs.specs.declared.kinds.CellPort.TheVariants.{A, B, Bi, Ci, Co, X, Y}
use Rattle.cif_defs.specs.declared.kinds.Kind.TheVariants.{Alu, Mem}
use Rattle.cif_defs.specs.declared.kinds.Param.TheVariants.{AWidth, BWidth, YWidth}
use Rattle.cif_defs.specs.declared.kinds.PortRow.{PortRow}
use Rattle.cif_defs.specs.declared.kinds.PortWidth.TheVariants.{Of, One as OneBit}
use Rattle.cif_term.specs.CellTaints.{AreTaintsOf, IsTaintOf, output_width}
use Rattle.cif_term.specs.Formulas.{Bound, Const, Formula, IsFormed, Two, value_of}
use Rattle.cif_term.specs.declared.ops.Op1.TheVariants.{Not}
use Rattle.cif_term.specs.declared.ops.Op2.TheVariants.{Add, And, Or, Xor}
use Rattle.cif_term.proofs.ExactTaintWords.{exact_taint}
use Rattle.cif_term.proofs.FormedFormulas.{formed_bound, formed_extended, formed_join, formed_let, formed_taint, formed_value, raised}
use Rattle.rule_arith.specs.declared.sums.Sums.{Sums}
use Rattle.rule_arith.specs.Addends.{bit_bound, operand_word, repeated}
use Rattle.rule_arith.specs.AluFormulas.{alu_carry_taint, alu_named, alu_sum_taint, alu_sums, alu_xor_taint, carries_at}
use Rattle.rule_arith.specs.Bounds.{sign_start}
use Rattle.rule_arith.specs.SumFormulas.{of_pair, sum_at}
use Rattle.rule_arith.proofs.AluRules.{alu_sum_bit, alu_sum_exact, alu_xor_bit, alu_xor_exact}
use Rattle.rule_arith.proofs.AluCarries.{alu_carry_bit, alu_carry_exact}
use Rattle.rule_arith.proofs.LastBit.{four}
use Rattle.rule_arith.proofs.AluValues.{value-alu_carry, value-alu_sum, value-alu_xor}
use Rattle.rule_arith.proofs.Forming.{AllFormed, Forms, formed_below, formed_bounds, formed_cases, formed_half, formed_joined, one_more, two_more}
use Rattle.rule_arith.proofs.SumTaints.{forms_taint, forms_value}

-- ---- cells

pub record IsAlu (c : Cell) : Type 0 where
  pub widths : operand_widths c ≡ number_of c AWidth ∷ number_of c BWidth ∷ 1 ∷ 1 ∷ []
  pub some_a : 1 ≤ number_of c AWidth
  pub some_b : 1 ≤ number_of c BWidth
  pub some_y : 1 ≤ number_of c YWidth
  pub few_a : number_of c AWidth ≤ 128
  pub few_b : number_of c BWidth ≤ 128
  pub few_y : number_of c YWidth ≤ 128
  pub three : outputs_of c.kind ≡ row X (Of YWidth) ∷ row Y (Of YWidth) ∷ row Co (Of YWidth) ∷ []

alu_operands : operands_of Alu ≡ a_row ∷ b_row ∷ row Ci OneBit ∷ row Bi OneBit ∷ []
unfolding operands_of
alu_operands = refl

alu_outputs : outputs_of Alu ≡ row X (Of YWidth) ∷ row Y (Of YWidth) ∷ row Co (Of YWidth) ∷ []
unfolding outputs_of
alu_outputs = refl

alu_limit_a : width_limit Alu A ≡ 128
unfolding width_limit
alu_limit_a = refl

alu_limit_b : width_limit Alu B ≡ 128
unfolding width_limit
alu_limit_b = refl

alu_limit_x : width_limit Alu X ≡ 128
unfolding width_limit
alu_limit_x = refl

pub alu_cell : (c : Cell) → IsFitted c → c.kind ≡ Alu → IsAlu c
alu_cell c h e =
    let rows : operands_of c.kind ≡ a_row ∷ b_row ∷ row Ci OneBit ∷ row Bi OneBit ∷ [] = ap operands_of e ∙ alu_operands in
    let out_rows : outputs_of c.kind ≡ row X (Of YWidth) ∷ row Y (Of YWidth) ∷ row Co (Of YWidth) ∷ [] = ap outputs_of e ∙ alu_outputs in
    let not_memory : c.kind ≢ Mem = λ q. absurd (let r : Alu ≡ Mem = sym e ∙ q in cc) in
    let within : AllWithin c (a_row ∷ b_row ∷ row Ci OneBit ∷ row Bi OneBit ∷ []) = subst (λ rs. AllWithin c rs) rows (h.operands_within not_memory) in
    let out_within : AllWithin c (row X (Of YWidth) ∷ row Y (Of YWidth) ∷ row Co (Of YWidth) ∷ []) = subst (λ rs. AllWithin c rs) out_rows (h.outputs_within not_memory) in
    let a : IsWithin c a_row = within.0 in
    let b : IsWithin c b_row = within.1.0 in
    let x : IsWithin c (row X (Of YWidth)) = out_within.0 in
    record {
      widths = h.operands ∙ ap (map (row_width c)) rows;
      some_a = a.some;
      some_b = b.some;
      some_y = x.some;
      few_a = subst (λ m. number_of c AWidth ≤ m) (ap (λ k. width_limit k A) e ∙ alu_limit_a) a.limit;
      few_b = subst (λ m. number_of c BWidth ≤ m) (ap (λ k. width_limit k B) e ∙ alu_limit_b) b.limit;
      few_y = subst (λ m. number_of c YWidth ≤ m) (ap (λ k. width_limit k X) e ∙ alu_limit_x) x.limit;
      three = out_rows;
    }

-- operand words of such a cell
record AreFour (m k : ℕ) (vs : List Word) : Type 0 where
  first : length (operand vs 0) ≡ m
  second : length (operand vs 1) ≡ k
  third : length (operand vs 2) ≡ 1
  fourth : length (operand vs 3) ≡ 1
  whole : vs ≡ four (operand vs 0) (operand vs 1) (operand vs 2) (operand vs 3)

four_of_words : (m k : ℕ) (vs : List Word) → map length vs ≡ m ∷ k ∷ 1 ∷ 1 ∷ [] → AreFour m k vs
four_of_words m k [] h = absurd (let q : 0 ≡ 4 = ap length h in omega arith)
four_of_words m k (v ∷ []) h = absurd (let q : 1 ≡ 4 = ap length h in omega arith)
four_of_words m k (v ∷ w ∷ []) h = absurd (let q : 2 ≡ 4 = ap length h in omega arith)
four_of_words m k (v ∷ w ∷ x ∷ []) h = absurd (let q : 3 ≡ 4 = ap length h in omega arith)
four_of_words m k (v ∷ w ∷ x ∷ y ∷ []) h = record {
  first = ap (λ (xs : List ℕ). get_or xs 0 0) h;
  second = ap (λ (xs : List ℕ). get_or xs 1 0) h;
  third = ap (λ (xs : List ℕ). get_or xs 2 0) h;
  fourth = ap (λ (xs : List ℕ). get_or xs 3 0) h;
  whole = refl;
}
four_of_words m k (v ∷ w ∷ x ∷ y ∷ z ∷ vs) h = absurd (let q : suc (suc (suc (suc (suc (length (map length vs)))))) ≡ 4 = ap length h in omega arith)

-- ---- widths and costs

abbrev AluWidths : List ℕ → ℕ → ℕ → Type 0
AluWidths ws a b = ws ≡ a ∷ b ∷ 1 ∷ 1 ∷ []

formed_bit_bound : (ws named : List ℕ) (p : ℕ) (upper : Bool) → slice_get ws p ≡ Some 1 → IsFormed (bit_bound p upper) ws named 1 2
formed_bit_bound ws named p true h = raised 2 (two_more Or (omega arith) (λ e. absurd (cc)) (formed_value ws named p 1 h (omega arith) (omega arith)) (formed_taint ws named p 1 h (omega arith) (omega arith))) (omega arith)
formed_bit_bound ws named p false h = raised 2 (two_more And (omega arith) (λ e. absurd (cc)) (formed_value ws named p 1 h (omega arith) (omega arith)) (one_more Not (omega arith) (formed_taint ws named p 1 h (omega arith) (omega arith)))) (omega arith)

forms_inverted : (ws : List ℕ) (n m : ℕ) (signed : Bool) (p q : ℕ) (upper : Bool) → slice_get ws p ≡ Some m → slice_get ws q ≡ Some 1 → 1 ≤ m → m ≤ 128 → 1 ≤ n → n ≤ 128
    → Forms (Two Xor (operand_word n signed m p) (repeated n (bit_bound q upper))) ws n 3
forms_inverted ws n m signed p q upper h g some few some_n few_n named =
    two_more Xor (omega arith) (λ e. absurd (cc)) (forms_value ws n m signed p h some (omega arith) some_n (omega arith) named)
    (formed_extended n 1 true (formed_bit_bound ws named q upper g) (omega arith) some_n (omega arith))

-- the widths of what alu_named names
abbrev inner_widths : ℕ → List ℕ
inner_widths n = (n + n) ∷ (n + n) ∷ (n + n) ∷ (n + n) ∷ []

formed_named : (ws : List ℕ) (n a b : ℕ) (signed : Bool) (body : Formula) (k : ℕ) → AluWidths ws a b → 1 ≤ a → a ≤ 128 → 1 ≤ b → b ≤ 128 → 1 ≤ n → n ≤ 128 → IsFormed body ws (inner_widths n) n k
    → IsFormed (alu_named n signed a b body) ws [] n (k + 25)
formed_named ws n a b signed body k e some_a few_a some_b few_b some few h =
    let at_a : slice_get ws 0 ≡ Some a = ap (λ xs. slice_get xs 0) e in
    let at_b : slice_get ws 1 ≡ Some b = ap (λ xs. slice_get xs 1) e in
    let at_c : slice_get ws 2 ≡ Some 1 = ap (λ xs. slice_get xs 2) e in
    let at_d : slice_get ws 3 ≡ Some 1 = ap (λ xs. slice_get xs 3) e in
    raised (k + 25)
    (formed_let (formed_bounds some (omega arith) (forms_value ws n a signed 0 at_a some_a (omega arith) some (omega arith) []) (forms_taint ws n a signed 0 at_a some_a (omega arith) some (omega arith) []))
    (formed_let (formed_join (formed_extended n 1 false (formed_bit_bound ws ((n + n) ∷ []) 2 false at_c) (omega arith) some (omega arith)) (formed_extended n 1 false (formed_bit_bound ws ((n + n) ∷ []) 2 true at_c) (omega arith) some (omega arith)) (omega arith) (omega arith))
    (formed_let (formed_bounds some (omega arith) (forms_inverted ws n b signed 1 3 false at_b at_d some_b few_b some few ((n + n) ∷ (n + n) ∷ [])) (forms_taint ws n b signed 1 at_b some_b (omega arith) some (omega arith) ((n + n) ∷ (n + n) ∷ [])))
    (formed_let (formed_bounds some (omega arith) (forms_inverted ws n b signed 1 3 true at_b at_d some_b few_b some few ((n + n) ∷ (n + n) ∷ (n + n) ∷ [])) (forms_taint ws n b signed 1 at_b some_b (omega arith) some (omega arith) ((n + n) ∷ (n + n) ∷ (n + n) ∷ [])))
    h))))
    (omega arith)

bound_named : (ws : List ℕ) (n i : ℕ) → slice_get (inner_widths n) i ≡ Some (n + n) → 1 ≤ n → n ≤ 128 → IsFormed (Bound i) ws (inner_widths n) (n + n) 0
bound_named ws n i h some few = formed_bound ws (inner_widths n) i (n + n) h (omega arith) (omega arith)

second_bound : (ws : List ℕ) (n : ℕ) (inverted : Bool) → 1 ≤ n → n ≤ 128 → IsFormed (Bound (if inverted then 0 else 1)) ws (inner_widths n) (n + n) 0
second_bound ws n true some few = bound_named ws n 0 refl some few
second_bound ws n false some few = bound_named ws n 1 refl some few

formed_alu_sum : (ws : List ℕ) (n j k : ℕ) (inverted : Bool) → 1 ≤ n → n ≤ 128 → AllFormed (sum_at (alu_sums n j k inverted)) ws (inner_widths n) n 2
formed_alu_sum ws n j k inverted some few upper p q =
    two_more Add (omega arith) (λ e. few)
    (two_more Add (omega arith) (λ e. few) (formed_half j upper p some (omega arith) (bound_named ws n 3 refl some few)) (formed_half k upper q some (omega arith) (second_bound ws n inverted some few)))
    (formed_half n upper upper some (omega arith) (bound_named ws n 2 refl some few))

formed_carries : (ws : List ℕ) (n : ℕ) (inverted : Bool) → 1 ≤ n → n ≤ 128 → (upper : Bool) → IsFormed (carries_at (alu_sums n n n inverted) upper) ws (inner_widths n) n 7
formed_carries ws n inverted some few upper =
    let short : n ≤ 4096 = omega arith in
    let a = formed_half n upper upper some short (bound_named ws n 3 refl some few) in
    let b = formed_half n upper upper some short (second_bound ws n inverted some few) in
    two_more Or short (λ e. absurd (cc)) (two_more And short (λ e. absurd (cc)) a b)
    (two_more And short (λ e. absurd (cc)) (two_more Or short (λ e. absurd (cc)) a b) (one_more Not short (formed_alu_sum ws n n n inverted some few upper upper upper)))

formed_sum_output : (ws : List ℕ) (n a b : ℕ) (signed : Bool) → AluWidths ws a b → 1 ≤ a → a ≤ 128 → 1 ≤ b → b ≤ 128 → 1 ≤ n → n ≤ 128 → IsFormed (alu_sum_taint n signed a b) ws [] n 120
formed_sum_output ws n a b signed e some_a few_a some_b few_b some few =
    let at_a : slice_get ws 0 ≡ Some a = ap (λ xs. slice_get xs 0) e in
    let at_b : slice_get ws 1 ≡ Some b = ap (λ xs. slice_get xs 1) e in
    let j : ℕ = sign_start n signed a in
    let k : ℕ = sign_start n signed b in
    let short : n ≤ 4096 = omega arith in
    let s0 : Sums = alu_sums n j k false in
    let s1 : Sums = alu_sums n j k true in
    raised 120
    (formed_named ws n a b signed _ 91 e some_a few_a some_b few_b some few
    (two_more Or short (λ q. absurd (cc))
    (two_more Or short (λ q. absurd (cc)) (formed_below j some short (forms_taint ws n a signed 0 at_a some_a (omega arith) some short (inner_widths n))) (formed_below k some short (forms_taint ws n b signed 1 at_b some_b (omega arith) some short (inner_widths n))))
    (formed_joined short
    (formed_cases (nat_lt j n) (nat_lt k n) (sum_at s0) ws (inner_widths n) n 2 short (formed_alu_sum ws n j k false some few))
    (formed_cases (nat_lt j n) (nat_lt k n) (sum_at s1) ws (inner_widths n) n 2 short (formed_alu_sum ws n j k true some few))
    (formed_alu_sum ws n j k false some few false false false) (formed_alu_sum ws n j k true some few false false false))))
    (omega arith)

formed_carry_output : (ws : List ℕ) (n a b : ℕ) (signed : Bool) → AluWidths ws a b → 1 ≤ a → a ≤ 128 → 1 ≤ b → b ≤ 128 → 1 ≤ n → n ≤ 128 → IsFormed (alu_carry_taint n signed a b) ws [] n 80
formed_carry_output ws n a b signed e some_a few_a some_b few_b some few =
    let short : n ≤ 4096 = omega arith in
    let c0 = formed_carries ws n false some few in
    let c1 = formed_carries ws n true some few in
    raised 80
    (formed_named ws n a b signed _ 47 e some_a few_a some_b few_b some few
    (formed_joined short (two_more Xor short (λ q. absurd (cc)) (c0 false) (c0 true)) (two_more Xor short (λ q. absurd (cc)) (c1 false) (c1 true)) (c0 false) (c1 false)))
    (omega arith)

formed_xor_output : (ws : List ℕ) (n a b : ℕ) (signed : Bool) → AluWidths ws a b → 1 ≤ a → a ≤ 128 → 1 ≤ b → b ≤ 128 → 1 ≤ n → n ≤ 128 → IsFormed (alu_xor_taint n signed a b) ws [] n 2
formed_xor_output ws n a b signed e some_a few_a some_b few_b some few =
    let short : n ≤ 4096 = omega arith in
    two_more Or short (λ q. absurd (cc))
    (two_more Or short (λ q. absurd (cc)) (forms_taint ws n a signed 0 (ap (λ xs. slice_get xs 0) e) some_a (omega arith) some short []) (forms_taint ws n b signed 1 (ap (λ xs. slice_get xs 1) e) some_b (omega arith) some short []))
    (formed_extended n 1 true (formed_taint ws [] 3 1 (ap (λ xs. slice_get xs 3) e) (omega arith) (omega arith)) (omega arith) some (omega arith))

-- ---- each output

output_is : (c : Cell) → IsAlu c → (p : ℕ) → p < 3 → output_width c p ≡ y_width c
output_is c h zero l = ap (λ (rows : List PortRow). get_or (map (row_width c) rows) 0 0) h.three
output_is c h (suc zero) l = ap (λ (rows : List PortRow). get_or (map (row_width c) rows) 1 0) h.three
output_is c h (suc (suc zero)) l = ap (λ (rows : List PortRow). get_or (map (row_width c) rows) 2 0) h.three
output_is c h (suc (suc (suc p))) l = absurd (omega arith)

alu_words : (c : Cell) (us : List Word) → words_by Alu c us
    ≡ alu_xor_word (y_width c) (both_signed c) (bit (operand us 3) 0) (operand us 0) (operand us 1)
    ∷ alu_sum_word (y_width c) (both_signed c) (bit (operand us 2) 0) (bit (operand us 3) 0) (operand us 0) (operand us 1)
    ∷ alu_carry_word (y_width c) (both_signed c) (bit (operand us 2) 0) (bit (operand us 3) 0) (operand us 0) (operand us 1) ∷ []
unfolding words_by
alu_words c us = refl

-- f gives the exact taint of the output with the bits g
abbrev FourIsExact : (ℕ → Bool → ℕ → List Word → Bool) → (ℕ → Bool → ℕ → ℕ → Formula) → Type 0
FourIsExact g f = (n : ℕ) (signed : Bool) (a ta b tb c tc d td : Word) → length ta ≡ length a → length tb ≡ length b → 1 ≤ length a → 1 ≤ length b → length c ≡ 1 → length tc ≡ 1 → length d ≡ 1 → length td ≡ 1
    → IsExact n (g n signed) (four a b c d) (four ta tb tc td) (value_of (f n signed (length a) (length b)) (four a b c d) (four ta tb tc td) [])

xor_is_exact : FourIsExact alu_xor_bit alu_xor_taint
xor_is_exact n signed a ta b tb c tc d td e f some_a some_b one_c one_tc one_d one_td =
    alu_xor_exact n signed a ta b tb c tc d td _ e f (one_td ∙ sym one_d) (value-alu_xor n signed a ta b tb c tc d td e f some_a some_b one_td)

sum_is_exact : FourIsExact alu_sum_bit alu_sum_taint
sum_is_exact n signed a ta b tb c tc d td e f some_a some_b one_c one_tc one_d one_td =
    alu_sum_exact n signed a ta b tb c tc d td _ e f (one_tc ∙ sym one_c) some_a some_b one_d one_td (value-alu_sum n signed a ta b tb c tc d td e f some_a some_b one_c one_tc one_d one_td)

carry_is_exact : FourIsExact alu_carry_bit alu_carry_taint
carry_is_exact n signed a ta b tb c tc d td e f some_a some_b one_c one_tc one_d one_td =
    alu_carry_exact n signed a ta b tb c tc d td _ e f (one_tc ∙ sym one_c) some_a some_b one_d one_td (value-alu_carry n signed a ta b tb c tc d td e f some_a some_b one_c one_tc one_d one_td)

exact_at : (c : Cell) (g : ℕ → Bool → ℕ → List Word → Bool) (f : ℕ → Bool → ℕ → ℕ → Formula) → IsAlu c → FourIsExact g f → (vs ts : List Word) → AreFour (number_of c AWidth) (number_of c BWidth) vs → AreFour (number_of c AWidth) (number_of c BWidth) ts
    → IsExact (y_width c) (g (y_width c) (both_signed c)) vs ts (value_of (of_pair f c) vs ts [])
exact_at c g f h exact vs ts pv pt =
    let n : ℕ = y_width c in
    let signed : Bool = both_signed c in
    let a : Word = operand vs 0 in
    let b : Word = operand vs 1 in
    let ci : Word = operand vs 2 in
    let bi : Word = operand vs 3 in
    let ta : Word = operand ts 0 in
    let tb : Word = operand ts 1 in
    let tci : Word = operand ts 2 in
    let tbi : Word = operand ts 3 in
    let some_a : 1 ≤ length a = subst (λ m. 1 ≤ m) (sym pv.first) h.some_a in
    let some_b : 1 ≤ length b = subst (λ m. 1 ≤ m) (sym pv.second) h.some_b in
    let at_words : IsExact n (g n signed) (four a b ci bi) (four ta tb tci tbi) (value_of (f n signed (length a) (length b)) (four a b ci bi) (four ta tb tci tbi) []) =
    exact n signed a ta b tb ci tci bi tbi (pt.first ∙ sym pv.first) (pt.second ∙ sym pv.second) some_a some_b pv.third pt.third pv.fourth pt.fourth in
    let at_a = subst (λ m. IsExact n (g n signed) (four a b ci bi) (four ta tb tci tbi) (value_of (f n signed m (length b)) (four a b ci bi) (four ta tb tci tbi) [])) pv.first at_words in
    let at_b = subst (λ m. IsExact n (g n signed) (four a b ci bi) (four ta tb tci tbi) (value_of (f n signed (number_of c AWidth) m) (four a b ci bi) (four ta tb tci tbi) [])) pv.second at_a in
    let at_v = subst (λ ws. IsExact n (g n signed) ws (four ta tb tci tbi) (value_of (of_pair f c) ws (four ta tb tci tbi) [])) (sym pv.whole) at_b in
    subst (λ ws. IsExact n (g n signed) vs ws (value_of (of_pair f c) vs ws [])) (sym pt.whole) at_v

output_taint_is : (c : Cell) (p k : ℕ) (g : ℕ → Bool → ℕ → List Word → Bool) (f : ℕ → Bool → ℕ → ℕ → Formula) → IsAlu c → is_coarse c.kind ≡ false → p < 3
    → ((i : ℕ) (us : List Word) → bit (operand (meaning c us) p) i ≡ g (y_width c) (both_signed c) i us) → FourIsExact g f → IsFormed (of_pair f c) (operand_widths c) [] (y_width c) k → IsTaintOf c p (of_pair f c)
output_taint_is c p k g f h fine l same exact formed = record {
  formed = formed.width ∙ ap Some (sym (output_is c h p l));
  means = λ vs ts hv ht.
      exact_taint c p (g (y_width c) (both_signed c)) vs ts (value_of (of_pair f c) vs ts []) fine same
      (subst (λ m. IsExact m (g (y_width c) (both_signed c)) vs ts (value_of (of_pair f c) vs ts [])) (sym (output_is c h p l))
      (exact_at c g f h exact vs ts (four_of_words (number_of c AWidth) (number_of c BWidth) vs (hv ∙ h.widths)) (four_of_words (number_of c AWidth) (number_of c BWidth) ts (ht ∙ h.widths))));
}

each_of_three : (c : Cell) (f g k : Formula) → IsTaintOf c 0 f → IsTaintOf c 1 g → IsTaintOf c 2 k → (p : ℕ) → p < 3 → IsTaintOf c p (get_or (f ∷ g ∷ k ∷ []) p (Const []))
each_of_three c f g k x y z zero l = x
each_of_three c f g k x y z (suc zero) l = y
each_of_three c f g k x y z (suc (suc zero)) l = z
each_of_three c f g k x y z (suc (suc (suc p))) l = absurd (omega arith)

alu_weight : (c : Cell) → weight_by Alu c ≡ 224
unfolding weight_by
alu_weight c = refl

pub alu_taints : (c : Cell) → IsFitted c → c.kind ≡ Alu → AreTaintsOf c (of_pair alu_xor_taint c ∷ of_pair alu_sum_taint c ∷ of_pair alu_carry_taint c ∷ [])
alu_taints c fitted e =
    let h = alu_cell c fitted e in
    let fine : is_coarse c.kind ≡ false = ap is_coarse e in
    let n : ℕ = y_width c in
    let signed : Bool = both_signed c in
    let x = formed_xor_output (operand_widths c) n (number_of c AWidth) (number_of c BWidth) signed h.widths h.some_a h.few_a h.some_b h.few_b h.some_y h.few_y in
    let y = formed_sum_output (operand_widths c) n (number_of c AWidth) (number_of c BWidth) signed h.widths h.some_a h.few_a h.some_b h.few_b h.some_y h.few_y in
    let co = formed_carry_output (operand_widths c) n (number_of c AWidth) (number_of c BWidth) signed h.widths h.some_a h.few_a h.some_b h.few_b h.some_y h.few_y in
    let given : (us : List Word) → meaning c us
    ≡ alu_xor_word n signed (bit (operand us 3) 0) (operand us 0) (operand us 1)
    ∷ alu_sum_word n signed (bit (operand us 2) 0) (bit (operand us 3) 0) (operand us 0) (operand us 1)
    ∷ alu_carry_word n signed (bit (operand us 2) 0) (bit (operand us 3) 0) (operand us 0) (operand us 1) ∷ [] = λ us. ap (λ k. words_by k c us) e ∙ alu_words c us in
    let heavy : weight c ≡ 224 = ap (λ k. weight_by k c) e ∙ alu_weight c in
    record {
      as_many = sym (ap length h.three);
      each = each_of_three c (of_pair alu_xor_taint c) (of_pair alu_sum_taint c) (of_pair alu_carry_taint c)
          (output_taint_is c 0 2 alu_xor_bit alu_xor_taint h fine (omega arith) (λ i us. ap (λ (ws : List Word). bit (operand ws 0) i) (given us)) xor_is_exact x)
          (output_taint_is c 1 120 alu_sum_bit alu_sum_taint h fine (omega arith) (λ i us. ap (λ (ws : List Word). bit (operand ws 1) i) (given us)) sum_is_exact y)
          (output_taint_is c 2 80 alu_carry_bit alu_carry_taint h fine (omega arith) (λ i us. ap (λ (ws : List Word). bit (operand ws 2) i) (given us)) carry_is_exact co);
      cost = (let i = x.cost in let j = y.cost in let k = co.cost in omega arith);
    }
