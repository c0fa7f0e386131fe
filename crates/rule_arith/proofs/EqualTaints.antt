-- The formulas of $eq, $ne, $eqx and $nex are the taint of their cells.
use Rattle.std.specs.Prelude.{ℕ, max, ◌+◌, ◌≤◌, ◌≡◌, ◌==◌, nat_lt, Bool, true, false, not, ◌&&◌, ◌||◌, List, [], ◌∷◌, ◌++◌, length, Some, slice_get, refl}
use Rattle.std.proofs.Common.{arith, ap, ◌∙◌}
use Rattle.cif_defs.specs.Cells.{Cell, binary, both_signed, number_of, words_by, y_width}
use Rattle.cif_defs.specs.Fitted.{IsFitted, operand_widths}
use Rattle.cif_defs.specs.Kinds.{is_coarse}
use Rattle.cif_defs.specs.Meanings.{eq_word, ne_word, reduce_or_word}
use Rattle.cif_defs.specs.Table.{operands_of, outputs_of, width_limit}
use Rattle.cif_defs.specs.Weights.{weight, weight_by}
use Rattle.cif_defs.specs.Words.{Word, bit, extended_bit, flag_word, has_one, operand, word, xor}
use Rattle.cif_defs.specs.declared.kinds.Kind.TheVariants.{Eq, Eqx, Ne, Nex}
use Rattle.cif_defs.specs.declared.kinds.Param.TheVariants.{AWidth, BWidth}
use Rattle.cif_term.specs.CellTaints.{AreTaintsOf}
use Rattle.cif_term.specs.Formulas.{Bound, Formula, IsFormed, One, Taint, Two, value_of}
use Rattle.cif_term.specs.declared.ops.Op1.TheVariants.{Not, ReduceOr}
use Rattle.cif_term.specs.declared.ops.Op2.TheVariants.{And, Or}
use Rattle.cif_term.proofs.ExactTaintWords.{one_output}
use Rattle.cif_term.proofs.FormedFormulas.{formed_bound, formed_extended, formed_let, formed_taint, raised}
use Rattle.cif_term.proofs.Values.{value-and, value-not, value-or}
use Rattle.rule_arith.specs.Addends.{operand_taint, operand_word}
use Rattle.rule_arith.specs.Bounds.{bounds, half_of, sign_start}
use Rattle.rule_arith.specs.EqualFormulas.{either_case, equal_bit, equal_taint, meets, meets_at}
use Rattle.rule_arith.specs.SumFormulas.{of_pair}
use Rattle.rule_arith.proofs.BinaryCells.{IsBinary, RowIsExact, binary_cell, pair_taint}
use Rattle.rule_arith.proofs.BoundValues.{value-bound, value-bounds}
use Rattle.rule_arith.proofs.BoundCompletions.{clash, equal_rule, in_case, meet, side_bit}
use Rattle.rule_arith.proofs.EqualRules.{eq_exact, ne_exact}
use Rattle.rule_arith.proofs.Forming.{formed_bounds, formed_half, one_more, two_more}
use Rattle.rule_arith.proofs.OrderTaints.{value-flag}
use Rattle.rule_arith.proofs.SumTaints.{forms_taint, forms_value, gives_plain, gives_taint}

-- ---- flags

value-some : (b : Bool) (w : Word) (f : Formula) (vs ts named : List Word) → value_of f vs ts named ≡ w → has_one w ≡ b → value_of (One ReduceOr f) vs ts named ≡ flag_word 1 b
value-some b w f vs ts named e h = ap (λ (x : Word). reduce_or_word 1 x) e ∙ ap (flag_word 1) h

value-no : (b : Bool) (f : Formula) (vs ts named : List Word) → value_of f vs ts named ≡ flag_word 1 b → value_of (One Not f) vs ts named ≡ flag_word 1 (not b)
value-no b f vs ts named e = ap (λ (x : Word). word (length x) (λ i. not (bit x i))) e

value-either : (b c : Bool) (f g : Formula) (vs ts named : List Word) → value_of f vs ts named ≡ flag_word 1 b → value_of g vs ts named ≡ flag_word 1 c → value_of (Two Or f g) vs ts named ≡ flag_word 1 (b || c)
value-either b c f g vs ts named e h = value-or 1 (λ i. i == 0 && b) (λ i. i == 0 && c) f g vs ts named e h

value-both : (b c : Bool) (f g : Formula) (vs ts named : List Word) → value_of f vs ts named ≡ flag_word 1 b → value_of g vs ts named ≡ flag_word 1 c → value_of (Two And f g) vs ts named ≡ flag_word 1 (b && c)
value-both b c f g vs ts named e h = value-and 1 (λ i. i == 0 && b) (λ i. i == 0 && c) f g vs ts named e h

value-case : (split : Bool) (f : Bool → Formula) (b : Bool → Bool) (vs ts named : List Word) → ((p : Bool) → value_of (f p) vs ts named ≡ flag_word 1 (b p)) → value_of (either_case split f) vs ts named ≡ flag_word 1 (in_case split b)
value-case true f b vs ts named h = value-either (b false) (b true) (f false) (f true) vs ts named (h false) (h true)
value-case false f b vs ts named h = h false

-- ---- the formula

-- the bounds of an operand, as they are named
abbrev bound_pair : ℕ → Bool → Word → Word → Word
bound_pair m signed v t = word m (λ i. xor (extended_bit signed i v) false && not (extended_bit signed i t)) ++ word m (λ i. xor (extended_bit signed i v) false || extended_bit signed i t)

value-side : (m : ℕ) (signed : Bool) (v t : Word) (upper side : Bool) (pair : Formula) (vs ts named : List Word) → value_of pair vs ts named ≡ bound_pair m signed v t
    → value_of (half_of m (sign_start m signed (length v)) upper side pair) vs ts named ≡ word m (side_bit m signed v t upper side)
value-side m signed v t upper side pair vs ts named e =
    value-bound m (sign_start m signed (length v)) upper side (λ i. xor (extended_bit signed i v) false) (λ i. extended_bit signed i t) pair vs ts named e

value-meets_at : (m : ℕ) (signed : Bool) (a ta b tb : Word) (vs ts named : List Word) → operand named 1 ≡ bound_pair m signed a ta → operand named 0 ≡ bound_pair m signed b tb → (p q : Bool)
    → value_of (meets_at m (sign_start m signed (length a)) (sign_start m signed (length b)) p q) vs ts named ≡ flag_word 1 (meet m signed a ta b tb p q)
value-meets_at m signed a ta b tb vs ts named e f p q =
    let j : ℕ = sign_start m signed (length a) in
    let k : ℕ = sign_start m signed (length b) in
    let a0 : Formula = half_of m j false p (Bound 1) in
    let a1 : Formula = half_of m j true p (Bound 1) in
    let b0 : Formula = half_of m k false q (Bound 0) in
    let b1 : Formula = half_of m k true q (Bound 0) in
    value-no (has_one (clash m signed a ta b tb p q)) (One ReduceOr (Two And (Two Or a0 b0) (One Not (Two And a1 b1)))) vs ts named
    (value-some (has_one (clash m signed a ta b tb p q)) (clash m signed a ta b tb p q) (Two And (Two Or a0 b0) (One Not (Two And a1 b1))) vs ts named
    (value-and m (λ i. side_bit m signed a ta false p i || side_bit m signed b tb false q i) (λ i. not (side_bit m signed a ta true p i && side_bit m signed b tb true q i)) (Two Or a0 b0) (One Not (Two And a1 b1)) vs ts named
    (value-or m (side_bit m signed a ta false p) (side_bit m signed b tb false q) a0 b0 vs ts named (value-side m signed a ta false p (Bound 1) vs ts named e) (value-side m signed b tb false q (Bound 0) vs ts named f))
    (value-not m (λ i. side_bit m signed a ta true p i && side_bit m signed b tb true q i) (Two And a1 b1) vs ts named
    (value-and m (side_bit m signed a ta true p) (side_bit m signed b tb true q) a1 b1 vs ts named (value-side m signed a ta true p (Bound 1) vs ts named e) (value-side m signed b tb true q (Bound 0) vs ts named f)))) refl)

value-equal_bit : (m : ℕ) (signed : Bool) (a ta b tb : Word) → length ta ≡ length a → length tb ≡ length b → 1 ≤ length a → 1 ≤ length b
    → value_of (equal_bit m signed (length a) (length b)) (a ∷ b ∷ []) (ta ∷ tb ∷ []) [] ≡ flag_word 1 (equal_rule m signed a ta b tb)
value-equal_bit m signed a ta b tb e f some_a some_b =
    let vs : List Word = a ∷ b ∷ [] in
    let ts : List Word = ta ∷ tb ∷ [] in
    let j : ℕ = sign_start m signed (length a) in
    let k : ℕ = sign_start m signed (length b) in
    let first : Word = value_of (bounds (operand_word m signed (length a) 0) (operand_taint m signed (length a) 0)) vs ts [] in
    let second : Word = value_of (bounds (operand_word m signed (length b) 1) (operand_taint m signed (length b) 1)) vs ts (first ∷ []) in
    let inner : List Word = second ∷ first ∷ [] in
    let of_first : first ≡ bound_pair m signed a ta = value-bounds m (λ i. xor (extended_bit signed i a) false) (λ i. extended_bit signed i ta) (operand_word m signed (length a) 0) (operand_taint m signed (length a) 0) vs ts []
    (gives_plain m (length a) signed 0 vs ts refl some_a []) (gives_taint m (length a) signed 0 vs ts e some_a []) in
    let of_second : second ≡ bound_pair m signed b tb = value-bounds m (λ i. xor (extended_bit signed i b) false) (λ i. extended_bit signed i tb) (operand_word m signed (length b) 1) (operand_taint m signed (length b) 1) vs ts (first ∷ [])
    (gives_plain m (length b) signed 1 vs ts refl some_b (first ∷ [])) (gives_taint m (length b) signed 1 vs ts f some_b (first ∷ [])) in
    value-both (in_case (nat_lt j m) (λ p. in_case (nat_lt k m) (meet m signed a ta b tb p))) (has_one ta || has_one tb) (meets m j k) (Two Or (One ReduceOr (Taint 0)) (One ReduceOr (Taint 1))) vs ts inner
    (value-case (nat_lt j m) (λ p. either_case (nat_lt k m) (meets_at m j k p)) (λ p. in_case (nat_lt k m) (meet m signed a ta b tb p)) vs ts inner
    (λ p. value-case (nat_lt k m) (meets_at m j k p) (meet m signed a ta b tb p) vs ts inner (value-meets_at m signed a ta b tb vs ts inner of_first of_second p)))
    (value-either (has_one ta) (has_one tb) (One ReduceOr (Taint 0)) (One ReduceOr (Taint 1)) vs ts inner (value-some (has_one ta) ta (Taint 0) vs ts inner refl refl) (value-some (has_one tb) tb (Taint 1) vs ts inner refl refl))

equal_row : (n : ℕ) (signed : Bool) (a ta b tb : Word) → length ta ≡ length a → length tb ≡ length b → 1 ≤ length a → 1 ≤ length b
    → value_of (equal_taint n signed (length a) (length b)) (a ∷ b ∷ []) (ta ∷ tb ∷ []) [] ≡ flag_word n (equal_rule (max (length a) (length b)) signed a ta b tb)
equal_row n signed a ta b tb e f some_a some_b =
    let m : ℕ = max (length a) (length b) in
    value-flag n (equal_rule m signed a ta b tb) (equal_bit m signed (length a) (length b)) (a ∷ b ∷ []) (ta ∷ tb ∷ []) [] (value-equal_bit m signed a ta b tb e f some_a some_b)

-- ---- widths and costs

formed_meets_at : (ws : List ℕ) (m j k : ℕ) → 1 ≤ m → m ≤ 4096 → (p q : Bool) → IsFormed (meets_at m j k p q) ws ((m + m) ∷ (m + m) ∷ []) 1 6
formed_meets_at ws m j k some few p q =
    let inner : List ℕ = (m + m) ∷ (m + m) ∷ [] in
    let first : IsFormed (Bound 1) ws inner (m + m) 0 = formed_bound ws inner 1 (m + m) refl (omega arith) (omega arith) in
    let second : IsFormed (Bound 0) ws inner (m + m) 0 = formed_bound ws inner 0 (m + m) refl (omega arith) (omega arith) in
    one_more Not (omega arith) (one_more ReduceOr few (two_more And few (λ e. absurd (cc))
    (two_more Or few (λ e. absurd (cc)) (formed_half j false p some few first) (formed_half k false q some few second))
    (one_more Not few (two_more And few (λ e. absurd (cc)) (formed_half j true p some few first) (formed_half k true q some few second)))))

formed_either : (split : Bool) (f : Bool → Formula) (ws named : List ℕ) (k : ℕ) → ((p : Bool) → IsFormed (f p) ws named 1 k) → IsFormed (either_case split f) ws named 1 (k + k + 1)
formed_either true f ws named k h = two_more Or (omega arith) (λ e. absurd (cc)) (h false) (h true)
formed_either false f ws named k h = raised (k + k + 1) (h false) (omega arith)

formed_equal_bit : (ws : List ℕ) (m : ℕ) (signed : Bool) (a b : ℕ) → slice_get ws 0 ≡ Some a → slice_get ws 1 ≡ Some b → 1 ≤ a → 1 ≤ b → a ≤ m → b ≤ m → m ≤ 4096 → IsFormed (equal_bit m signed a b) ws [] 1 37
formed_equal_bit ws m signed a b at_a at_b some_a some_b few_a few_b few =
    let inner : List ℕ = (m + m) ∷ (m + m) ∷ [] in
    let j : ℕ = sign_start m signed a in
    let k : ℕ = sign_start m signed b in
    let some : 1 ≤ m = omega arith in
    raised 37
    (formed_let (formed_bounds some few (forms_value ws m a signed 0 at_a some_a (omega arith) some few []) (forms_taint ws m a signed 0 at_a some_a (omega arith) some few []))
    (formed_let (formed_bounds some few (forms_value ws m b signed 1 at_b some_b (omega arith) some few ((m + m) ∷ [])) (forms_taint ws m b signed 1 at_b some_b (omega arith) some few ((m + m) ∷ [])))
    (two_more And (omega arith) (λ e. absurd (cc))
    (formed_either (nat_lt j m) (λ p. either_case (nat_lt k m) (meets_at m j k p)) ws inner 13 (λ p. formed_either (nat_lt k m) (meets_at m j k p) ws inner 6 (formed_meets_at ws m j k some few p)))
    (two_more Or (omega arith) (λ e. absurd (cc))
    (one_more ReduceOr (omega arith) (formed_taint ws inner 0 a at_a some_a (omega arith))) (one_more ReduceOr (omega arith) (formed_taint ws inner 1 b at_b some_b (omega arith)))))))
    (omega arith)

equal_formed : (c : Cell) → IsBinary c 4096 → IsFormed (of_pair equal_taint c) (operand_widths c) [] (y_width c) 37
equal_formed c b =
    let few : y_width c ≤ 4096 = b.few_y in
    let few_a : number_of c AWidth ≤ 4096 = b.few_a in
    let few_b : number_of c BWidth ≤ 4096 = b.few_b in
    formed_extended (y_width c) 1 false
    (formed_equal_bit (operand_widths c) (max (number_of c AWidth) (number_of c BWidth)) (both_signed c) (number_of c AWidth) (number_of c BWidth) (ap (λ ws. slice_get ws 0) b.widths) (ap (λ ws. slice_get ws 1) b.widths)
    b.some_a b.some_b (omega arith) (omega arith) (omega arith))
    (omega arith) b.some_y (omega arith)

eq_row_exact : RowIsExact eq_word equal_taint
eq_row_exact n signed a ta b tb some e f some_a some_b = eq_exact n (max (length a) (length b)) signed a ta b tb _ e f some_a some_b (omega arith) (omega arith) (equal_row n signed a ta b tb e f some_a some_b)

ne_row_exact : RowIsExact ne_word equal_taint
ne_row_exact n signed a ta b tb some e f some_a some_b = ne_exact n (max (length a) (length b)) signed a ta b tb _ e f some_a some_b (omega arith) (omega arith) (equal_row n signed a ta b tb e f some_a some_b)

-- ---- the kinds

pub eq_cell : (c : Cell) → IsFitted c → c.kind ≡ Eq → IsBinary c 4096
unfolding operands_of outputs_of width_limit
eq_cell c h e = binary_cell c Eq 4096 h e (λ q. absurd (cc)) refl refl refl refl refl

eq_words : (c : Cell) (us : List Word) → words_by Eq c us ≡ binary eq_word c us
unfolding words_by
eq_words c us = refl

eq_weight : (c : Cell) → weight_by Eq c ≡ 64
unfolding weight_by
eq_weight c = refl

pub eq_taints : (c : Cell) → IsFitted c → c.kind ≡ Eq → AreTaintsOf c (of_pair equal_taint c ∷ [])
eq_taints c h e =
    let b = eq_cell c h e in
    let formed = equal_formed c b in
    let heavy : weight c ≡ 64 = ap (λ k. weight_by k c) e ∙ eq_weight c in
    one_output c (of_pair equal_taint c) (ap length b.one_output)
    (pair_taint c 4096 37 eq_word equal_taint b (ap is_coarse e) (λ us. ap (λ k. words_by k c us) e ∙ eq_words c us) eq_row_exact formed) (let k = formed.cost in omega arith)

pub ne_cell : (c : Cell) → IsFitted c → c.kind ≡ Ne → IsBinary c 4096
unfolding operands_of outputs_of width_limit
ne_cell c h e = binary_cell c Ne 4096 h e (λ q. absurd (cc)) refl refl refl refl refl

ne_words : (c : Cell) (us : List Word) → words_by Ne c us ≡ binary ne_word c us
unfolding words_by
ne_words c us = refl

ne_weight : (c : Cell) → weight_by Ne c ≡ 64
unfolding weight_by
ne_weight c = refl

pub ne_taints : (c : Cell) → IsFitted c → c.kind ≡ Ne → AreTaintsOf c (of_pair equal_taint c ∷ [])
ne_taints c h e =
    let b = ne_cell c h e in
    let formed = equal_formed c b in
    let heavy : weight c ≡ 64 = ap (λ k. weight_by k c) e ∙ ne_weight c in
    one_output c (of_pair equal_taint c) (ap length b.one_output)
    (pair_taint c 4096 37 ne_word equal_taint b (ap is_coarse e) (λ us. ap (λ k. words_by k c us) e ∙ ne_words c us) ne_row_exact formed) (let k = formed.cost in omega arith)

pub eqx_cell : (c : Cell) → IsFitted c → c.kind ≡ Eqx → IsBinary c 4096
unfolding operands_of outputs_of width_limit
eqx_cell c h e = binary_cell c Eqx 4096 h e (λ q. absurd (cc)) refl refl refl refl refl

eqx_words : (c : Cell) (us : List Word) → words_by Eqx c us ≡ binary eq_word c us
unfolding words_by
eqx_words c us = refl

eqx_weight : (c : Cell) → weight_by Eqx c ≡ 64
unfolding weight_by
eqx_weight c = refl

pub eqx_taints : (c : Cell) → IsFitted c → c.kind ≡ Eqx → AreTaintsOf c (of_pair equal_taint c ∷ [])
eqx_taints c h e =
    let b = eqx_cell c h e in
    let formed = equal_formed c b in
    let heavy : weight c ≡ 64 = ap (λ k. weight_by k c) e ∙ eqx_weight c in
    one_output c (of_pair equal_taint c) (ap length b.one_output)
    (pair_taint c 4096 37 eq_word equal_taint b (ap is_coarse e) (λ us. ap (λ k. words_by k c us) e ∙ eqx_words c us) eq_row_exact formed) (let k = formed.cost in omega arith)

pub nex_cell : (c : Cell) → IsFitted c → c.kind ≡ Nex → IsBinary c 4096
unfolding operands_of outputs_of width_limit
nex_cell c h e = binary_cell c Nex 4096 h e (λ q. absurd (cc)) refl refl refl refl refl

nex_words : (c : Cell) (us : List Word) → words_by Nex c us ≡ binary ne_word c us
unfolding words_by
nex_words c us = refl

nex_weight : (c : Cell) → weight_by Nex c ≡ 64
unfolding weight_by
nex_weight c = refl

pub nex_taints : (c : Cell) → IsFitted c → c.kind ≡ Nex → AreTaintsOf c (of_pair equal_taint c ∷ [])
nex_taints c h e =
    let b = nex_cell c h e in
    let formed = equal_formed c b in
    let heavy : weight c ≡ 64 = ap (λ k. weight_by k c) e ∙ nex_weight c in
    one_output c (of_pair equal_taint c) (ap length b.one_output)
    (pair_taint c 4096 37 ne_word equal_taint b (ap is_coarse e) (λ us. ap (λ k. words_by k c us) e ∙ nex_words c us) ne_row_exact formed) (let k = formed.cost in omega arith)
