-- The taint words of cells, from the formulas that compute them.
use Rattle.std.specs.Prelude.{ℕ, ◌+◌, ◌≤◌, ◌≡◌, Bool, true, false, not, ◌&&◌, ◌||◌, List, [], ◌∷◌, ◌++◌, map, length, refl}
use Rattle.std.specs.List.{range_with_len}
use Rattle.std.proofs.Common.{arith, sym, ap, ◌∙◌}
use Rattle.std.proofs.lemmas.List.{get_or-map, length-map}
use Rattle.std.proofs.lemmas.List.FromFn.{fill_by_all, get_or-range_with_len, length-range_with_len}
use Rattle.cif_bits.proofs.WordForms.{joined_is}
use Rattle.cif_defs.specs.Coarse.{max_word, min_word}
use Rattle.cif_defs.specs.Cells.{Cell, a_signed, both_signed, number_of, y_width}
use Rattle.cif_defs.specs.Fitted.{IsFitted}
use Rattle.cif_defs.specs.Meanings.{concat_word, slice_word}
use Rattle.cif_defs.specs.Table.{outputs_of}
use Rattle.cif_defs.specs.Words.{Word, bit, extended_bit, has_one, majority, operand, word}
use Rattle.cif_defs.specs.declared.kinds.Kind.{Kind}
use Rattle.cif_defs.specs.declared.kinds.Kind.TheVariants.{Not as NotKind, Pos, And as AndKind, Or as OrKind, Xor, Xnor, ReduceAnd as ReduceAndKind, ReduceOr as ReduceOrKind, ReduceXor, ReduceXnor, ReduceBool, LogicNot, LogicAnd, LogicOr}
use Rattle.cif_defs.specs.declared.kinds.Param.TheVariants.{AWidth}
use Rattle.cif_defs.specs.declared.kinds.PortRow.{PortRow}
use Rattle.cif_defs.proofs.Numbers.{word-same}
use Rattle.cif_defs.proofs.WordLaws.{length-word}
use Rattle.cif_term.specs.declared.ops.Op1.TheVariants.{Not, ReduceAnd, ReduceOr}
use Rattle.cif_term.specs.declared.ops.Op2.TheVariants.{And, Or}
use Rattle.cif_term.specs.Formulas.{Formula, Taint, One, Two, picked, value_of, values_of}
use Rattle.cif_term.specs.CellTaints.{AreOperands, taint_words}
use Rattle.cif_term.proofs.OutputTerms.{values_are_taints}
use Rattle.cif_term.proofs.Values.{value-and, value-extended, value-not, value-or}
use Rattle.rule_logic.specs.LogicFormulas.{covers_logic, fa_carry_formula, fa_sum_formula, is_binary, is_unary, logic_by, logic_formula, majority_formula, max_formula, min_formula, reduce_and_formula, reduce_or_formula, reduce_xor_formula, logic_and_formula, logic_or_formula}
use Rattle.rule_logic.proofs.LogicRest.{logic_formulas, logic_taints}
use Rattle.rule_logic.proofs.LogicTaints.{AreExtended, tx_at, ty_at, x_at, y_at}
use Rattle.rule_logic.proofs.LogicValues.{value-both, value-either, value-flag, value-majority, value-max, value-min, value-ones, value-some, value-spread}
use Rattle.word_logic.specs.LogicWords.{binary_taint, carry_taint, highest_carry, lowest_carry, may_be_all_ones, may_have_one, parity_taint, unary_taint}

-- ---- the formulas of outputs

pub one_taint : (c : Cell) (r : PortRow) (vs ts : List Word) → covers_logic c.kind ≡ true → IsFitted c → outputs_of c.kind ≡ r ∷ [] → AreOperands c vs → AreOperands c ts
    → taint_words c vs ts ≡ value_of (logic_by c.kind c 0) vs ts [] ∷ []
one_taint c r vs ts h f e a b =
    sym (values_are_taints c (logic_formulas c) vs ts (logic_taints c h f) a b) ∙ ap (λ (rows : List PortRow). values_of (map (logic_formula c) (range_with_len 0 (length rows))) vs ts) e

pub two_taints : (c : Cell) (r s : PortRow) (vs ts : List Word) → covers_logic c.kind ≡ true → IsFitted c → outputs_of c.kind ≡ r ∷ s ∷ [] → AreOperands c vs → AreOperands c ts
    → taint_words c vs ts ≡ value_of (logic_by c.kind c 0) vs ts [] ∷ value_of (logic_by c.kind c 1) vs ts [] ∷ []
two_taints c r s vs ts h f e a b =
    sym (values_are_taints c (logic_formulas c) vs ts (logic_taints c h f) a b) ∙ ap (λ (rows : List PortRow). values_of (map (logic_formula c) (range_with_len 0 (length rows))) vs ts) e

-- ---- one operand

ones_value : (v x : Word) → length x ≡ length v → value_of reduce_and_formula (v ∷ []) (x ∷ []) [] ≡ may_be_all_ones v x ∷ []
ones_value v x e = value-spread (One ReduceAnd (max_formula 0)) (One ReduceAnd (min_formula 0)) (v ∷ []) (x ∷ []) _ _
    (value-ones (max_formula 0) (v ∷ []) (x ∷ []) (max_word v x) (value-max 0 (v ∷ []) (x ∷ []))) (value-ones (min_formula 0) (v ∷ []) (x ∷ []) (min_word v x) (value-min 0 (v ∷ []) (x ∷ []) e))

some_value : (v x : Word) → length x ≡ length v → value_of reduce_or_formula (v ∷ []) (x ∷ []) [] ≡ may_have_one v x ∷ []
some_value v x e = value-spread (One ReduceOr (max_formula 0)) (One ReduceOr (min_formula 0)) (v ∷ []) (x ∷ []) _ _
    (value-some (max_formula 0) (v ∷ []) (x ∷ []) (max_word v x) (value-max 0 (v ∷ []) (x ∷ []))) (value-some (min_formula 0) (v ∷ []) (x ∷ []) (min_word v x) (value-min 0 (v ∷ []) (x ∷ []) e))

pub unary_value_of : (k : Kind) (c : Cell) (v t : Word) → is_unary k ≡ true → length t ≡ number_of c AWidth → 1 ≤ number_of c AWidth → length t ≡ length v
    → value_of (logic_by k c 0) (v ∷ []) (t ∷ []) [] ≡ unary_taint k (y_width c) (a_signed c) v t
unfolding logic_by unary_taint
unary_value_of NotKind c v t h m s e = value-extended (y_width c) (number_of c AWidth) (a_signed c) (Taint 0) (v ∷ []) (t ∷ []) [] m s
unary_value_of Pos c v t h m s e = value-extended (y_width c) (number_of c AWidth) (a_signed c) (Taint 0) (v ∷ []) (t ∷ []) [] m s
unary_value_of ReduceAndKind c v t h m s e = value-flag (y_width c) reduce_and_formula (v ∷ []) (t ∷ []) (may_be_all_ones v t) (ones_value v t e)
unary_value_of ReduceOrKind c v t h m s e = value-flag (y_width c) reduce_or_formula (v ∷ []) (t ∷ []) (may_have_one v t) (some_value v t e)
unary_value_of ReduceBool c v t h m s e = value-flag (y_width c) reduce_or_formula (v ∷ []) (t ∷ []) (may_have_one v t) (some_value v t e)
unary_value_of LogicNot c v t h m s e = value-flag (y_width c) reduce_or_formula (v ∷ []) (t ∷ []) (may_have_one v t) (some_value v t e)
unary_value_of ReduceXor c v t h m s e = value-flag (y_width c) reduce_xor_formula (v ∷ []) (t ∷ []) (has_one t) refl
unary_value_of ReduceXnor c v t h m s e = value-flag (y_width c) reduce_xor_formula (v ∷ []) (t ∷ []) (has_one t) refl
unary_value_of _ c v t h m s e = absurd (cc)

-- ---- two operands

abbrev at_c : Cell → Word → ℕ → Bool
at_c c v i = extended_bit (both_signed c) i v

-- a formula of both operands, and its value by places
shown_value : (c : Cell) (v w x z : Word) (f g : Formula) (p q : ℕ → Bool) → AreExtended c v w x z → value_of f (v ∷ w ∷ []) (x ∷ z ∷ []) [] ≡ word (y_width c) p → value_of g (v ∷ w ∷ []) (x ∷ z ∷ []) [] ≡ word (y_width c) q
    → value_of (Two Or (Two And (tx_at c) (ty_at c)) (Two Or (Two And (tx_at c) g) (Two And (ty_at c) f))) (v ∷ w ∷ []) (x ∷ z ∷ []) []
    ≡ word (y_width c) (λ i. (at_c c x i && at_c c z i) || ((at_c c x i && q i) || (at_c c z i && p i)))
shown_value c v w x z f g p q e a b =
    let vs : List Word = v ∷ w ∷ [] in
    let ts : List Word = x ∷ z ∷ [] in
    value-or (y_width c) (λ i. at_c c x i && at_c c z i) (λ i. (at_c c x i && q i) || (at_c c z i && p i)) (Two And (tx_at c) (ty_at c)) (Two Or (Two And (tx_at c) g) (Two And (ty_at c) f)) (v ∷ w ∷ []) (x ∷ z ∷ []) []
    (value-and (y_width c) (at_c c x) (at_c c z) (tx_at c) (ty_at c) (v ∷ w ∷ []) (x ∷ z ∷ []) [] e.vtx e.vty)
    (value-or (y_width c) (λ i. at_c c x i && q i) (λ i. at_c c z i && p i) (Two And (tx_at c) g) (Two And (ty_at c) f) (v ∷ w ∷ []) (x ∷ z ∷ []) []
    (value-and (y_width c) (at_c c x) q (tx_at c) g (v ∷ w ∷ []) (x ∷ z ∷ []) [] e.vtx b) (value-and (y_width c) (at_c c z) p (ty_at c) f (v ∷ w ∷ []) (x ∷ z ∷ []) [] e.vty a))

both_value : (v w x z : Word) → length x ≡ length v → length z ≡ length w → value_of logic_and_formula (v ∷ w ∷ []) (x ∷ z ∷ []) []
    ≡ ((has_one (max_word v x) && has_one (max_word w z)) && not (has_one (min_word v x) && has_one (min_word w z))) ∷ []
both_value v w x z e h = value-spread (Two And (One ReduceOr (max_formula 0)) (One ReduceOr (max_formula 1))) (Two And (One ReduceOr (min_formula 0)) (One ReduceOr (min_formula 1))) (v ∷ w ∷ []) (x ∷ z ∷ []) _ _
    (value-both (One ReduceOr (max_formula 0)) (One ReduceOr (max_formula 1)) (v ∷ w ∷ []) (x ∷ z ∷ []) _ _ (value-some (max_formula 0) (v ∷ w ∷ []) (x ∷ z ∷ []) (max_word v x) (value-max 0 (v ∷ w ∷ []) (x ∷ z ∷ []))) (value-some (max_formula 1) (v ∷ w ∷ []) (x ∷ z ∷ []) (max_word w z) (value-max 1 (v ∷ w ∷ []) (x ∷ z ∷ []))))
    (value-both (One ReduceOr (min_formula 0)) (One ReduceOr (min_formula 1)) (v ∷ w ∷ []) (x ∷ z ∷ []) _ _ (value-some (min_formula 0) (v ∷ w ∷ []) (x ∷ z ∷ []) (min_word v x) (value-min 0 (v ∷ w ∷ []) (x ∷ z ∷ []) e)) (value-some (min_formula 1) (v ∷ w ∷ []) (x ∷ z ∷ []) (min_word w z) (value-min 1 (v ∷ w ∷ []) (x ∷ z ∷ []) h)))

either_value : (v w x z : Word) → length x ≡ length v → length z ≡ length w → value_of logic_or_formula (v ∷ w ∷ []) (x ∷ z ∷ []) []
    ≡ ((has_one (max_word v x) || has_one (max_word w z)) && not (has_one (min_word v x) || has_one (min_word w z))) ∷ []
either_value v w x z e h = value-spread (Two Or (One ReduceOr (max_formula 0)) (One ReduceOr (max_formula 1))) (Two Or (One ReduceOr (min_formula 0)) (One ReduceOr (min_formula 1))) (v ∷ w ∷ []) (x ∷ z ∷ []) _ _
    (value-either (One ReduceOr (max_formula 0)) (One ReduceOr (max_formula 1)) (v ∷ w ∷ []) (x ∷ z ∷ []) _ _ (value-some (max_formula 0) (v ∷ w ∷ []) (x ∷ z ∷ []) (max_word v x) (value-max 0 (v ∷ w ∷ []) (x ∷ z ∷ []))) (value-some (max_formula 1) (v ∷ w ∷ []) (x ∷ z ∷ []) (max_word w z) (value-max 1 (v ∷ w ∷ []) (x ∷ z ∷ []))))
    (value-either (One ReduceOr (min_formula 0)) (One ReduceOr (min_formula 1)) (v ∷ w ∷ []) (x ∷ z ∷ []) _ _ (value-some (min_formula 0) (v ∷ w ∷ []) (x ∷ z ∷ []) (min_word v x) (value-min 0 (v ∷ w ∷ []) (x ∷ z ∷ []) e)) (value-some (min_formula 1) (v ∷ w ∷ []) (x ∷ z ∷ []) (min_word w z) (value-min 1 (v ∷ w ∷ []) (x ∷ z ∷ []) h)))

pub binary_value_of : (k : Kind) (c : Cell) (v w x z : Word) → is_binary k ≡ true → AreExtended c v w x z → length x ≡ length v → length z ≡ length w
    → value_of (logic_by k c 0) (v ∷ w ∷ []) (x ∷ z ∷ []) [] ≡ binary_taint k (y_width c) (both_signed c) v x w z
unfolding logic_by binary_taint
binary_value_of AndKind c v w x z h e a b = shown_value c v w x z (x_at c) (y_at c) (at_c c v) (at_c c w) e e.vx e.vy
binary_value_of OrKind c v w x z h e a b = shown_value c v w x z (One Not (x_at c)) (One Not (y_at c)) (λ i. not (at_c c v i)) (λ i. not (at_c c w i)) e
    (value-not (y_width c) (at_c c v) (x_at c) (v ∷ w ∷ []) (x ∷ z ∷ []) [] e.vx) (value-not (y_width c) (at_c c w) (y_at c) (v ∷ w ∷ []) (x ∷ z ∷ []) [] e.vy)
binary_value_of Xor c v w x z h e a b = value-or (y_width c) (at_c c x) (at_c c z) (tx_at c) (ty_at c) (v ∷ w ∷ []) (x ∷ z ∷ []) [] e.vtx e.vty
binary_value_of Xnor c v w x z h e a b = value-or (y_width c) (at_c c x) (at_c c z) (tx_at c) (ty_at c) (v ∷ w ∷ []) (x ∷ z ∷ []) [] e.vtx e.vty
binary_value_of LogicAnd c v w x z h e a b = value-flag (y_width c) logic_and_formula (v ∷ w ∷ []) (x ∷ z ∷ []) _ (both_value v w x z a b)
binary_value_of LogicOr c v w x z h e a b = value-flag (y_width c) logic_or_formula (v ∷ w ∷ []) (x ∷ z ∷ []) _ (either_value v w x z a b)
binary_value_of _ c v w x z h e a b = absurd (cc)

-- ---- wiring

pub joined_value : (m n : ℕ) (x z : Word) → length x ≡ m → length z ≡ n → x ++ z ≡ concat_word m n x z
joined_value m n x z e h = joined_is x z ∙ ap (λ k. concat_word k (length z) x z) e ∙ ap (λ k. concat_word m k x z) h

pub picked_value : (a n : ℕ) (w : Word) → picked (range_with_len a n) w ≡ slice_word n a w
picked_value a n w = fill_by_all (λ i. bit w (a + i)) (picked (range_with_len a n) w) n false (length-map (range_with_len a n) (λ i. bit w i) ∙ length-range_with_len a n)
    (λ i h. get_or-map (λ k. bit w k) (range_with_len a n) i 0 false (omega (arith, length-range_with_len a n)) ∙ ap (bit w) (get_or-range_with_len a n i 0 h))

-- ---- $fa

majority_again : (a b c : Bool) → ((a && b) || (c && (a || b))) ≡ majority a b c
majority_again true true true = refl
majority_again true true false = refl
majority_again true false true = refl
majority_again true false false = refl
majority_again false true true = refl
majority_again false true false = refl
majority_again false false true = refl
majority_again false false false = refl

own_bits : (n : ℕ) (w : Word) → length w ≡ n → w ≡ word n (bit w)
own_bits n w e = fill_by_all (bit w) w n false e (λ i l. refl)

majority_value : (n : ℕ) (x y z : ℕ → Bool) (f g h : Formula) (vs ts : List Word) → value_of f vs ts [] ≡ word n x → value_of g vs ts [] ≡ word n y → value_of h vs ts [] ≡ word n z
    → value_of (majority_formula f g h) vs ts [] ≡ word n (λ i. majority (x i) (y i) (z i))
majority_value n x y z f g h vs ts a b c = value-majority n x y z f g h vs ts a b c ∙ word-same n _ _ (λ i l. majority_again (x i) (y i) (z i))

max_value : (n p : ℕ) (vs ts : List Word) → length (operand vs p) ≡ n → value_of (max_formula p) vs ts [] ≡ word n (λ i. bit (operand vs p) i || bit (operand ts p) i)
max_value n p vs ts e = value-max p vs ts ∙ ap (λ k. word k (λ i. bit (operand vs p) i || bit (operand ts p) i)) e

min_value : (n p : ℕ) (vs ts : List Word) → length (operand vs p) ≡ n → length (operand ts p) ≡ n → value_of (min_formula p) vs ts [] ≡ word n (λ i. bit (operand vs p) i && not (bit (operand ts p) i))
min_value n p vs ts e h = value-min p vs ts (h ∙ sym e) ∙ ap (λ k. word k (λ i. bit (operand vs p) i && not (bit (operand ts p) i))) e

abbrev three : Word → Word → Word → List Word
three v w x = v ∷ w ∷ x ∷ []

pub carry_value_of : (n : ℕ) (v w x t u z : Word) → length v ≡ n → length w ≡ n → length x ≡ n → length t ≡ n → length u ≡ n → length z ≡ n
    → value_of fa_carry_formula (three v w x) (three t u z) [] ≡ carry_taint n v t w u x z
carry_value_of n v w x t u z a b c d e f =
    let high : value_of (majority_formula (max_formula 0) (max_formula 1) (max_formula 2)) (three v w x) (three t u z) [] ≡ highest_carry n v t w u x z =
    majority_value n _ _ _ (max_formula 0) (max_formula 1) (max_formula 2) (three v w x) (three t u z) (max_value n 0 (three v w x) (three t u z) a) (max_value n 1 (three v w x) (three t u z) b) (max_value n 2 (three v w x) (three t u z) c) in
    let low : value_of (majority_formula (min_formula 0) (min_formula 1) (min_formula 2)) (three v w x) (three t u z) [] ≡ lowest_carry n v t w u x z =
    majority_value n _ _ _ (min_formula 0) (min_formula 1) (min_formula 2) (three v w x) (three t u z) (min_value n 0 (three v w x) (three t u z) a d) (min_value n 1 (three v w x) (three t u z) b e) (min_value n 2 (three v w x) (three t u z) c f) in
    value-and n (bit (highest_carry n v t w u x z)) (λ i. not (bit (lowest_carry n v t w u x z) i)) (majority_formula (max_formula 0) (max_formula 1) (max_formula 2)) (One Not (majority_formula (min_formula 0) (min_formula 1) (min_formula 2))) (three v w x) (three t u z) []
    (high ∙ own_bits n (highest_carry n v t w u x z) (length-word n _))
    (value-not n (bit (lowest_carry n v t w u x z)) (majority_formula (min_formula 0) (min_formula 1) (min_formula 2)) (three v w x) (three t u z) [] (low ∙ own_bits n (lowest_carry n v t w u x z) (length-word n _)))

pub sum_value_of : (n : ℕ) (v w x t u z : Word) → length t ≡ n → length u ≡ n → length z ≡ n → value_of fa_sum_formula (three v w x) (three t u z) [] ≡ parity_taint n t u z
sum_value_of n v w x t u z d e f =
    value-or n (bit t) (λ i. bit u i || bit z i) (Taint 0) (Two Or (Taint 1) (Taint 2)) (three v w x) (three t u z) [] (own_bits n t d)
    (value-or n (bit u) (bit z) (Taint 1) (Taint 2) (three v w x) (three t u z) [] (own_bits n u e) (own_bits n z f))
