-- $concat, $slice and $fa, and all kinds together.
use Rattle.std.specs.Prelude.{ℕ, zero, suc, ◌+◌, ◌*◌, ◌-◌, ◌≤◌, ◌≡◌, nat_lt, Bool, true, false, not, ◌&&◌, ◌||◌, List, [], ◌∷◌, ◌++◌, map, length, get_or, refl, if◌then◌else◌}
use Rattle.std.specs.List.{range_with_len, list_all}
use Rattle.std.proofs.Common.{arith, sym, ap, subst, ◌∙◌}
use Rattle.std.proofs.lemmas.Bool.Decides.{nat_tests}
use Rattle.std.proofs.lemmas.List.{length-map, get_or-map}
use Rattle.std.proofs.lemmas.List.FromFn.{fill_by_all, length-range_with_len, get_or-range_with_len}
use Rattle.cif_bits.proofs.WordForms.{joined_is}
use Rattle.cif_defs.specs.Coarse.{max_word, min_word}
use Rattle.cif_defs.specs.Words.{Word, bit, word, majority, operand, xor}
use Rattle.cif_defs.specs.Kinds.{is_coarse}
use Rattle.cif_defs.specs.Cells.{Cell, number_of, y_width, width, words_by}
use Rattle.cif_defs.specs.Completions.{IsExact}
use Rattle.cif_defs.specs.Meanings.{concat_word}
use Rattle.cif_defs.specs.Table.{a_row, b_row, y_row, row, operands_of, outputs_of, width_limit}
use Rattle.cif_defs.specs.Taint.{output_bit}
use Rattle.cif_defs.specs.Fitted.{IsFitted, operand_widths, row_width}
use Rattle.cif_defs.specs.Weights.{weight, weight_by}
use Rattle.cif_defs.specs.declared.kinds.Kind.{Kind}
use Rattle.cif_defs.specs.declared.kinds.Kind.TheVariants.{Not as NotKind, Pos, And as AndKind, Or as OrKind, Xor as XorKind, Xnor, ReduceAnd as ReduceAndKind, ReduceOr as ReduceOrKind, ReduceXor as ReduceXorKind, ReduceXnor, ReduceBool, LogicNot, LogicAnd, LogicOr, Concat, Slice, Fa}
use Rattle.cif_defs.specs.declared.kinds.Param.TheVariants.{AWidth, BWidth, Offset, Width}
use Rattle.cif_defs.specs.declared.kinds.CellPort.TheVariants.{A, B, C, X, Y}
use Rattle.cif_defs.specs.declared.kinds.PortRow.{PortRow}
use Rattle.cif_defs.specs.declared.kinds.PortWidth.TheVariants.{Of, Sum}
use Rattle.cif_defs.proofs.WordLaws.{length-word}
use Rattle.cif_defs.proofs.Numbers.{word-same}
use Rattle.cif_term.specs.declared.ops.Op1.TheVariants.{Not}
use Rattle.cif_term.specs.declared.ops.Op2.TheVariants.{Or}
use Rattle.cif_term.specs.Formulas.{Formula, Taint, Pick, Join, One, Two, IsFormed, cost_of, picked, value_of}
use Rattle.cif_term.specs.CellTaints.{AreTaintsOf, IsTaintOf, output_width}
use Rattle.cif_term.proofs.FormedFormulas.{formed_join, formed_pick}
use Rattle.cif_term.proofs.Values.{value-and, value-not, value-or}
use Rattle.cif_term.proofs.ExactTaintWords.{one_output, two_outputs}
use Rattle.rule_logic.specs.LogicFormulas.{covers_logic, fa_carry_formula, fa_sum_formula, logic_by, logic_formula, majority_formula, max_formula, min_formula}
use Rattle.rule_logic.proofs.Monotone.{maxes, mins, spreads}
use Rattle.rule_logic.proofs.BitRules.{carry_exact, place_bit, places_exact, sum_exact}
use Rattle.rule_logic.proofs.LogicValues.{value-majority, value-max, value-min}
use Rattle.rule_logic.proofs.LogicTaints.{IsRule, not_plain, or_plain, rule, two_plain}
use Rattle.rule_logic.proofs.LogicKinds.{and_is, formed_max, formed_min, leaf_taint, logic_and_is, logic_not_is, logic_or_is, not_is, or_is, pos_is, reduce_and_is, reduce_bool_is, reduce_or_is, reduce_xnor_is, reduce_xor_is, xnor_is, xor_is}
use Rattle.rule_logic.proofs.Shapes.{HasRows, IsPlain, has_rows, is_taint, one_word, plain, three_words, two_words}

-- ---- $concat

abbrev sum_row : PortRow
sum_row = row Y (Sum AWidth BWidth)

concat_rows : (c : Cell) → c.kind ≡ Concat → IsFitted c → HasRows c (a_row ∷ b_row ∷ []) (sum_row ∷ [])
unfolding operands_of outputs_of
concat_rows c k f = has_rows c Concat (a_row ∷ b_row ∷ []) (sum_row ∷ []) k (λ q. absurd (cc)) refl refl f

pub record IsConcat (c : Cell) : Type 0 where
  pub widths : operand_widths c ≡ number_of c AWidth ∷ number_of c BWidth ∷ []
  pub a : IsPlain (number_of c AWidth)
  pub b : IsPlain (number_of c BWidth)
  pub y : IsPlain (number_of c AWidth + number_of c BWidth)
  pub output : output_width c 0 ≡ number_of c AWidth + number_of c BWidth
  pub weighs : weight c ≡ 12

is_concat : (c : Cell) → c.kind ≡ Concat → IsFitted c → IsConcat c
unfolding width_limit weight_by
is_concat c k f =
    let r : HasRows c (a_row ∷ b_row ∷ []) (sum_row ∷ []) = concat_rows c k f in
    let i = r.within in let o = r.outputs_within in
    record {
      widths = r.widths;
      a = plain c Concat a_row k refl i.0;
      b = plain c Concat b_row k refl (let j = i.1 in j.0);
      y = plain c Concat sum_row k refl o.0;
      output = ap (λ rows. get_or (map (row_width c) rows) 0 0) r.output_rows;
      weighs = ap (λ x. weight_by x c) k;
    }

-- the operand and the place that bit i shows
abbrev port_at : ℕ → ℕ → ℕ
port_at m i = if nat_lt i m then 0 else 1

abbrev place_at : ℕ → ℕ → ℕ
place_at m i = if nat_lt i m then i else i - m

split_if : (b : Bool) (i m : ℕ) (us : List Word) → (if b then bit (operand us 0) i else bit (operand us 1) (i - m)) ≡ bit (operand us (if b then 0 else 1)) (if b then i else i - m)
split_if true i m us = refl
split_if false i m us = refl

joined_places : (m n : ℕ) (us : List Word) → concat_word m n (operand us 0) (operand us 1) ≡ word (m + n) (λ j. place_bit (port_at m j) (place_at m j) us)
joined_places m n us = word-same (m + n) _ _ (λ i h. split_if (nat_lt i m) i m us)

concat_row : (c : Cell) → c.kind ≡ Concat → (i : ℕ) (us : List Word) → output_bit c 0 i us ≡ bit (word (number_of c AWidth + number_of c BWidth) (λ j. place_bit (port_at (number_of c AWidth) j) (place_at (number_of c AWidth) j) us)) i
unfolding words_by
concat_row c k i us = ap (λ x. bit (operand (words_by x c us) 0) i) k ∙ ap (λ (w : Word). bit w i) (joined_places (number_of c AWidth) (number_of c BWidth) us)

two_long : (v w x z : Word) → length x ≡ length v → length z ≡ length w → (p : ℕ) → length (operand (x ∷ z ∷ []) p) ≡ length (operand (v ∷ w ∷ []) p)
two_long v w x z e h zero = e
two_long v w x z e h (suc zero) = h
two_long v w x z e h (suc (suc p)) = refl

joined_value : (m n : ℕ) (x z : Word) → length x ≡ m → length z ≡ n → x ++ z ≡ concat_word m n x z
joined_value m n x z e h = joined_is x z ∙ ap (λ k. concat_word k (length z) x z) e ∙ ap (λ k. concat_word m k x z) h

pub concat_is : (c : Cell) → c.kind ≡ Concat → IsFitted c → IsRule c (Join (Taint 0) (Taint 1))
concat_is c k f =
    let u : IsConcat c = is_concat c k f in
    let m : ℕ = number_of c AWidth in let n : ℕ = number_of c BWidth in
    let a : IsPlain m = u.a in let b : IsPlain n = u.b in let y : IsPlain (m + n) = u.y in
    let low = a.some in let yl = y.limit in
    rule c (Join (Taint 0) (Taint 1)) (m + n) 0 (m ∷ n ∷ []) (λ i us. bit (word (m + n) (λ j. place_bit (port_at m j) (place_at m j) us)) i) u.widths u.output
    (let both : IsFormed (Join (Taint 0) (Taint 1)) (m ∷ n ∷ []) [] (m + n) (0 + 0) = formed_join (leaf_taint (m ∷ n ∷ []) 0 m refl a) (leaf_taint (m ∷ n ∷ []) 1 n refl b) (omega arith) (omega arith) in record { width = both.width; cost = (let z = both.cost in omega arith) })
    (let w = u.weighs in omega arith) (ap is_coarse k) (concat_row c k)
    (λ vs ts p q. two_words (λ us. IsExact (m + n) (λ i us. bit (word (m + n) (λ j. place_bit (port_at m j) (place_at m j) us)) i) us ts (value_of (Join (Taint 0) (Taint 1)) us ts [])) m n
    (λ v v' l l'. two_words (λ us. IsExact (m + n) (λ i us. bit (word (m + n) (λ j. place_bit (port_at m j) (place_at m j) us)) i) (v ∷ v' ∷ []) us (value_of (Join (Taint 0) (Taint 1)) (v ∷ v' ∷ []) us [])) m n
    (λ x x' e e'. subst (λ z. IsExact (m + n) (λ i us. bit (word (m + n) (λ j. place_bit (port_at m j) (place_at m j) us)) i) (v ∷ v' ∷ []) (x ∷ x' ∷ []) z)
    (sym (joined_value m n x x' e e' ∙ joined_places m n (x ∷ x' ∷ [])))
    (places_exact (m + n) (port_at m) (place_at m) (v ∷ v' ∷ []) (x ∷ x' ∷ []) (e ∙ sym l, (e' ∙ sym l', tt)) (two_long v v' x x' (e ∙ sym l) (e' ∙ sym l')))) ts q) vs p)

-- ---- $slice

range_below : (a n m : ℕ) → a + n ≤ m → list_all (λ i. nat_lt i m) (range_with_len a n) ≡ true
range_below a zero m h = refl
range_below a (suc n) m h =
    let first : nat_lt a m ≡ true = grind (arith, nat_tests) in
    let rest : list_all (λ i. nat_lt i m) (range_with_len (a + 1) n) ≡ true = range_below (a + 1) n m (omega arith) in grind arith

picked-range : (a n : ℕ) (w : Word) → picked (range_with_len a n) w ≡ word n (λ i. bit w (a + i))
picked-range a n w = fill_by_all (λ i. bit w (a + i)) (picked (range_with_len a n) w) n false (length-map (range_with_len a n) (λ i. bit w i) ∙ length-range_with_len a n)
    (λ i h. get_or-map (λ k. bit w k) (range_with_len a n) i 0 false (omega (arith, length-range_with_len a n)) ∙ ap (bit w) (get_or-range_with_len a n i 0 h))

slice_rows : (c : Cell) → c.kind ≡ Slice → IsFitted c → HasRows c (a_row ∷ []) (y_row ∷ [])
unfolding operands_of outputs_of
slice_rows c k f = has_rows c Slice (a_row ∷ []) (y_row ∷ []) k (λ q. absurd (cc)) refl refl f

pub record IsSlice (c : Cell) : Type 0 where
  pub widths : operand_widths c ≡ number_of c AWidth ∷ []
  pub a : IsPlain (number_of c AWidth)
  pub y : IsPlain (y_width c)
  pub output : output_width c 0 ≡ y_width c
  pub inside : number_of c Offset + y_width c ≤ number_of c AWidth
  pub weighs : weight c ≡ 12

pub is_slice : (c : Cell) → c.kind ≡ Slice → IsFitted c → IsSlice c
unfolding width_limit weight_by
is_slice c k f =
    let r : HasRows c (a_row ∷ []) (y_row ∷ []) = slice_rows c k f in
    let i = r.within in let o = r.outputs_within in
    record { widths = r.widths; a = plain c Slice a_row k refl i.0; y = plain c Slice y_row k refl o.0; output = ap (λ rows. get_or (map (row_width c) rows) 0 0) r.output_rows; inside = f.slice k; weighs = ap (λ x. weight_by x c) k }

slice_row : (c : Cell) → c.kind ≡ Slice → (i : ℕ) (us : List Word) → output_bit c 0 i us ≡ bit (word (y_width c) (λ j. place_bit 0 (number_of c Offset + j) us)) i
unfolding words_by
slice_row c k i us = ap (λ x. bit (operand (words_by x c us) 0) i) k

one_long : (v x : Word) → length x ≡ length v → (p : ℕ) → length (operand (x ∷ []) p) ≡ length (operand (v ∷ []) p)
one_long v x e zero = e
one_long v x e (suc p) = refl

abbrev slice_formula : Cell → Formula
slice_formula c = Pick (Taint 0) (range_with_len (number_of c Offset) (y_width c))

abbrev slice_bits : Cell → ℕ → List Word → Bool
slice_bits c i us = bit (word (y_width c) (λ j. place_bit 0 (number_of c Offset + j) us)) i

pub slice_is : (c : Cell) → c.kind ≡ Slice → IsFitted c → IsRule c (slice_formula c)
slice_is c k f =
    let u : IsSlice c = is_slice c k f in
    let m : ℕ = number_of c AWidth in
    let a : IsPlain m = u.a in let y : IsPlain (y_width c) = u.y in let yl = y.limit in
    rule c (slice_formula c) (y_width c) 0 (m ∷ []) (slice_bits c) u.widths u.output
    (formed_pick (range_with_len (number_of c Offset) (y_width c)) (y_width c) (leaf_taint (m ∷ []) 0 m refl a) (range_below (number_of c Offset) (y_width c) m u.inside) (length-range_with_len (number_of c Offset) (y_width c)) y.some (omega arith))
    (let w = u.weighs in omega arith) (ap is_coarse k) (slice_row c k)
    (λ vs ts p q. one_word (λ us. IsExact (y_width c) (slice_bits c) us ts (value_of (slice_formula c) us ts [])) m
    (λ v l. one_word (λ us. IsExact (y_width c) (slice_bits c) (v ∷ []) us (value_of (slice_formula c) (v ∷ []) us [])) m
    (λ x e. subst (λ z. IsExact (y_width c) (slice_bits c) (v ∷ []) (x ∷ []) z) (sym (picked-range (number_of c Offset) (y_width c) x))
    (places_exact (y_width c) (λ j. 0) (λ j. number_of c Offset + j) (v ∷ []) (x ∷ []) (e ∙ sym l, tt) (one_long v x (e ∙ sym l)))) ts q) vs p)

-- ---- $fa

abbrev fa_inputs : List PortRow
fa_inputs = row A (Of Width) ∷ row B (Of Width) ∷ row C (Of Width) ∷ []

abbrev fa_results : List PortRow
fa_results = row X (Of Width) ∷ row Y (Of Width) ∷ []

fa_rows : (c : Cell) → c.kind ≡ Fa → IsFitted c → HasRows c fa_inputs fa_results
unfolding operands_of outputs_of
fa_rows c k f = has_rows c Fa fa_inputs fa_results k (λ q. absurd (cc)) refl refl f

pub record IsAdder (c : Cell) : Type 0 where
  pub widths : operand_widths c ≡ width c ∷ width c ∷ width c ∷ []
  pub n : IsPlain (width c)
  pub x : output_width c 0 ≡ width c
  pub y : output_width c 1 ≡ width c
  pub weighs : weight c ≡ 40

is_adder : (c : Cell) → c.kind ≡ Fa → IsFitted c → IsAdder c
unfolding width_limit weight_by
is_adder c k f =
    let r : HasRows c fa_inputs fa_results = fa_rows c k f in
    let i = r.within in
    record { widths = r.widths; n = plain c Fa (row A (Of Width)) k refl i.0; x = ap (λ rows. get_or (map (row_width c) rows) 0 0) r.output_rows; y = ap (λ rows. get_or (map (row_width c) rows) 1 0) r.output_rows; weighs = ap (λ x. weight_by x c) k }

abbrev three_widths : ℕ → List ℕ
three_widths n = n ∷ n ∷ n ∷ []

formed_majority : {f g h : Formula} {ws : List ℕ} {n k : ℕ} (i : ℕ) → IsPlain n → IsFormed f ws [] n k → IsFormed g ws [] n k → IsFormed h ws [] n k → 5 * k + 4 ≤ i → IsFormed (majority_formula f g h) ws [] n i
formed_majority {k = k} i y a b c l = or_plain i y (two_plain (2 * k + 1) y a b (omega arith)) (two_plain (3 * k + 2) y c (or_plain (2 * k + 1) y a b (omega arith)) (omega arith)) (omega arith)

formed_carry : (n : ℕ) → IsPlain n → IsFormed fa_carry_formula (three_widths n) [] n 25
formed_carry n y =
    two_plain 25 y
    (formed_majority 9 y (formed_max (three_widths n) 0 n refl y) (formed_max (three_widths n) 1 n refl y) (formed_max (three_widths n) 2 n refl y) (omega arith))
    (not_plain 15 y (formed_majority 14 y (formed_min (three_widths n) 0 n refl y) (formed_min (three_widths n) 1 n refl y) (formed_min (three_widths n) 2 n refl y) (omega arith)) (omega arith)) (omega arith)

formed_sum : (n : ℕ) → IsPlain n → IsFormed fa_sum_formula (three_widths n) [] n 2
formed_sum n y = or_plain 2 y (leaf_taint (three_widths n) 0 n refl y) (or_plain 1 y (leaf_taint (three_widths n) 1 n refl y) (leaf_taint (three_widths n) 2 n refl y) (omega arith)) (omega arith)

-- the two ways to say a majority
majority_again : (a b c : Bool) → ((a && b) || (c && (a || b))) ≡ majority a b c
majority_again true true true = refl
majority_again true true false = refl
majority_again true false true = refl
majority_again true false false = refl
majority_again false true true = refl
majority_again false true false = refl
majority_again false false true = refl
majority_again false false false = refl

abbrev majority_bits : ℕ → List Word → Word
majority_bits n us = word n (λ i. majority (bit (operand us 0) i) (bit (operand us 1) i) (bit (operand us 2) i))

value-majorities : (n : ℕ) (f g h : Formula) (vs ts us : List Word) → length (operand us 0) ≡ n → length (operand us 1) ≡ n → length (operand us 2) ≡ n
    → value_of f vs ts [] ≡ operand us 0 → value_of g vs ts [] ≡ operand us 1 → value_of h vs ts [] ≡ operand us 2 → value_of (majority_formula f g h) vs ts [] ≡ majority_bits n us
value-majorities n f g h vs ts us a b c x y z =
    value-majority n (bit (operand us 0)) (bit (operand us 1)) (bit (operand us 2)) f g h vs ts (x ∙ own_bits n (operand us 0) a) (y ∙ own_bits n (operand us 1) b) (z ∙ own_bits n (operand us 2) c)
    ∙ word-same n _ _ (λ i l. majority_again (bit (operand us 0) i) (bit (operand us 1) i) (bit (operand us 2) i))
  where
    own_bits : (n : ℕ) (w : Word) → length w ≡ n → w ≡ word n (bit w)
    own_bits n w e = fill_by_all (bit w) w n false e (λ i l. refl)

long_max : (v t : Word) (n : ℕ) → length v ≡ n → length (max_word v t) ≡ n
long_max v t n e = length-word (length v) (λ i. bit v i || bit t i) ∙ e

long_min : (v t : Word) (n : ℕ) → length v ≡ n → length (min_word v t) ≡ n
long_min v t n e = length-word (length v) (λ i. bit v i && not (bit t i)) ∙ e

abbrev vs_of : Word → Word → Word → List Word
vs_of v w x = v ∷ w ∷ x ∷ []

carry_value : (n : ℕ) (v w x t u z : Word) → length v ≡ n → length w ≡ n → length x ≡ n → length t ≡ n → length u ≡ n → length z ≡ n
    → value_of fa_carry_formula (vs_of v w x) (vs_of t u z) [] ≡ word n (λ i. spreads (λ us. majority (bit (operand us 0) i) (bit (operand us 1) i) (bit (operand us 2) i)) (vs_of v w x) (vs_of t u z))
carry_value n v w x t u z a b c d e f =
    let vs = vs_of v w x in let ts = vs_of t u z in
    let high : value_of (majority_formula (max_formula 0) (max_formula 1) (max_formula 2)) (vs_of v w x) (vs_of t u z) [] ≡ majority_bits n (maxes (vs_of v w x) (vs_of t u z)) =
    value-majorities n (max_formula 0) (max_formula 1) (max_formula 2) (vs_of v w x) (vs_of t u z) (maxes (vs_of v w x) (vs_of t u z)) (long_max v t n a) (long_max w u n b) (long_max x z n c)
    (value-max 0 (vs_of v w x) (vs_of t u z)) (value-max 1 (vs_of v w x) (vs_of t u z)) (value-max 2 (vs_of v w x) (vs_of t u z)) in
    let low : value_of (majority_formula (min_formula 0) (min_formula 1) (min_formula 2)) (vs_of v w x) (vs_of t u z) [] ≡ majority_bits n (mins (vs_of v w x) (vs_of t u z)) =
    value-majorities n (min_formula 0) (min_formula 1) (min_formula 2) (vs_of v w x) (vs_of t u z) (mins (vs_of v w x) (vs_of t u z)) (long_min v t n a) (long_min w u n b) (long_min x z n c)
    (value-min 0 (vs_of v w x) (vs_of t u z) (d ∙ sym a)) (value-min 1 (vs_of v w x) (vs_of t u z) (e ∙ sym b)) (value-min 2 (vs_of v w x) (vs_of t u z) (f ∙ sym c)) in
    value-and n _ _ (majority_formula (max_formula 0) (max_formula 1) (max_formula 2)) (One Not (majority_formula (min_formula 0) (min_formula 1) (min_formula 2))) (vs_of v w x) (vs_of t u z) [] high
    (value-not n _ (majority_formula (min_formula 0) (min_formula 1) (min_formula 2)) (vs_of v w x) (vs_of t u z) [] low)

sum_value : (n : ℕ) (v w x t u z : Word) → length t ≡ n → length u ≡ n → length z ≡ n → value_of fa_sum_formula (vs_of v w x) (vs_of t u z) [] ≡ word n (λ i. bit t i || (bit u i || bit z i))
sum_value n v w x t u z d e f =
    value-or n (bit t) (λ i. bit u i || bit z i) (Taint 0) (Two Or (Taint 1) (Taint 2)) (vs_of v w x) (vs_of t u z) [] (fill_by_all (bit t) t n false d (λ i l. refl))
    (value-or n (bit u) (bit z) (Taint 1) (Taint 2) (vs_of v w x) (vs_of t u z) [] (fill_by_all (bit u) u n false e (λ i l. refl)) (fill_by_all (bit z) z n false f (λ i l. refl)))

abbrev carry_bits : Cell → ℕ → List Word → Bool
carry_bits c i us = bit (word (width c) (λ k. majority (bit (operand us 0) k) (bit (operand us 1) k) (bit (operand us 2) k))) i

abbrev sum_bits : Cell → ℕ → List Word → Bool
sum_bits c i us = bit (word (width c) (λ k. xor (xor (bit (operand us 0) k) (bit (operand us 1) k)) (bit (operand us 2) k))) i

carry_row : (c : Cell) → c.kind ≡ Fa → (i : ℕ) (us : List Word) → output_bit c 0 i us ≡ carry_bits c i us
unfolding words_by
carry_row c k i us = ap (λ x. bit (operand (words_by x c us) 0) i) k

sum_row_is : (c : Cell) → c.kind ≡ Fa → (i : ℕ) (us : List Word) → output_bit c 1 i us ≡ sum_bits c i us
unfolding words_by
sum_row_is c k i us = ap (λ x. bit (operand (words_by x c us) 1) i) k

carry_is : (c : Cell) → c.kind ≡ Fa → IsAdder c → IsTaintOf c 0 fa_carry_formula
carry_is c k u = is_taint c 0 fa_carry_formula (width c) 25 (three_widths (width c)) (carry_bits c) u.widths u.x (formed_carry (width c) u.n) (ap is_coarse k) (carry_row c k)
    (λ vs ts p q. three_words (λ us. IsExact (width c) (carry_bits c) us ts (value_of fa_carry_formula us ts [])) (width c) (width c) (width c)
    (λ v w x a b e. three_words (λ us. IsExact (width c) (carry_bits c) (vs_of v w x) us (value_of fa_carry_formula (vs_of v w x) us [])) (width c) (width c) (width c)
    (λ t y z d f g. subst (λ m. IsExact (width c) (carry_bits c) (vs_of v w x) (vs_of t y z) m) (sym (carry_value (width c) v w x t y z a b e d f g))
    (carry_exact (width c) (vs_of v w x) (vs_of t y z) (d ∙ sym a, (f ∙ sym b, (g ∙ sym e, tt))))) ts q) vs p)

sum_is : (c : Cell) → c.kind ≡ Fa → IsAdder c → IsTaintOf c 1 fa_sum_formula
sum_is c k u = is_taint c 1 fa_sum_formula (width c) 2 (three_widths (width c)) (sum_bits c) u.widths u.y (formed_sum (width c) u.n) (ap is_coarse k) (sum_row_is c k)
    (λ vs ts p q. three_words (λ us. IsExact (width c) (sum_bits c) us ts (value_of fa_sum_formula us ts [])) (width c) (width c) (width c)
    (λ v w x a b e. three_words (λ us. IsExact (width c) (sum_bits c) (vs_of v w x) us (value_of fa_sum_formula (vs_of v w x) us [])) (width c) (width c) (width c)
    (λ t y z d f g. subst (λ m. IsExact (width c) (sum_bits c) (vs_of v w x) (vs_of t y z) m) (sym (sum_value (width c) v w x t y z d f g))
    (sum_exact (width c) v w x t y z (d ∙ sym a) (f ∙ sym b) (g ∙ sym e))) ts q) vs p)

adder_cost : (c : Cell) → IsAdder c → cost_of fa_carry_formula (operand_widths c) [] + cost_of fa_sum_formula (operand_widths c) [] ≤ weight c
adder_cost c u =
    let a = formed_carry (width c) u.n in let b = formed_sum (width c) u.n in
    let x : cost_of fa_carry_formula (three_widths (width c)) [] ≤ 25 = a.cost in let y : cost_of fa_sum_formula (three_widths (width c)) [] ≤ 2 = b.cost in
    let p : cost_of fa_carry_formula (operand_widths c) [] ≡ cost_of fa_carry_formula (three_widths (width c)) [] = ap (λ ws. cost_of fa_carry_formula ws []) u.widths in
    let q : cost_of fa_sum_formula (operand_widths c) [] ≡ cost_of fa_sum_formula (three_widths (width c)) [] = ap (λ ws. cost_of fa_sum_formula ws []) u.widths in
    let w : weight c ≡ 40 = u.weighs in omega arith

-- ---- all kinds

-- the formulas of all outputs
abbrev pub logic_formulas : Cell → List Formula
logic_formulas c = map (logic_formula c) (range_with_len 0 (length (outputs_of c.kind)))

abbrev Taints : Kind → Cell → Type 0
Taints k c = AreTaintsOf c (map (λ p. logic_by k c p) (range_with_len 0 (length (outputs_of k))))

one : (c : Cell) (f : Formula) (k : Kind) → c.kind ≡ k → length (outputs_of k) ≡ 1 → IsRule c f → AreTaintsOf c (f ∷ [])
one c f k e l r = one_output c f (ap (λ x. length (outputs_of x)) e ∙ l) r.taint r.cost

taints_by : (k : Kind) (c : Cell) → c.kind ≡ k → covers_logic k ≡ true → IsFitted c → Taints k c
unfolding logic_by outputs_of
taints_by NotKind c e h f = one c _ NotKind e refl (not_is c e f)
taints_by Pos c e h f = one c _ Pos e refl (pos_is c e f)
taints_by AndKind c e h f = one c _ AndKind e refl (and_is c e f)
taints_by OrKind c e h f = one c _ OrKind e refl (or_is c e f)
taints_by XorKind c e h f = one c _ XorKind e refl (xor_is c e f)
taints_by Xnor c e h f = one c _ Xnor e refl (xnor_is c e f)
taints_by ReduceAndKind c e h f = one c _ ReduceAndKind e refl (reduce_and_is c e f)
taints_by ReduceOrKind c e h f = one c _ ReduceOrKind e refl (reduce_or_is c e f)
taints_by ReduceXorKind c e h f = one c _ ReduceXorKind e refl (reduce_xor_is c e f)
taints_by ReduceXnor c e h f = one c _ ReduceXnor e refl (reduce_xnor_is c e f)
taints_by ReduceBool c e h f = one c _ ReduceBool e refl (reduce_bool_is c e f)
taints_by LogicNot c e h f = one c _ LogicNot e refl (logic_not_is c e f)
taints_by LogicAnd c e h f = one c _ LogicAnd e refl (logic_and_is c e f)
taints_by LogicOr c e h f = one c _ LogicOr e refl (logic_or_is c e f)
taints_by Concat c e h f = one c _ Concat e refl (concat_is c e f)
taints_by Slice c e h f = one c _ Slice e refl (slice_is c e f)
taints_by Fa c e h f = two_outputs c fa_carry_formula fa_sum_formula (ap (λ x. length (outputs_of x)) e) (carry_is c e (is_adder c e f)) (sum_is c e (is_adder c e f)) (adder_cost c (is_adder c e f))
taints_by _ c e h f = absurd (cc)

pub logic_taints : (c : Cell) → covers_logic c.kind ≡ true → IsFitted c → AreTaintsOf c (logic_formulas c)
logic_taints c h f = taints_by c.kind c refl h f
