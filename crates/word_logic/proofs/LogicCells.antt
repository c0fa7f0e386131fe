-- What the form of a cell says of the cell.
use Rattle.std.specs.Prelude.{ℕ, ◌+◌, ◌≤◌, ◌≡◌, true, List, [], ◌∷◌, map, refl}
use Rattle.std.proofs.Common.{arith, sym, ap, subst, ◌∙◌}
use Rattle.cif_defs.specs.Cells.{Cell, a_signed, both_signed, meaning, number_of, width, words_by, y_width}
use Rattle.cif_defs.specs.Fitted.{IsFitted, IsWithin, operand_widths, row_width}
use Rattle.cif_defs.specs.Meanings.{concat_word, slice_word}
use Rattle.cif_defs.specs.Table.{a_row, b_row, operands_of, outputs_of, row, width_limit, y_row}
use Rattle.cif_defs.specs.Words.{Word, operand}
use Rattle.cif_defs.specs.declared.kinds.CellPort.TheVariants.{A, B, C, X, Y}
use Rattle.cif_defs.specs.declared.kinds.Kind.{Kind}
use Rattle.cif_defs.specs.declared.kinds.Kind.TheVariants.{Not, Pos, And, Or, Xor, Xnor, ReduceAnd, ReduceOr, ReduceXor, ReduceXnor, ReduceBool, LogicNot, LogicAnd, LogicOr, Concat, Slice, Fa}
use Rattle.cif_defs.specs.declared.kinds.Param.TheVariants.{AWidth, BWidth, YWidth, Offset, Width}
use Rattle.cif_defs.specs.declared.kinds.PortRow.{PortRow}
use Rattle.cif_defs.specs.declared.kinds.PortWidth.TheVariants.{Of, Sum}
use Rattle.cif_term.specs.CellTaints.{AreOperands, taint_words}
use Rattle.cif_term.specs.Formulas.{value_of}
use Rattle.rule_logic.specs.LogicFormulas.{covers_logic, is_binary, is_unary, logic_by}
use Rattle.rule_logic.proofs.LogicKinds.{binary_shape, unary_shape}
use Rattle.rule_logic.proofs.LogicRest.{IsSlice, is_slice}
use Rattle.rule_logic.proofs.LogicTaints.{IsBinary, IsUnary, are_extended}
use Rattle.rule_logic.proofs.Shapes.{HasRows, IsPlain, has_rows, one_word, plain, three_words, two_words}
use Rattle.word_numbers.specs.NarrowCells.{AreWithin128, IsNarrow, output_widths}
use Rattle.word_logic.specs.declared.form.LogicForm.{LogicForm}
use Rattle.word_logic.specs.FormOf.{binary_form, concat_form, fa_form, logic_form, slice_form, unary_form}
use Rattle.word_logic.specs.LogicForms.{StandsFor, form_taints}
use Rattle.word_logic.specs.LogicWords.{binary_taint, binary_word, carry_taint, unary_taint, unary_word}
use Rattle.word_logic.proofs.LogicFormulaWords.{binary_value_of, carry_value_of, joined_value, one_taint, picked_value, sum_value_of, two_taints, unary_value_of}

-- ---- widths

first_within : (n : ℕ) (ns ms : List ℕ) → ms ≡ n ∷ ns → AreWithin128 ms → n ≤ 128
first_within n ns ms e h = let w : AreWithin128 (n ∷ ns) = subst AreWithin128 e h in w.0

second_within : (m n : ℕ) (ns ms : List ℕ) → ms ≡ m ∷ n ∷ ns → AreWithin128 ms → n ≤ 128
second_within m n ns ms e h = let w : AreWithin128 (m ∷ n ∷ ns) = subst AreWithin128 e h in let r : AreWithin128 (n ∷ ns) = w.1 in r.0

unary_outputs : (k : Kind) → is_unary k ≡ true → outputs_of k ≡ y_row ∷ []
unfolding outputs_of
unary_outputs Not h = refl
unary_outputs Pos h = refl
unary_outputs ReduceAnd h = refl
unary_outputs ReduceOr h = refl
unary_outputs ReduceBool h = refl
unary_outputs ReduceXor h = refl
unary_outputs ReduceXnor h = refl
unary_outputs LogicNot h = refl
unary_outputs _ h = absurd (cc)

binary_outputs : (k : Kind) → is_binary k ≡ true → outputs_of k ≡ y_row ∷ []
unfolding outputs_of
binary_outputs And h = refl
binary_outputs Or h = refl
binary_outputs Xor h = refl
binary_outputs Xnor h = refl
binary_outputs LogicAnd h = refl
binary_outputs LogicOr h = refl
binary_outputs _ h = absurd (cc)

unary_covered : (k : Kind) → is_unary k ≡ true → covers_logic k ≡ true
unary_covered Not h = refl
unary_covered Pos h = refl
unary_covered ReduceAnd h = refl
unary_covered ReduceOr h = refl
unary_covered ReduceBool h = refl
unary_covered ReduceXor h = refl
unary_covered ReduceXnor h = refl
unary_covered LogicNot h = refl
unary_covered _ h = absurd (cc)

binary_covered : (k : Kind) → is_binary k ≡ true → covers_logic k ≡ true
binary_covered And h = refl
binary_covered Or h = refl
binary_covered Xor h = refl
binary_covered Xnor h = refl
binary_covered LogicAnd h = refl
binary_covered LogicOr h = refl
binary_covered _ h = absurd (cc)

-- ---- one operand

unary_words : (k : Kind) (c : Cell) (us : List Word) → is_unary k ≡ true → words_by k c us ≡ unary_word k (y_width c) (a_signed c) (operand us 0) ∷ []
unfolding words_by unary_word
unary_words Not c us h = refl
unary_words Pos c us h = refl
unary_words ReduceAnd c us h = refl
unary_words ReduceOr c us h = refl
unary_words ReduceBool c us h = refl
unary_words ReduceXor c us h = refl
unary_words ReduceXnor c us h = refl
unary_words LogicNot c us h = refl
unary_words _ c us h = absurd (cc)

unary_taints : (c : Cell) (u : IsUnary c) → is_unary c.kind ≡ true → IsFitted c → (vs ts : List Word) → AreOperands c vs → AreOperands c ts → taint_words c vs ts ≡ unary_taint c.kind (y_width c) (a_signed c) (operand vs 0) (operand ts 0) ∷ []
unary_taints c u h f vs ts a b =
    one_taint c y_row vs ts (unary_covered c.kind h) f (unary_outputs c.kind h) a b
    ∙ ap (λ (w : Word). w ∷ []) (one_word (λ us. value_of (logic_by c.kind c 0) us ts [] ≡ unary_taint c.kind (y_width c) (a_signed c) (operand us 0) (operand ts 0)) (number_of c AWidth)
    (λ v l. one_word (λ us. value_of (logic_by c.kind c 0) (v ∷ []) us [] ≡ unary_taint c.kind (y_width c) (a_signed c) v (operand us 0)) (number_of c AWidth)
    (λ t m. unary_value_of c.kind c v t h m (let p = u.a in p.some) (m ∙ sym l)) ts (b ∙ u.widths)) vs (a ∙ u.widths))

pub unary_stands : (c : Cell) → is_unary c.kind ≡ true → IsFitted c → IsNarrow c → StandsFor (unary_form c) c
unary_stands c h f w =
    let u : IsUnary c = unary_shape c h f in
    let a : IsPlain (number_of c AWidth) = u.a in
    let y : IsPlain (y_width c) = u.y in
    let shown : output_widths c ≡ y_width c ∷ [] = ap (map (row_width c)) (unary_outputs c.kind h) in
    record {
      sound = record { kind = h; narrow = record { some = a.some; limit = first_within (number_of c AWidth) [] (operand_widths c) u.widths w.operands; some_shown = y.some; shown_limit = first_within (y_width c) [] (output_widths c) shown w.outputs } };
      operands = u.widths;
      outputs = shown;
      words = λ us. unary_words c.kind c us h;
      taints = unary_taints c u h f;
    }

-- ---- two operands

binary_words : (k : Kind) (c : Cell) (us : List Word) → is_binary k ≡ true → words_by k c us ≡ binary_word k (y_width c) (both_signed c) (operand us 0) (operand us 1) ∷ []
unfolding words_by binary_word
binary_words And c us h = refl
binary_words Or c us h = refl
binary_words Xor c us h = refl
binary_words Xnor c us h = refl
binary_words LogicAnd c us h = refl
binary_words LogicOr c us h = refl
binary_words _ c us h = absurd (cc)

binary_taints : (c : Cell) (u : IsBinary c) → is_binary c.kind ≡ true → IsFitted c → (vs ts : List Word) → AreOperands c vs → AreOperands c ts
    → taint_words c vs ts ≡ binary_taint c.kind (y_width c) (both_signed c) (operand vs 0) (operand ts 0) (operand vs 1) (operand ts 1) ∷ []
binary_taints c u h f vs ts a b =
    one_taint c y_row vs ts (binary_covered c.kind h) f (binary_outputs c.kind h) a b
    ∙ ap (λ (w : Word). w ∷ []) (two_words (λ us. value_of (logic_by c.kind c 0) us ts [] ≡ binary_taint c.kind (y_width c) (both_signed c) (operand us 0) (operand ts 0) (operand us 1) (operand ts 1)) (number_of c AWidth) (number_of c BWidth)
    (λ v w l l'. two_words (λ us. value_of (logic_by c.kind c 0) (v ∷ w ∷ []) us [] ≡ binary_taint c.kind (y_width c) (both_signed c) v (operand us 0) w (operand us 1)) (number_of c AWidth) (number_of c BWidth)
    (λ x z m m'. binary_value_of c.kind c v w x z h (are_extended c v w x z u l l' m m') (m ∙ sym l) (m' ∙ sym l')) ts (b ∙ u.widths)) vs (a ∙ u.widths))

pub binary_stands : (c : Cell) → is_binary c.kind ≡ true → IsFitted c → IsNarrow c → StandsFor (binary_form c) c
binary_stands c h f w =
    let u : IsBinary c = binary_shape c h f in
    let a : IsPlain (number_of c AWidth) = u.a in
    let b : IsPlain (number_of c BWidth) = u.b in
    let y : IsPlain (y_width c) = u.y in
    let shown : output_widths c ≡ y_width c ∷ [] = ap (map (row_width c)) (binary_outputs c.kind h) in
    record {
      sound = record {
        kind = h;
        narrow = record { some = a.some; limit = first_within (number_of c AWidth) (number_of c BWidth ∷ []) (operand_widths c) u.widths w.operands; some_shown = y.some; shown_limit = first_within (y_width c) [] (output_widths c) shown w.outputs };
        some = b.some;
        limit = second_within (number_of c AWidth) (number_of c BWidth) [] (operand_widths c) u.widths w.operands;
      };
      operands = u.widths;
      outputs = shown;
      words = λ us. binary_words c.kind c us h;
      taints = binary_taints c u h f;
    }

-- ---- $concat

abbrev sum_row : PortRow
sum_row = row Y (Sum AWidth BWidth)

pub concat_rows : (c : Cell) → c.kind ≡ Concat → IsFitted c → HasRows c (a_row ∷ b_row ∷ []) (sum_row ∷ [])
unfolding operands_of outputs_of
concat_rows c k f = has_rows c Concat (a_row ∷ b_row ∷ []) (sum_row ∷ []) k (λ q. absurd (cc)) refl refl f

concat_words : (c : Cell) (us : List Word) → c.kind ≡ Concat → meaning c us ≡ concat_word (number_of c AWidth) (number_of c BWidth) (operand us 0) (operand us 1) ∷ []
unfolding words_by
concat_words c us k = ap (λ j. words_by j c us) k

concat_taints : (c : Cell) (r : HasRows c (a_row ∷ b_row ∷ []) (sum_row ∷ [])) → c.kind ≡ Concat → IsFitted c → (vs ts : List Word) → AreOperands c vs → AreOperands c ts
    → taint_words c vs ts ≡ concat_word (number_of c AWidth) (number_of c BWidth) (operand ts 0) (operand ts 1) ∷ []
unfolding logic_by
concat_taints c r k f vs ts a b =
    one_taint c sum_row vs ts (ap covers_logic k) f r.output_rows a b ∙ ap (λ j. value_of (logic_by j c 0) vs ts [] ∷ []) k
    ∙ ap (λ (w : Word). w ∷ []) (two_words (λ us. value_of (logic_by Concat c 0) vs us [] ≡ concat_word (number_of c AWidth) (number_of c BWidth) (operand us 0) (operand us 1)) (number_of c AWidth) (number_of c BWidth)
    (λ x z m n. joined_value (number_of c AWidth) (number_of c BWidth) x z m n) ts (b ∙ r.widths))

pub concat_stands : (c : Cell) → c.kind ≡ Concat → IsFitted c → IsNarrow c → StandsFor (concat_form c) c
concat_stands c k f w =
    let r : HasRows c (a_row ∷ b_row ∷ []) (sum_row ∷ []) = concat_rows c k f in
    let i = r.within in
    let first : IsWithin c a_row = i.0 in
    let second : IsWithin c b_row = (let j = i.1 in j.0) in
    let shown : output_widths c ≡ (number_of c AWidth + number_of c BWidth) ∷ [] = ap (map (row_width c)) r.output_rows in
    record {
      sound = record { some_low = first.some; some_high = second.some; limit = first_within (number_of c AWidth + number_of c BWidth) [] (output_widths c) shown w.outputs };
      operands = r.widths;
      outputs = shown;
      words = λ us. concat_words c us k;
      taints = concat_taints c r k f;
    }

-- ---- $slice

slice_outputs : (c : Cell) → c.kind ≡ Slice → outputs_of c.kind ≡ y_row ∷ []
unfolding outputs_of
slice_outputs c k = ap outputs_of k

slice_words : (c : Cell) (us : List Word) → c.kind ≡ Slice → meaning c us ≡ slice_word (y_width c) (number_of c Offset) (operand us 0) ∷ []
unfolding words_by
slice_words c us k = ap (λ j. words_by j c us) k

slice_taints : (c : Cell) → c.kind ≡ Slice → IsFitted c → (vs ts : List Word) → AreOperands c vs → AreOperands c ts → taint_words c vs ts ≡ slice_word (y_width c) (number_of c Offset) (operand ts 0) ∷ []
unfolding logic_by
slice_taints c k f vs ts a b =
    one_taint c y_row vs ts (ap covers_logic k) f (slice_outputs c k) a b ∙ ap (λ j. value_of (logic_by j c 0) vs ts [] ∷ []) k
    ∙ ap (λ (w : Word). w ∷ []) (picked_value (number_of c Offset) (y_width c) (operand ts 0))

pub slice_stands : (c : Cell) → c.kind ≡ Slice → IsFitted c → IsNarrow c → StandsFor (slice_form c) c
slice_stands c k f w =
    let u : IsSlice c = is_slice c k f in
    let y : IsPlain (y_width c) = u.y in
    let shown : output_widths c ≡ y_width c ∷ [] = ap (map (row_width c)) (slice_outputs c k) in
    record {
      sound = record { some = y.some; inside = u.inside; limit = first_within (number_of c AWidth) [] (operand_widths c) u.widths w.operands };
      operands = u.widths;
      outputs = shown;
      words = λ us. slice_words c us k;
      taints = slice_taints c k f;
    }

-- ---- $fa

abbrev fa_inputs : List PortRow
fa_inputs = row A (Of Width) ∷ row B (Of Width) ∷ row C (Of Width) ∷ []

abbrev fa_results : List PortRow
fa_results = row X (Of Width) ∷ row Y (Of Width) ∷ []

pub fa_rows : (c : Cell) → c.kind ≡ Fa → IsFitted c → HasRows c fa_inputs fa_results
unfolding operands_of outputs_of
fa_rows c k f = has_rows c Fa fa_inputs fa_results k (λ q. absurd (cc)) refl refl f

fa_words : (c : Cell) (us : List Word) → c.kind ≡ Fa → meaning c us ≡ words_by Fa c us
fa_words c us k = ap (λ j. words_by j c us) k

abbrev fa_taints_are : Cell → List Word → List Word → Type 0
fa_taints_are c vs ts = value_of (logic_by Fa c 0) vs ts [] ∷ value_of (logic_by Fa c 1) vs ts [] ∷ [] ≡ form_taints (fa_form c) vs ts

fa_taints : (c : Cell) (r : HasRows c fa_inputs fa_results) → c.kind ≡ Fa → IsFitted c → (vs ts : List Word) → AreOperands c vs → AreOperands c ts → taint_words c vs ts ≡ form_taints (fa_form c) vs ts
unfolding logic_by
fa_taints c r k f vs ts a b =
    two_taints c (row X (Of Width)) (row Y (Of Width)) vs ts (ap covers_logic k) f r.output_rows a b
    ∙ ap (λ j. value_of (logic_by j c 0) vs ts [] ∷ value_of (logic_by j c 1) vs ts [] ∷ []) k
    ∙ three_words (λ us. fa_taints_are c us ts) (width c) (width c) (width c)
    (λ v w x l m n. three_words (λ us. fa_taints_are c (v ∷ w ∷ x ∷ []) us) (width c) (width c) (width c)
    (λ t u z p q s. ap (λ (y : Word). y ∷ value_of (logic_by Fa c 1) (v ∷ w ∷ x ∷ []) (t ∷ u ∷ z ∷ []) [] ∷ []) (carry_value_of (width c) v w x t u z l m n p q s)
    ∙ ap (λ (y : Word). carry_taint (width c) v t w u x z ∷ y ∷ []) (sum_value_of (width c) v w x t u z p q s)) ts (b ∙ r.widths)) vs (a ∙ r.widths)

fa_stands : (c : Cell) → c.kind ≡ Fa → IsFitted c → IsNarrow c → StandsFor (fa_form c) c
unfolding words_by
fa_stands c k f w =
    let r : HasRows c fa_inputs fa_results = fa_rows c k f in
    let i = r.within in
    let first : IsWithin c (row A (Of Width)) = i.0 in
    record {
      sound = record { some = first.some; limit = first_within (width c) (width c ∷ width c ∷ []) (operand_widths c) r.widths w.operands };
      operands = r.widths;
      outputs = ap (map (row_width c)) r.output_rows;
      words = λ us. fa_words c us k;
      taints = fa_taints c r k f;
    }

-- ---- all kinds

stands_by : (k : Kind) (c : Cell) → c.kind ≡ k → covers_logic k ≡ true → IsFitted c → IsNarrow c → StandsFor (logic_form k c) c
unfolding logic_form
stands_by Not c e h f w = unary_stands c (ap is_unary e) f w
stands_by Pos c e h f w = unary_stands c (ap is_unary e) f w
stands_by ReduceAnd c e h f w = unary_stands c (ap is_unary e) f w
stands_by ReduceOr c e h f w = unary_stands c (ap is_unary e) f w
stands_by ReduceBool c e h f w = unary_stands c (ap is_unary e) f w
stands_by ReduceXor c e h f w = unary_stands c (ap is_unary e) f w
stands_by ReduceXnor c e h f w = unary_stands c (ap is_unary e) f w
stands_by LogicNot c e h f w = unary_stands c (ap is_unary e) f w
stands_by And c e h f w = binary_stands c (ap is_binary e) f w
stands_by Or c e h f w = binary_stands c (ap is_binary e) f w
stands_by Xor c e h f w = binary_stands c (ap is_binary e) f w
stands_by Xnor c e h f w = binary_stands c (ap is_binary e) f w
stands_by LogicAnd c e h f w = binary_stands c (ap is_binary e) f w
stands_by LogicOr c e h f w = binary_stands c (ap is_binary e) f w
stands_by Concat c e h f w = concat_stands c e f w
stands_by Slice c e h f w = slice_stands c e f w
stands_by Fa c e h f w = fa_stands c e f w
stands_by _ c e h f w = absurd (cc)

pub stands : (c : Cell) (f : LogicForm) → f ≡ logic_form c.kind c → covers_logic c.kind ≡ true → IsFitted c → IsNarrow c → StandsFor f c
stands c f e h t w = subst (λ g. StandsFor g c) (sym e) (stands_by c.kind c refl h t w)

-- ---- widths that are read

pub unary_limits : (c : Cell) → is_unary c.kind ≡ true → IsFitted c → (number_of c AWidth ≤ 65536) × (number_of c YWidth ≤ 65536)
unary_limits c h f = let u : IsUnary c = unary_shape c h f in let a : IsPlain (number_of c AWidth) = u.a in let y : IsPlain (number_of c YWidth) = u.y in
    let al = a.limit in let yl = y.limit in (omega arith, omega arith)

pub binary_limits : (c : Cell) → is_binary c.kind ≡ true → IsFitted c → (number_of c AWidth ≤ 65536) × (number_of c BWidth ≤ 65536) × (number_of c YWidth ≤ 65536)
binary_limits c h f = let u : IsBinary c = binary_shape c h f in let a : IsPlain (number_of c AWidth) = u.a in let b : IsPlain (number_of c BWidth) = u.b in let y : IsPlain (number_of c YWidth) = u.y in
    let al = a.limit in let bl = b.limit in let yl = y.limit in (omega arith, omega arith, omega arith)

pub concat_limits : (c : Cell) → c.kind ≡ Concat → IsFitted c → (number_of c AWidth ≤ 65536) × (number_of c BWidth ≤ 65536)
unfolding width_limit
concat_limits c k f =
    let r : HasRows c (a_row ∷ b_row ∷ []) (sum_row ∷ []) = concat_rows c k f in
    let i = r.within in
    let a : IsPlain (number_of c AWidth) = plain c Concat a_row k refl i.0 in
    let b : IsPlain (number_of c BWidth) = plain c Concat b_row k refl (let j = i.1 in j.0) in
    let al = a.limit in let bl = b.limit in (omega arith, omega arith)

pub slice_limits : (c : Cell) → c.kind ≡ Slice → IsFitted c → (number_of c AWidth ≤ 65536) × (number_of c Offset ≤ 65536) × (number_of c YWidth ≤ 65536)
slice_limits c k f =
    let u : IsSlice c = is_slice c k f in
    let a : IsPlain (number_of c AWidth) = u.a in
    let al = a.limit in let inside = u.inside in (omega arith, omega arith, omega arith)

pub fa_limit : (c : Cell) → c.kind ≡ Fa → IsFitted c → number_of c Width ≤ 65536
unfolding width_limit
fa_limit c k f =
    let r : HasRows c fa_inputs fa_results = fa_rows c k f in
    let i = r.within in
    let a : IsPlain (width c) = plain c Fa (row A (Of Width)) k refl i.0 in
    let al = a.limit in omega arith
