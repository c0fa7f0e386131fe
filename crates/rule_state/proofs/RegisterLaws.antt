-- The formula of each register computes the exact taint of what it stores next, and of what it shows.
use Rattle.std.specs.Prelude.{ℕ, ◌≤◌, ◌≡◌, true, Bool, List, [], ◌∷◌, ◌++◌, map, length, refl}
use Rattle.std.proofs.Common.{arith, sym, ap, ◌∙◌}
use Rattle.cif_defs.specs.declared.kinds.Kind.{Kind}
use Rattle.cif_defs.specs.declared.kinds.Kind.TheVariants.{Dff, Dffe, Sdff, Sdffe, Sdffce, Adff, Adffe}
use Rattle.cif_defs.specs.declared.kinds.Role.TheVariants.{ResetRegister}
use Rattle.cif_defs.specs.declared.kinds.Param.{Param}
use Rattle.cif_defs.specs.declared.kinds.Param.TheVariants.{EnPolarity, SrstPolarity, SrstValue, ArstPolarity, ArstValue}
use Rattle.cif_defs.specs.Kinds.{is_register, role_of}
use Rattle.cif_defs.specs.Cells.{Cell, digits_of, next_by, next_word, number_of, width}
use Rattle.cif_defs.specs.Fitted.{IsFitted, operand_widths, row_width}
use Rattle.cif_defs.specs.Table.{operands_of}
use Rattle.cif_defs.specs.Taint.{next_register_taint}
use Rattle.cif_defs.specs.Words.{Word, bit, operand}
use Rattle.cif_defs.proofs.Numbers.{word-same}
use Rattle.cif_kinds.proofs.RegisterCells.{IsRegisterWidth, register_width_fits}
use Rattle.cif_term.specs.Formulas.{cost_of, value_of, width_of}
use Rattle.rule_state.specs.Marks.{Marked, control_mark, fixed_mark, operand_mark}
use Rattle.rule_state.specs.RegisterTerms.{enabled_mark, next_mark_by, reset_mark, shown_mark}
use Rattle.rule_state.specs.RegisterTaints.{IsNextTaint, IsShownTaint}
use Rattle.rule_state.proofs.MarkValues.{AreFormed, IsPlain, Stands, formed_chosen, formed_control, formed_fixed, formed_operand, stands_chosen, stands_control, stands_fixed, stands_operand}
use Rattle.rule_state.proofs.BitWords.{one_word, two_words, three_words}
use Rattle.rule_state.proofs.RegisterBits.{enabled_taint, enabled_value, reset_taint, reset_value}
use Rattle.rule_state.proofs.RegisterRows.{HasRow, dff_differs, dff_row, dffe_differs, dffe_row, enabling, resetting, sdff_differs, sdff_row, sdffce_differs, sdffce_row, sdffe_differs, sdffe_row, shown_differs}

-- ---- a marked word whose taint is right

abbrev Means : Cell → Marked → List Word → List Word → Type 0
Means c m vs ts = (s st : Word) → length s ≡ width c → length st ≡ width c → value_of m.taint (vs ++ s ∷ []) (ts ++ st ∷ []) [] ≡ next_register_taint c vs ts s st

next_taint : (c : Cell) (m : Marked) (ws : List ℕ) (k j : ℕ) → operand_widths c ≡ ws → AreFormed m (ws ++ width c ∷ []) (width c) k j → j ≤ 31
    → ((vs ts : List Word) → map length vs ≡ ws → map length ts ≡ ws → Means c m vs ts) → IsNextTaint c m.taint
next_taint c m ws k j e formed few means = let f = formed.taint [] in record {
  formed = ap (λ us. width_of m.taint (us ++ width c ∷ []) []) e ∙ f.width;
  means = λ vs ts s st a b. means vs ts (a ∙ e) (b ∙ e) s st;
  cost = (let same : cost_of m.taint (operand_widths c ++ width c ∷ []) [] ≡ cost_of m.taint (ws ++ width c ∷ []) [] = ap (λ us. cost_of m.taint (us ++ width c ∷ []) []) e in
      let most : cost_of m.taint (ws ++ width c ∷ []) [] ≤ j = f.cost in omega arith);
}

-- ---- words by an enable and by a reset

enabled_stands : (c : Cell) (vs ts : List Word) (q : ℕ) (d : Marked) (x tx : ℕ → Bool) → length (operand vs 1) ≡ 1 → length (operand vs q) ≡ width c → length (operand ts q) ≡ width c → Stands d (width c) vs ts x tx
    → Stands (enabled_mark c d q) (width c) vs ts (λ i. enabled_value (enabling c) (x i) (bit (operand vs 1) 0) (bit (operand vs q) i))
    (λ i. enabled_taint (enabling c) (x i) (tx i) (bit (operand vs 1) 0) (bit (operand ts 1) 0) (bit (operand vs q) i) (bit (operand ts q) i))
enabled_stands c vs ts q d x tx e a b h =
    stands_chosen (width c) _ _ _ _ x tx (control_mark (number_of c EnPolarity) 1) (operand_mark q) d vs ts (stands_control (number_of c EnPolarity) 1 vs ts e) (stands_operand q (width c) vs ts a b) h

reset_stands : (polarity value : Param) (c : Cell) (vs ts : List Word) (p : ℕ) (m : Marked) (x tx : ℕ → Bool) → length (operand vs p) ≡ 1 → Stands m (width c) vs ts x tx
    → Stands (reset_mark c polarity value p m) (width c) vs ts (λ i. reset_value (resetting c polarity) (bit (digits_of c value) i) (x i) (bit (operand vs p) 0))
    (λ i. reset_taint (resetting c polarity) (bit (digits_of c value) i) (x i) (tx i) (bit (operand vs p) 0) (bit (operand ts p) 0))
reset_stands polarity value c vs ts p m x tx e h =
    stands_chosen (width c) _ _ x tx _ _ (control_mark (number_of c polarity) p) m (fixed_mark (width c) (digits_of c value)) vs ts (stands_control (number_of c polarity) p vs ts e) h (stands_fixed (width c) (digits_of c value) vs ts)

-- ---- row by row

dff_means : (c : Cell) (d td : Word) → HasRow c (dff_row c) → length d ≡ width c → length td ≡ width c → Means c (operand_mark 0) (d ∷ []) (td ∷ [])
dff_means c d td row a b s st e q =
    (stands_operand 0 (width c) (d ∷ s ∷ []) (td ∷ st ∷ []) a b).taint [] ∙ word-same (width c) _ _ (λ i h. sym (dff_differs c i d td s st row h (cc)))

dffe_means : (c : Cell) (d td e te : Word) → HasRow c (dffe_row c) → length d ≡ width c → length td ≡ width c → length e ≡ 1 → length te ≡ 1 → Means c (enabled_mark c (operand_mark 0) 2) (d ∷ e ∷ []) (td ∷ te ∷ [])
dffe_means c d td e te row a b l m s st k q =
    (enabled_stands c (d ∷ e ∷ s ∷ []) (td ∷ te ∷ st ∷ []) 2 (operand_mark 0) _ _ l k q (stands_operand 0 (width c) (d ∷ e ∷ s ∷ []) (td ∷ te ∷ st ∷ []) a b)).taint []
    ∙ word-same (width c) _ _ (λ i h. sym (dffe_differs c i d td e te s st row h (cc)))

sdff_means : (polarity value : Param) (c : Cell) (d td x tx : Word) → HasRow c (sdff_row polarity value c) → length d ≡ width c → length td ≡ width c → length x ≡ 1 → length tx ≡ 1
    → Means c (reset_mark c polarity value 1 (operand_mark 0)) (d ∷ x ∷ []) (td ∷ tx ∷ [])
sdff_means polarity value c d td x tx row a b l m s st k q =
    (reset_stands polarity value c (d ∷ x ∷ s ∷ []) (td ∷ tx ∷ st ∷ []) 1 (operand_mark 0) _ _ l (stands_operand 0 (width c) (d ∷ x ∷ s ∷ []) (td ∷ tx ∷ st ∷ []) a b)).taint []
    ∙ word-same (width c) _ _ (λ i h. sym (sdff_differs polarity value c i d td x tx s st row h (cc)))

sdffe_means : (polarity value : Param) (c : Cell) (d td e te x tx : Word) → HasRow c (sdffe_row polarity value c) → length d ≡ width c → length td ≡ width c → length e ≡ 1 → length te ≡ 1 → length x ≡ 1 → length tx ≡ 1
    → Means c (reset_mark c polarity value 2 (enabled_mark c (operand_mark 0) 3)) (d ∷ e ∷ x ∷ []) (td ∷ te ∷ tx ∷ [])
sdffe_means polarity value c d td e te x tx row a b l m o r s st k q =
    (reset_stands polarity value c (d ∷ e ∷ x ∷ s ∷ []) (td ∷ te ∷ tx ∷ st ∷ []) 2 (enabled_mark c (operand_mark 0) 3) _ _ o
    (enabled_stands c (d ∷ e ∷ x ∷ s ∷ []) (td ∷ te ∷ tx ∷ st ∷ []) 3 (operand_mark 0) _ _ l k q
    (stands_operand 0 (width c) (d ∷ e ∷ x ∷ s ∷ []) (td ∷ te ∷ tx ∷ st ∷ []) a b))).taint []
    ∙ word-same (width c) _ _ (λ i h. sym (sdffe_differs polarity value c i d td e te x tx s st row h (cc)))

sdffce_means : (polarity value : Param) (c : Cell) (d td e te x tx : Word) → HasRow c (sdffce_row polarity value c) → length d ≡ width c → length td ≡ width c → length e ≡ 1 → length te ≡ 1 → length x ≡ 1 → length tx ≡ 1
    → Means c (enabled_mark c (reset_mark c polarity value 2 (operand_mark 0)) 3) (d ∷ e ∷ x ∷ []) (td ∷ te ∷ tx ∷ [])
sdffce_means polarity value c d td e te x tx row a b l m o r s st k q =
    (enabled_stands c (d ∷ e ∷ x ∷ s ∷ []) (td ∷ te ∷ tx ∷ st ∷ []) 3 (reset_mark c polarity value 2 (operand_mark 0)) _ _ l k q
    (reset_stands polarity value c (d ∷ e ∷ x ∷ s ∷ []) (td ∷ te ∷ tx ∷ st ∷ []) 2 (operand_mark 0) _ _ o
    (stands_operand 0 (width c) (d ∷ e ∷ x ∷ s ∷ []) (td ∷ te ∷ tx ∷ st ∷ []) a b))).taint []
    ∙ word-same (width c) _ _ (λ i h. sym (sdffce_differs polarity value c i d td e te x tx s st row h (cc)))

-- ---- by the row and the widths of the operands

dff_is : (c : Cell) → operand_widths c ≡ width c ∷ [] → HasRow c (dff_row c) → IsPlain (width c) → IsNextTaint c (operand_mark 0).taint
dff_is c e row plain = next_taint c (operand_mark 0) (width c ∷ []) 0 0 e (formed_operand (width c ∷ width c ∷ []) 0 (width c) refl plain) (omega arith)
    (λ vs ts a b. one_word (λ us. Means c (operand_mark 0) us ts) (width c)
    (λ d l. one_word (λ us. Means c (operand_mark 0) (d ∷ []) us) (width c) (λ td m. dff_means c d td row l m) ts b) vs a)

dffe_is : (c : Cell) → operand_widths c ≡ width c ∷ 1 ∷ [] → HasRow c (dffe_row c) → IsPlain (width c) → IsNextTaint c (enabled_mark c (operand_mark 0) 2).taint
dffe_is c e row plain =
    let n : ℕ = width c in
    let m : Marked = enabled_mark c (operand_mark 0) 2 in
    let ws : List ℕ = n ∷ 1 ∷ n ∷ [] in
    next_taint c m (n ∷ 1 ∷ []) 2 6 e
    (formed_chosen plain (formed_control ws (number_of c EnPolarity) 1 refl) (formed_operand ws 2 n refl plain) (formed_operand ws 0 n refl plain)) (omega arith)
    (λ vs ts a b. two_words (λ us. Means c m us ts) n 1
    (λ d e k l. two_words (λ us. Means c m (d ∷ e ∷ []) us) n 1 (λ td te p q. dffe_means c d td e te row k p l q) ts b) vs a)

sdff_is : (polarity value : Param) (c : Cell) → operand_widths c ≡ width c ∷ 1 ∷ [] → HasRow c (sdff_row polarity value c) → IsPlain (width c) → IsNextTaint c (reset_mark c polarity value 1 (operand_mark 0)).taint
sdff_is polarity value c e row plain =
    let n : ℕ = width c in
    let m : Marked = reset_mark c polarity value 1 (operand_mark 0) in
    let ws : List ℕ = n ∷ 1 ∷ n ∷ [] in
    next_taint c m (n ∷ 1 ∷ []) 2 6 e
    (formed_chosen plain (formed_control ws (number_of c polarity) 1 refl) (formed_operand ws 0 n refl plain) (formed_fixed ws n (digits_of c value) plain)) (omega arith)
    (λ vs ts a b. two_words (λ us. Means c m us ts) n 1
    (λ d x k l. two_words (λ us. Means c m (d ∷ x ∷ []) us) n 1 (λ td tx p q. sdff_means polarity value c d td x tx row k p l q) ts b) vs a)

sdffe_is : (polarity value : Param) (c : Cell) → operand_widths c ≡ width c ∷ 1 ∷ 1 ∷ [] → HasRow c (sdffe_row polarity value c) → IsPlain (width c) → IsNextTaint c (reset_mark c polarity value 2 (enabled_mark c (operand_mark 0) 3)).taint
sdffe_is polarity value c e row plain =
    let n : ℕ = width c in
    let m : Marked = reset_mark c polarity value 2 (enabled_mark c (operand_mark 0) 3) in
    let ws : List ℕ = n ∷ 1 ∷ 1 ∷ n ∷ [] in
    next_taint c m (n ∷ 1 ∷ 1 ∷ []) 4 14 e
    (formed_chosen plain (formed_control ws (number_of c polarity) 2 refl)
    (formed_chosen plain (formed_control ws (number_of c EnPolarity) 1 refl) (formed_operand ws 3 n refl plain) (formed_operand ws 0 n refl plain)) (formed_fixed ws n (digits_of c value) plain)) (omega arith)
    (λ vs ts a b. three_words (λ us. Means c m us ts) n 1 1
    (λ d e x k l o. three_words (λ us. Means c m (d ∷ e ∷ x ∷ []) us) n 1 1 (λ td te tx p q r. sdffe_means polarity value c d td e te x tx row k p l q o r) ts b) vs a)

sdffce_is : (polarity value : Param) (c : Cell) → operand_widths c ≡ width c ∷ 1 ∷ 1 ∷ [] → HasRow c (sdffce_row polarity value c) → IsPlain (width c) → IsNextTaint c (enabled_mark c (reset_mark c polarity value 2 (operand_mark 0)) 3).taint
sdffce_is polarity value c e row plain =
    let n : ℕ = width c in
    let m : Marked = enabled_mark c (reset_mark c polarity value 2 (operand_mark 0)) 3 in
    let ws : List ℕ = n ∷ 1 ∷ 1 ∷ n ∷ [] in
    next_taint c m (n ∷ 1 ∷ 1 ∷ []) 4 14 e
    (formed_chosen plain (formed_control ws (number_of c EnPolarity) 1 refl) (formed_operand ws 3 n refl plain)
    (formed_chosen plain (formed_control ws (number_of c polarity) 2 refl) (formed_operand ws 0 n refl plain) (formed_fixed ws n (digits_of c value) plain))) (omega arith)
    (λ vs ts a b. three_words (λ us. Means c m us ts) n 1 1
    (λ d e x k l o. three_words (λ us. Means c m (d ∷ e ∷ x ∷ []) us) n 1 1 (λ td te tx p q r. sdffce_means polarity value c d td e te x tx row k p l q o r) ts b) vs a)

-- ---- by kind

fitted_width : (c : Cell) → is_register (role_of c.kind) ≡ true → IsFitted c → IsPlain (width c)
fitted_width c r f = let w : IsRegisterWidth c = register_width_fits c r f in record { some = w.some; limit = w.limit }

widths_by : (c : Cell) (k : Kind) → c.kind ≡ k → IsFitted c → operand_widths c ≡ map (row_width c) (operands_of k)
widths_by c k e f = f.operands ∙ ap (λ x. map (row_width c) (operands_of x)) e

row_by : (c : Cell) (k : Kind) → c.kind ≡ k → (us : List Word) (s : Word) → next_word c us s ≡ next_by k c us s
row_by c k e us s = ap (λ x. next_by x c us s) e

next_by_kind : (k : Kind) (c : Cell) → c.kind ≡ k → is_register (role_of k) ≡ true → IsPlain (width c) → IsFitted c → IsNextTaint c (next_mark_by k c).taint
unfolding next_mark_by next_by operands_of
next_by_kind Dff c e r plain f = dff_is c (widths_by c Dff e f) (row_by c Dff e) plain
next_by_kind Dffe c e r plain f = dffe_is c (widths_by c Dffe e f) (row_by c Dffe e) plain
next_by_kind Sdff c e r plain f = sdff_is SrstPolarity SrstValue c (widths_by c Sdff e f) (row_by c Sdff e) plain
next_by_kind Sdffe c e r plain f = sdffe_is SrstPolarity SrstValue c (widths_by c Sdffe e f) (row_by c Sdffe e) plain
next_by_kind Sdffce c e r plain f = sdffce_is SrstPolarity SrstValue c (widths_by c Sdffce e f) (row_by c Sdffce e) plain
next_by_kind Adff c e r plain f = sdff_is ArstPolarity ArstValue c (widths_by c Adff e f) (row_by c Adff e) plain
next_by_kind Adffe c e r plain f = sdffe_is ArstPolarity ArstValue c (widths_by c Adffe e f) (row_by c Adffe e) plain
next_by_kind _ c e r plain f = absurd (cc)

-- what a register stores next
pub next_taint_of : (c : Cell) → is_register (role_of c.kind) ≡ true → IsFitted c → IsNextTaint c (next_mark_by c.kind c).taint
next_taint_of c r f = next_by_kind c.kind c refl r (fitted_width c r f) f

-- what a register with asynchronous reset shows
pub shown_taint_of : (c : Cell) → role_of c.kind ≡ ResetRegister → IsFitted c → IsShownTaint c (shown_mark c).taint
shown_taint_of c r f =
    let n : ℕ = width c in
    let ws : List ℕ = 1 ∷ n ∷ [] in
    let plain : IsPlain n = fitted_width c (ap is_register r) f in
    let formed : AreFormed (shown_mark c) ws n 2 6 =
    formed_chosen plain (formed_control ws (number_of c ArstPolarity) 0 refl) (formed_operand ws 1 n refl plain) (formed_fixed ws n (digits_of c ArstValue) plain) in
    record {
      formed = (formed.taint []).width;
      means = λ x tx s st a b k q.
          (reset_stands ArstPolarity ArstValue c (x ∷ s ∷ []) (tx ∷ st ∷ []) 0 (operand_mark 1) _ _ a (stands_operand 1 n (x ∷ s ∷ []) (tx ∷ st ∷ []) k q)).taint []
          ∙ word-same n _ _ (λ i h. sym (shown_differs c i x tx s st h (cc)));
      cost = (let most : cost_of (shown_mark c).taint ws [] ≤ 6 = (formed.taint []).cost in omega arith);
    }
