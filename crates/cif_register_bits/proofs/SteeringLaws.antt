-- The controls of each kind of register steer it.
use Rattle.std.specs.Prelude.{ℕ, ◌<◌, ◌≡◌, Bool, true, false, List, [], ◌∷◌, map, length, get_or, refl}
use Rattle.std.proofs.Common.{sym, ap, ◌∙◌}
use Rattle.cif_defs.specs.declared.kinds.Kind.{Kind}
use Rattle.cif_defs.specs.declared.kinds.Kind.TheVariants.{Dff, Dffe, Sdff, Sdffe, Sdffce, Adff, Adffe}
use Rattle.cif_defs.specs.declared.kinds.Role.TheVariants.{ResetRegister}
use Rattle.cif_defs.specs.declared.kinds.Param.{Param}
use Rattle.cif_defs.specs.declared.kinds.Param.TheVariants.{EnPolarity, SrstPolarity, SrstValue, ArstPolarity, ArstValue}
use Rattle.cif_defs.specs.Kinds.{is_register, role_of}
use Rattle.cif_defs.specs.Cells.{Cell, digits_of, next_by, next_word, reset_operand, shown_word, width}
use Rattle.cif_defs.specs.Completions.{can_differ}
use Rattle.cif_defs.specs.Fitted.{IsFitted, operand_widths, row_width}
use Rattle.cif_defs.specs.Table.{operands_of}
use Rattle.cif_defs.specs.Taint.{next_bit, next_register_taint, shown_bit, shown_taint}
use Rattle.cif_defs.specs.Words.{Word, bit, operand}
use Rattle.cif_defs.proofs.WordLaws.{bit-word, length-word}
use Rattle.cif_kinds.proofs.OperandWidths.{map_width}
use Rattle.rule_state.proofs.BitWords.{one_word, two_words, three_words}
use Rattle.rule_state.proofs.RegisterRows.{HasRow, dff_differs, dff_row, dffe_differs, dffe_row, sdff_differs, sdff_row, sdffce_differs, sdffce_row, sdffe_differs, sdffe_row, shown_differs}
use Rattle.cif_register_bits.specs.declared.tainted_bit.TaintedBit.{TaintedBit}
use Rattle.cif_register_bits.specs.declared.controls.Precedence.{Precedence}
use Rattle.cif_register_bits.specs.declared.controls.Precedence.TheVariants.{Reset, Enable}
use Rattle.cif_register_bits.specs.declared.controls.Controls.{Controls}
use Rattle.cif_register_bits.specs.Choices.{bit_with, chosen, untainted}
use Rattle.cif_register_bits.specs.Steering.{IsShownBy, IsSteeredBy, next_of, shown_of, active_at, controls_by, controls_of, enable_by, precedence_by, reset_by, reset_value_by}

-- ---- row by row

dff_steered : (value : Param) (c : Cell) (d td : Word) → HasRow c (dff_row c) → length d ≡ width c → length td ≡ width c
    → IsSteeredBy c (d ∷ []) (td ∷ []) (record { enable = untainted true; reset = untainted false; reset_value = value; first = Reset })
dff_steered value c d td row a b = record {
  value = λ s st i h. sym (ap (λ (w : Word). bit w i) (row (d ∷ []) s) ∙ bit-word (width c) (λ k. bit d k) i false h);
  taint = λ s st i k q h. sym (bit-word (width c) (λ j. can_differ (next_bit c 1 j) (d ∷ s ∷ []) (td ∷ st ∷ [])) i false h ∙ dff_differs c i d td s st row h (cc));
}

dffe_steered : (value : Param) (c : Cell) (d td e te : Word) → HasRow c (dffe_row c) → length d ≡ width c → length td ≡ width c → length e ≡ 1 → length te ≡ 1
    → IsSteeredBy c (d ∷ e ∷ []) (td ∷ te ∷ []) (record { enable = active_at c EnPolarity (d ∷ e ∷ []) (td ∷ te ∷ []) 1; reset = untainted false; reset_value = value; first = Reset })
dffe_steered value c d td e te row a b l m = record {
  value = λ s st i h. sym (ap (λ (w : Word). bit w i) (row (d ∷ e ∷ []) s) ∙ bit-word (width c) _ i false h);
  taint = λ s st i k q h. sym (bit-word (width c) (λ j. can_differ (next_bit c 2 j) (d ∷ e ∷ s ∷ []) (td ∷ te ∷ st ∷ [])) i false h ∙ dffe_differs c i d td e te s st row h (cc));
}

sdff_steered : (polarity value : Param) (c : Cell) (d td x tx : Word) → HasRow c (sdff_row polarity value c) → length d ≡ width c → length td ≡ width c → length x ≡ 1 → length tx ≡ 1
    → IsSteeredBy c (d ∷ x ∷ []) (td ∷ tx ∷ []) (record { enable = untainted true; reset = active_at c polarity (d ∷ x ∷ []) (td ∷ tx ∷ []) 1; reset_value = value; first = Reset })
sdff_steered polarity value c d td x tx row a b l m = record {
  value = λ s st i h. sym (ap (λ (w : Word). bit w i) (row (d ∷ x ∷ []) s) ∙ bit-word (width c) _ i false h);
  taint = λ s st i k q h. sym (bit-word (width c) (λ j. can_differ (next_bit c 2 j) (d ∷ x ∷ s ∷ []) (td ∷ tx ∷ st ∷ [])) i false h ∙ sdff_differs polarity value c i d td x tx s st row h (cc));
}

sdffe_steered : (polarity value : Param) (c : Cell) (d td e te x tx : Word) → HasRow c (sdffe_row polarity value c) → length d ≡ width c → length td ≡ width c → length e ≡ 1 → length te ≡ 1 → length x ≡ 1 → length tx ≡ 1
    → IsSteeredBy c (d ∷ e ∷ x ∷ []) (td ∷ te ∷ tx ∷ []) (record { enable = active_at c EnPolarity (d ∷ e ∷ x ∷ []) (td ∷ te ∷ tx ∷ []) 1; reset = active_at c polarity (d ∷ e ∷ x ∷ []) (td ∷ te ∷ tx ∷ []) 2; reset_value = value; first = Reset })
sdffe_steered polarity value c d td e te x tx row a b l m o r = record {
  value = λ s st i h. sym (ap (λ (w : Word). bit w i) (row (d ∷ e ∷ x ∷ []) s) ∙ bit-word (width c) _ i false h);
  taint = λ s st i k q h. sym (bit-word (width c) (λ j. can_differ (next_bit c 3 j) (d ∷ e ∷ x ∷ s ∷ []) (td ∷ te ∷ tx ∷ st ∷ [])) i false h ∙ sdffe_differs polarity value c i d td e te x tx s st row h (cc));
}

sdffce_steered : (polarity value : Param) (c : Cell) (d td e te x tx : Word) → HasRow c (sdffce_row polarity value c) → length d ≡ width c → length td ≡ width c → length e ≡ 1 → length te ≡ 1 → length x ≡ 1 → length tx ≡ 1
    → IsSteeredBy c (d ∷ e ∷ x ∷ []) (td ∷ te ∷ tx ∷ []) (record { enable = active_at c EnPolarity (d ∷ e ∷ x ∷ []) (td ∷ te ∷ tx ∷ []) 1; reset = active_at c polarity (d ∷ e ∷ x ∷ []) (td ∷ te ∷ tx ∷ []) 2; reset_value = value; first = Enable })
sdffce_steered polarity value c d td e te x tx row a b l m o r = record {
  value = λ s st i h. sym (ap (λ (w : Word). bit w i) (row (d ∷ e ∷ x ∷ []) s) ∙ bit-word (width c) _ i false h);
  taint = λ s st i k q h. sym (bit-word (width c) (λ j. can_differ (next_bit c 3 j) (d ∷ e ∷ x ∷ s ∷ []) (td ∷ te ∷ tx ∷ st ∷ [])) i false h ∙ sdffce_differs polarity value c i d td e te x tx s st row h (cc));
}

-- ---- by kind

widths_by : (c : Cell) (k : Kind) → c.kind ≡ k → IsFitted c → (us : List Word) → map length us ≡ operand_widths c → map length us ≡ map (row_width c) (operands_of k)
widths_by c k e f us h = h ∙ f.operands ∙ ap (λ x. map (row_width c) (operands_of x)) e

row_by : (c : Cell) (k : Kind) → c.kind ≡ k → (us : List Word) (s : Word) → next_word c us s ≡ next_by k c us s
row_by c k e us s = ap (λ x. next_by x c us s) e

abbrev Steered : Kind → Cell → List Word → List Word → Type 0
Steered k c vs ts = IsSteeredBy c vs ts (controls_by k c vs ts)

steered_by_kind : (k : Kind) (c : Cell) → c.kind ≡ k → is_register (role_of k) ≡ true → IsFitted c → (vs ts : List Word) → map length vs ≡ operand_widths c → map length ts ≡ operand_widths c → Steered k c vs ts
unfolding next_by operands_of enable_by reset_by reset_value_by precedence_by
steered_by_kind Dff c e r f vs ts a b =
    one_word (λ us. Steered Dff c us ts) (width c) (λ d l. one_word (λ us. Steered Dff c (d ∷ []) us) (width c) (λ td m. dff_steered SrstValue c d td (row_by c Dff e) l m) ts (widths_by c Dff e f ts b)) vs (widths_by c Dff e f vs a)
steered_by_kind Dffe c e r f vs ts a b =
    two_words (λ us. Steered Dffe c us ts) (width c) 1
    (λ d y k l. two_words (λ us. Steered Dffe c (d ∷ y ∷ []) us) (width c) 1 (λ td ty p q. dffe_steered SrstValue c d td y ty (row_by c Dffe e) k p l q) ts (widths_by c Dffe e f ts b)) vs (widths_by c Dffe e f vs a)
steered_by_kind Sdff c e r f vs ts a b =
    two_words (λ us. Steered Sdff c us ts) (width c) 1
    (λ d x k l. two_words (λ us. Steered Sdff c (d ∷ x ∷ []) us) (width c) 1 (λ td tx p q. sdff_steered SrstPolarity SrstValue c d td x tx (row_by c Sdff e) k p l q) ts (widths_by c Sdff e f ts b)) vs (widths_by c Sdff e f vs a)
steered_by_kind Adff c e r f vs ts a b =
    two_words (λ us. Steered Adff c us ts) (width c) 1
    (λ d x k l. two_words (λ us. Steered Adff c (d ∷ x ∷ []) us) (width c) 1 (λ td tx p q. sdff_steered ArstPolarity ArstValue c d td x tx (row_by c Adff e) k p l q) ts (widths_by c Adff e f ts b)) vs (widths_by c Adff e f vs a)
steered_by_kind Sdffe c e r f vs ts a b =
    three_words (λ us. Steered Sdffe c us ts) (width c) 1 1
    (λ d y x k l o. three_words (λ us. Steered Sdffe c (d ∷ y ∷ x ∷ []) us) (width c) 1 1 (λ td ty tx p q u. sdffe_steered SrstPolarity SrstValue c d td y ty x tx (row_by c Sdffe e) k p l q o u) ts (widths_by c Sdffe e f ts b)) vs (widths_by c Sdffe e f vs a)
steered_by_kind Adffe c e r f vs ts a b =
    three_words (λ us. Steered Adffe c us ts) (width c) 1 1
    (λ d y x k l o. three_words (λ us. Steered Adffe c (d ∷ y ∷ x ∷ []) us) (width c) 1 1 (λ td ty tx p q u. sdffe_steered ArstPolarity ArstValue c d td y ty x tx (row_by c Adffe e) k p l q o u) ts (widths_by c Adffe e f ts b)) vs (widths_by c Adffe e f vs a)
steered_by_kind Sdffce c e r f vs ts a b =
    three_words (λ us. Steered Sdffce c us ts) (width c) 1 1
    (λ d y x k l o. three_words (λ us. Steered Sdffce c (d ∷ y ∷ x ∷ []) us) (width c) 1 1 (λ td ty tx p q u. sdffce_steered SrstPolarity SrstValue c d td y ty x tx (row_by c Sdffce e) k p l q o u) ts (widths_by c Sdffce e f ts b)) vs (widths_by c Sdffce e f vs a)
steered_by_kind _ c e r f vs ts a b = absurd (cc)

-- controls whose parts are those of the kind
pub same_controls : (c : Cell) (vs ts : List Word) (k : Kind) (e r : TaintedBit) (v : Param) (f : Precedence) → k ≡ c.kind → e ≡ enable_by c.kind c vs ts → r ≡ reset_by c.kind c vs ts → v ≡ reset_value_by k → f ≡ precedence_by k
    → let x : Controls = record { enable = e; reset = r; reset_value = v; first = f } in x ≡ controls_of c vs ts
same_controls c vs ts k e r v f h he hr hv hf =
    let value : v ≡ reset_value_by c.kind = hv ∙ ap reset_value_by h in
    let first : f ≡ precedence_by c.kind = hf ∙ ap precedence_by h in
    cc

-- what a register stores next
pub steered : (c : Cell) (vs ts : List Word) (x : Controls) → is_register (role_of c.kind) ≡ true → IsFitted c → map length vs ≡ operand_widths c → map length ts ≡ operand_widths c → x ≡ controls_of c vs ts → IsSteeredBy c vs ts x
steered c vs ts x r f a b e = rw e (steered_by_kind c.kind c refl r f vs ts a b)

-- ---- what is shown

reset_at : (k : Kind) (c : Cell) (vs ts : List Word) → role_of k ≡ ResetRegister → reset_by k c vs ts ≡ active_at c ArstPolarity vs ts (reset_operand k)
unfolding reset_by
reset_at Adff c vs ts e = refl
reset_at Adffe c vs ts e = refl
reset_at _ c vs ts e = absurd (cc)

reset_value_at : (k : Kind) → role_of k ≡ ResetRegister → reset_value_by k ≡ ArstValue
unfolding reset_value_by
reset_value_at Adff e = refl
reset_value_at Adffe e = refl
reset_value_at _ e = absurd (cc)

-- operand p and its taint are as long
as_long : (vs ts : List Word) (p : ℕ) → map length vs ≡ map length ts → length (operand ts p) ≡ length (operand vs p)
as_long vs ts p e = sym (map_width ts p) ∙ sym (ap (λ ns. get_or ns p 0) e) ∙ map_width vs p

-- what a register with asynchronous reset shows
pub shown : (c : Cell) (vs ts : List Word) (x : Controls) → role_of c.kind ≡ ResetRegister → map length vs ≡ map length ts → x ≡ controls_of c vs ts → IsShownBy c vs ts x
unfolding shown_word
shown c vs ts x r e h =
    let q : ℕ = reset_operand c.kind in
    let by_reset : x.reset ≡ active_at c ArstPolarity vs ts q = ap (λ (y : Controls). y.reset) h ∙ reset_at c.kind c vs ts r in
    let by_value : x.reset_value ≡ ArstValue = ap (λ (y : Controls). y.reset_value) h ∙ reset_value_at c.kind r in
    let long : length (operand ts q) ≡ length (operand vs q) = as_long vs ts q e in
    record {
      value = λ s st i l.
          ap (λ (z : TaintedBit). (chosen z (bit_with s st i) (untainted (bit (digits_of c x.reset_value) i))).value) by_reset
          ∙ ap (λ p. (chosen (active_at c ArstPolarity vs ts q) (bit_with s st i) (untainted (bit (digits_of c p) i))).value) by_value
          ∙ sym (bit-word (width c) _ i false l);
      taint = λ s st i k m l.
          ap (λ (z : TaintedBit). (chosen z (bit_with s st i) (untainted (bit (digits_of c x.reset_value) i))).taint) by_reset
          ∙ ap (λ p. (chosen (active_at c ArstPolarity vs ts q) (bit_with s st i) (untainted (bit (digits_of c p) i))).taint) by_value
          ∙ sym (bit-word (width c) (λ j. can_differ (shown_bit c j) (operand vs q ∷ s ∷ []) (operand ts q ∷ st ∷ [])) i false l ∙ shown_differs c i (operand vs q) (operand ts q) s st l (cc));
    }

-- ---- widths

length-next_by : (k : Kind) (c : Cell) (us : List Word) (stored : Word) → length (next_by k c us stored) ≡ width c
unfolding next_by
length-next_by Dff c us stored = length-word (width c) _
length-next_by Dffe c us stored = length-word (width c) _
length-next_by Sdff c us stored = length-word (width c) _
length-next_by Sdffe c us stored = length-word (width c) _
length-next_by Sdffce c us stored = length-word (width c) _
length-next_by Adff c us stored = length-word (width c) _
length-next_by Adffe c us stored = length-word (width c) _
length-next_by _ c us stored = length-word (width c) _

pub length-next_word : (c : Cell) (us : List Word) (stored : Word) → length (next_word c us stored) ≡ width c
length-next_word c us stored = length-next_by c.kind c us stored

pub length-shown_word : (c : Cell) (b : Bool) (stored : Word) → length (shown_word c b stored) ≡ width c
unfolding shown_word
length-shown_word c b stored = length-word (width c) _

-- ---- one bit, by the controls

-- n is bit i of a word and of its taint
pub record IsBitOf (n : TaintedBit) (w t : Word) (i : ℕ) : Type 0 where
  pub value : n.value ≡ bit w i
  pub taint : n.taint ≡ bit t i

pub next_bit_is : (c : Cell) (vs ts : List Word) (x : Controls) (s st : Word) (i : ℕ) (d p n : TaintedBit) → IsSteeredBy c vs ts x → length s ≡ width c → length st ≡ width c → i < width c
    → d ≡ bit_with (operand vs 0) (operand ts 0) i → p ≡ bit_with s st i → n ≡ next_of x (bit (digits_of c x.reset_value) i) d p → IsBitOf n (next_word c vs s) (next_register_taint c vs ts s st) i
next_bit_is c vs ts x s st i d p n h k l m e f g =
    let found : n ≡ next_of x (bit (digits_of c x.reset_value) i) (bit_with (operand vs 0) (operand ts 0) i) (bit_with s st i) =
    g ∙ ap (λ (z : TaintedBit). next_of x (bit (digits_of c x.reset_value) i) z p) e ∙ ap (next_of x (bit (digits_of c x.reset_value) i) (bit_with (operand vs 0) (operand ts 0) i)) f in
    record { value = ap (λ (z : TaintedBit). z.value) found ∙ h.value s st i m; taint = ap (λ (z : TaintedBit). z.taint) found ∙ h.taint s st i k l m }

pub shown_bit_is : (c : Cell) (vs ts : List Word) (x : Controls) (s st : Word) (i : ℕ) (p n : TaintedBit) → IsShownBy c vs ts x → length s ≡ width c → length st ≡ width c → i < width c
    → p ≡ bit_with s st i → n ≡ shown_of x (bit (digits_of c x.reset_value) i) p
    → IsBitOf n (shown_word c (bit (operand vs (reset_operand c.kind)) 0) s) (shown_taint c (operand vs (reset_operand c.kind)) (operand ts (reset_operand c.kind)) s st) i
shown_bit_is c vs ts x s st i p n h k l m f g =
    let found : n ≡ shown_of x (bit (digits_of c x.reset_value) i) (bit_with s st i) = g ∙ ap (shown_of x (bit (digits_of c x.reset_value) i)) f in
    record { value = ap (λ (z : TaintedBit). z.value) found ∙ h.value s st i m; taint = ap (λ (z : TaintedBit). z.taint) found ∙ h.taint s st i k l m }
