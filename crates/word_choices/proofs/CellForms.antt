-- Forms read from cells stand for them.
use Rattle.std.specs.Prelude.{ℕ, ◌*◌, ◌^◌, ◌<◌, ◌≤◌, ◌≡◌, ◌≢◌, ◌==◌, Bool, true, false, ◌&&◌, List, [], ◌∷◌, length, map, refl, if◌then◌else◌}
use Rattle.std.specs.List.{range_with_len}
use Rattle.std.proofs.Common.{arith, ap, subst, sym, ◌∙◌}
use Rattle.cif_defs.specs.Words.{Word, bit, number, operand, word}
use Rattle.cif_defs.specs.Cells.{Cell, a_signed, b_signed, coarse_by, digits_of, meaning, number_of, shifting, width, words_by}
use Rattle.cif_defs.specs.Completions.{AllComplete, can_differ}
use Rattle.cif_defs.specs.Fitted.{IsFitted, operand_widths}
use Rattle.cif_defs.specs.Kinds.{is_coarse}
use Rattle.cif_defs.specs.Meanings.{bmux_word, demux_word, pmux_word, shift_word, shiftx_word, shl_word, shr_word, sshr_word}
use Rattle.cif_defs.specs.Taint.{output_bit, output_taint}
use Rattle.cif_defs.specs.declared.kinds.Kind.{Kind}
use Rattle.cif_defs.specs.declared.kinds.Kind.TheVariants.{Bmux, Demux, Lut, Mux, Pmux, Shl, Sshl, Shr, Sshr, Shift, Shiftx}
use Rattle.cif_defs.specs.declared.kinds.Param.TheVariants.{BWidth, SWidth}
use Rattle.cif_defs.specs.declared.kinds.Param.TheVariants.{Lut as LutTable}
use Rattle.cif_defs.proofs.Numbers.{word-same}
use Rattle.cif_defs.proofs.WordLaws.{bit-word}
use Rattle.cif_defs.proofs.WordNumbers.{number_below}
use Rattle.cif_term.specs.CellTaints.{output_width, taint_word}
use Rattle.rule_select.specs.Selects.{is_select}
use Rattle.rule_select.proofs.DifferTests.{same_differ}
use Rattle.rule_select.proofs.MuxLaws.{mux_output, mux_widths}
use Rattle.rule_select.proofs.SelectLaws.{one_port}
use Rattle.rule_select.proofs.SelectOperands.{operand_by}
use Rattle.rule_select.proofs.SelectionCells.{bmux_output, bmux_widths, demux_output, demux_widths, lut_output, lut_widths, pmux_output, pmux_widths}
use Rattle.rule_select.proofs.ShiftCells.{IsShiftCell, shift_cell, shiftx_cell, shl_cell, shr_cell, sshl_cell, sshr_cell}
use Rattle.word_numbers.specs.NarrowCells.{IsNarrow}
use Rattle.word_choices.specs.ReadForms.{AreBlocksOf, HasForm, IsShiftOf, IsTableOf, table_word}
use Rattle.word_choices.specs.SelectForms.{IsSound, StandsFor, form_operands, form_output, form_word}
use Rattle.word_choices.specs.Shadows.{exact_word}
use Rattle.word_choices.specs.declared.form.SelectForm.{SelectForm}
use Rattle.word_choices.specs.declared.form.SelectForm.TheVariants.{Left, Right, Signed, Offset, Indexed}
use Rattle.word_choices.specs.declared.form.SelectForm.TheVariants.{Mux as MuxForm, Pmux as PmuxForm, Bmux as BmuxForm, Demux as DemuxForm, Lut as LutForm}
use Rattle.word_choices.specs.declared.shapes.Blocks.{Blocks}
use Rattle.word_choices.specs.declared.shapes.Chain.{Chain}
use Rattle.word_choices.specs.declared.shapes.Shift.{Shift as Shifting}
use Rattle.word_choices.specs.declared.shapes.Table.{Table}
use Rattle.word_choices.proofs.NarrowWidths.{mux_cell, one_width}
use Rattle.word_choices.proofs.ShadowLaws.{same_lengths}

-- ---- the taint of a cell with one output

at_bit : (c : Cell) (i : ℕ) (row : List Word → Word) (vs ts : List Word) → is_coarse c.kind ≡ false → ((us : List Word) → AllComplete vs ts us → meaning c us ≡ row us ∷ []) → output_taint c 0 i vs ts ≡ can_differ (λ us. bit (row us) i) vs ts
at_bit c i row vs ts fine h =
    ap (λ b. if b then bit (coarse_by c.kind c vs ts) i else can_differ (output_bit c 0 i) vs ts) fine
    ∙ same_differ (output_bit c 0 i) (λ us. bit (row us) i) vs ts (λ us d. ap (λ (ws : List Word). bit (operand ws 0) i) (h us d))

one_taint : (c : Cell) (n : ℕ) (row : List Word → Word) (vs ts : List Word) → is_coarse c.kind ≡ false → output_width c 0 ≡ n → ((us : List Word) → AllComplete vs ts us → meaning c us ≡ row us ∷ []) → taint_word c vs ts 0 ≡ exact_word n row vs ts
one_taint c n row vs ts fine e h = ap (λ k. word k (λ i. output_taint c 0 i vs ts)) e ∙ word-same n (λ i. output_taint c 0 i vs ts) (λ i. can_differ (λ us. bit (row us) i) vs ts) (λ i l. at_bit c i row vs ts fine h)

-- a form stands for a cell, where it has its widths and its meaning
stands_by : (f : SelectForm) (c : Cell) → HasForm c → IsSound f → is_coarse c.kind ≡ false → operand_widths c ≡ form_operands f → output_width c 0 ≡ form_output f
    → ((us : List Word) → map length us ≡ form_operands f → meaning c us ≡ form_word f us ∷ []) → StandsFor f c
stands_by f c has sound fine ops out h = record {
  has = has;
  sound = sound;
  operands = ops;
  outputs = one_width c (form_output f) (one_port c has.kind) out;
  words = λ us e. h us (e ∙ ops);
  taints = λ vs ts e d. ap (λ k. map (taint_word c vs ts) (range_with_len 0 k)) (one_port c has.kind)
      ∙ ap (λ (w : Word). w ∷ []) (one_taint c (form_output f) (form_word f) vs ts fine out (λ us a. h us (same_lengths vs us a.as_many (λ q. (a.each q).as_long) ∙ e ∙ ops)));
}

-- a kind other than $lut needs no more
by_kind : (c : Cell) (k : Kind) → c.kind ≡ k → is_select k ≡ true → k ≢ Lut → HasForm c
by_kind c k e h other = record { kind = ap is_select e ∙ h; table = λ q. absurd (other (sym e ∙ q)) }

-- ---- choices

pub mux_stands : (c : Cell) (n : ℕ) → IsFitted c → IsNarrow c → c.kind ≡ Mux → n ≡ width c → StandsFor (MuxForm n) c
unfolding words_by
mux_stands c n f h k e =
    let cell = mux_cell c f h k in
    subst (λ m. StandsFor (MuxForm m) c) (sym e) (stands_by (MuxForm (width c)) c (by_kind c Mux k refl (λ q. absurd (cc))) (record { some = cell.some; limit = cell.few }) (ap is_coarse k) (mux_widths c f k) (mux_output c k)
    (λ us d. ap (λ x. words_by x c us) k))

pub pmux_stands : (c : Cell) (g : Chain) → IsFitted c → c.kind ≡ Pmux → g.width ≡ width c → g.selects ≡ number_of c SWidth → StandsFor (PmuxForm g) c
unfolding words_by
pmux_stands c g f k ew es = stands_by (PmuxForm g) c (by_kind c Pmux k refl (λ q. absurd (cc))) tt (ap is_coarse k)
    (pmux_widths c f k ∙ ap (λ n. n ∷ n * number_of c SWidth ∷ number_of c SWidth ∷ []) (sym ew) ∙ ap (λ n. g.width ∷ g.width * n ∷ n ∷ []) (sym es))
    (pmux_output c k ∙ sym ew)
    (λ us d. ap (λ x. words_by x c us) k ∙ ap (λ n. pmux_word n (operand us 0) (operand us 1) (operand us 2) ∷ []) (sym ew))

pub bmux_stands : (c : Cell) (b : Blocks) → IsFitted c → c.kind ≡ Bmux → AreBlocksOf b c → StandsFor (BmuxForm b) c
unfolding words_by
bmux_stands c b f k g = stands_by (BmuxForm b) c (by_kind c Bmux k refl (λ q. absurd (cc))) tt (ap is_coarse k)
    (bmux_widths c f k ∙ ap (λ n. n * 2 ^ number_of c SWidth ∷ number_of c SWidth ∷ []) (sym g.width) ∙ ap (λ n. b.width * 2 ^ n ∷ n ∷ []) (sym g.selects))
    (bmux_output c k ∙ sym g.width)
    (λ us d. ap (λ x. words_by x c us) k ∙ ap (λ n. bmux_word n (operand us 0) (operand us 1) ∷ []) (sym g.width))

pub demux_stands : (c : Cell) (b : Blocks) → IsFitted c → c.kind ≡ Demux → AreBlocksOf b c → StandsFor (DemuxForm b) c
unfolding words_by
demux_stands c b f k g = stands_by (DemuxForm b) c (by_kind c Demux k refl (λ q. absurd (cc))) tt (ap is_coarse k)
    (demux_widths c f k ∙ ap (λ n. n ∷ number_of c SWidth ∷ []) (sym g.width) ∙ ap (λ n. b.width ∷ n ∷ []) (sym g.selects))
    (demux_output c k ∙ ap (λ n. n * 2 ^ number_of c SWidth) (sym g.width) ∙ ap (λ n. b.width * 2 ^ n) (sym g.selects))
    (λ us d. ap (λ x. words_by x c us) k ∙ ap (λ n. demux_word n (number_of c SWidth) (operand us 0) (operand us 1) ∷ []) (sym g.width)
    ∙ ap (λ n. demux_word b.width n (operand us 0) (operand us 1) ∷ []) (sym g.selects))

-- ---- tables

-- at an address of its width a table has the cell's digit
same_digit : (c : Cell) (t : Table) (a : Word) → IsTableOf t c → length a ≡ t.address → bit (digits_of c LutTable) (number a) ≡ bit (table_word t) (number a)
same_digit c t a g e =
    let below : number a < 2 ^ length a = number_below a in
    let size : 2 ^ length a ≡ 2 ^ width c = ap (λ n. 2 ^ n) (e ∙ g.address) in
    sym (ap (λ (w : Word). bit w (number a)) g.digits ∙ bit-word (2 ^ width c) (bit (digits_of c LutTable)) (number a) false (omega arith))

pub lut_stands : (c : Cell) (t : Table) → IsFitted c → c.kind ≡ Lut → IsTableOf t c → width c ≤ 7 → StandsFor (LutForm t) c
unfolding words_by
lut_stands c t f k g few = stands_by (LutForm t) c (record { kind = ap is_select k; table = λ q. few }) tt (ap is_coarse k)
    (lut_widths c f k ∙ ap (λ n. n ∷ []) (sym g.address)) (lut_output c k)
    (λ us e. ap (λ x. words_by x c us) k ∙ ap (λ b. word 1 (λ i. i == 0 && b) ∷ []) (same_digit c t (operand us 0) g (operand_by us (t.address ∷ []) 0 t.address e refl).1))

-- ---- shifts

shift_stands : (f : SelectForm) (c : Cell) (s : Shifting) (signed : Bool) (limit : ℕ) → HasForm c → IsSound f → IsShiftCell c limit → IsShiftOf s signed c → form_operands f ≡ s.a ∷ s.b ∷ [] → form_output f ≡ s.y
    → ((us : List Word) → meaning c us ≡ form_word f us ∷ []) → StandsFor f c
shift_stands f c s signed limit has sound cell g ops out h = stands_by f c has sound cell.fine
    (cell.widths ∙ ap (λ n. n ∷ number_of c BWidth ∷ []) (sym g.a) ∙ ap (λ n. s.a ∷ n ∷ []) (sym g.b) ∙ sym ops) (cell.output ∙ sym g.y ∙ sym out) (λ us d. h us)

pub sign_read : (c : Cell) (s : Shifting) (signed : Bool) → signed ≡ a_signed c → IsShiftOf s signed c → IsShiftOf s (a_signed c) c
sign_read c s signed e g = subst (λ b. IsShiftOf s b c) e g

shifted : (row : ℕ → Bool → Word → Word → Word) (c : Cell) (s : Shifting) (us : List Word) → IsShiftOf s (a_signed c) c → shifting row c us ≡ row s.y s.a_signed (operand us 0) (operand us 1) ∷ []
shifted row c s us g =
    ap (λ n. row n (a_signed c) (operand us 0) (operand us 1) ∷ []) (sym g.y) ∙ ap (λ b. row s.y b (operand us 0) (operand us 1) ∷ []) (sym g.a_signed)

pub shl_stands : (c : Cell) (s : Shifting) → IsFitted c → c.kind ≡ Shl → IsShiftOf s (a_signed c) c → StandsFor (Left s) c
unfolding words_by
shl_stands c s f k g = shift_stands (Left s) c s (a_signed c) 4096 (by_kind c Shl k refl (λ q. absurd (cc))) tt (shl_cell c f k) g refl refl (λ us. ap (λ x. words_by x c us) k ∙ shifted shl_word c s us g)

pub sshl_stands : (c : Cell) (s : Shifting) → IsFitted c → c.kind ≡ Sshl → IsShiftOf s (a_signed c) c → StandsFor (Left s) c
unfolding words_by
sshl_stands c s f k g = shift_stands (Left s) c s (a_signed c) 4096 (by_kind c Sshl k refl (λ q. absurd (cc))) tt (sshl_cell c f k) g refl refl (λ us. ap (λ x. words_by x c us) k ∙ shifted shl_word c s us g)

pub shr_stands : (c : Cell) (s : Shifting) → IsFitted c → c.kind ≡ Shr → IsShiftOf s (a_signed c) c → StandsFor (Right s) c
unfolding words_by
shr_stands c s f k g = shift_stands (Right s) c s (a_signed c) 4096 (by_kind c Shr k refl (λ q. absurd (cc))) tt (shr_cell c f k) g refl refl (λ us. ap (λ x. words_by x c us) k ∙ shifted shr_word c s us g)

pub sshr_stands : (c : Cell) (s : Shifting) → IsFitted c → c.kind ≡ Sshr → IsShiftOf s (a_signed c) c → StandsFor (Signed s) c
unfolding words_by
sshr_stands c s f k g = shift_stands (Signed s) c s (a_signed c) 4096 (by_kind c Sshr k refl (λ q. absurd (cc))) tt (sshr_cell c f k) g refl refl (λ us. ap (λ x. words_by x c us) k ∙ shifted sshr_word c s us g)

pub offset_stands : (c : Cell) (s : Shifting) → IsFitted c → c.kind ≡ Shift → IsShiftOf s (a_signed c) c → StandsFor (Offset s) c
unfolding words_by
offset_stands c s f k g = shift_stands (Offset s) c s (a_signed c) 4096 (by_kind c Shift k refl (λ q. absurd (cc))) tt (shift_cell c f k) g refl refl
    (λ us. ap (λ x. words_by x c us) k ∙ ap (λ n. shift_word n (a_signed c) (b_signed c) (operand us 0) (operand us 1) ∷ []) (sym g.y)
    ∙ ap (λ b. shift_word s.y b (b_signed c) (operand us 0) (operand us 1) ∷ []) (sym g.a_signed) ∙ ap (λ b. shift_word s.y s.a_signed b (operand us 0) (operand us 1) ∷ []) (sym g.b_signed))

pub indexed_stands : (c : Cell) (s : Shifting) → IsFitted c → c.kind ≡ Shiftx → IsShiftOf s false c → StandsFor (Indexed s) c
unfolding words_by
indexed_stands c s f k g = shift_stands (Indexed s) c s false 65536 (by_kind c Shiftx k refl (λ q. absurd (cc))) g.a_signed (shiftx_cell c f k) g refl refl
    (λ us. ap (λ x. words_by x c us) k ∙ ap (λ n. shiftx_word n (b_signed c) (operand us 0) (operand us 1) ∷ []) (sym g.y) ∙ ap (λ b. shiftx_word s.y b (operand us 0) (operand us 1) ∷ []) (sym g.b_signed))
