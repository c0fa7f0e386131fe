-- The taint of $shift and $shiftx.
use Rattle.std.specs.Prelude.{ℕ, suc, ◌+◌, ◌-◌, ◌*◌, ◌<◌, ◌≤◌, ◌≡◌, max, Bool, true, false, List, [], ◌∷◌, refl}
use Rattle.std.proofs.Common.{arith, sym, ap, subst, ◌∙◌}
use Rattle.cif_defs.specs.Words.{Word, bit, operand}
use Rattle.cif_defs.specs.Meanings.{shift_word}
use Rattle.cif_defs.specs.declared.kinds.Kind.TheVariants.{Shift, Shiftx}
use Rattle.cif_defs.specs.declared.kinds.Param.TheVariants.{AWidth, BWidth}
use Rattle.cif_defs.specs.Cells.{Cell, a_signed, b_signed, number_of, words_by, y_width}
use Rattle.cif_defs.specs.Taint.{output_bit}
use Rattle.cif_defs.specs.Fitted.{IsFitted}
use Rattle.cif_defs.specs.Weights.{weight, weight_by, wide_steps}
use Rattle.cif_term.specs.Formulas.{pieces}
use Rattle.cif_term.specs.CellTaints.{AreTaintsOf}
use Rattle.rule_select.specs.declared.moves.Moves.TheVariants.{Right}
use Rattle.rule_select.specs.Offsets.{offset_formula, shift_offset, shiftx_offset, two_way_formula}
use Rattle.rule_select.proofs.SingleOutputs.{taints_from}
use Rattle.rule_select.proofs.MoveTrees.{right_moving}
use Rattle.rule_select.proofs.OffsetBits.{shiftx_is, signed_is, unsigned_is}
use Rattle.rule_select.proofs.OffsetLaws.{two_way_bit, two_way_formed, two_way_value}
use Rattle.rule_select.proofs.SelectOperands.{operand_by}
use Rattle.rule_select.proofs.ShiftCells.{IsShiftCell, shift_cell, shiftx_cell}
use Rattle.rule_select.proofs.ShiftKinds.{right_gives}
use Rattle.rule_select.proofs.ShiftTaints.{shift_taints}

-- the cell gives the row of $shift, with A as `signed` says
abbrev pub GivesShift : Cell → Bool → Type 0
GivesShift c signed = (us : List Word) (i : ℕ) → i < y_width c → output_bit c 0 i us ≡ bit (shift_word (y_width c) signed (b_signed c) (operand us 0) (operand us 1)) i

two_way_light : (b m x : ℕ) → b ≡ suc m → 6 * (1 + x) * m + 6 * m + 5 ≤ 24 * (b + 1) * (1 + x)
two_way_light b m x e = subst (λ k. 6 * (1 + x) * m + 6 * m + 5 ≤ 24 * (k + 1) * (1 + x)) (sym e) (omega arith)

one_way_light : (b x : ℕ) → 6 * (1 + x) * b ≤ 24 * (b + 1) * (1 + x)
one_way_light b x = omega arith

two_way_taints : (c : Cell) (limit : ℕ) (signed : Bool) (x : ℕ) → IsShiftCell c limit → limit ≤ 65536 → pieces (max (number_of c AWidth) (y_width c)) ≤ 1 + x → weight c ≡ 24 * (number_of c BWidth + 1) * (1 + x) → GivesShift c signed → b_signed c ≡ true
    → AreTaintsOf c (two_way_formula (y_width c) (number_of c AWidth) signed (number_of c BWidth - 1) ∷ [])
two_way_taints c limit signed x s large narrow heavy row q =
    let a_few : number_of c AWidth ≤ limit = s.a_few in
    let b_few : number_of c BWidth ≤ 128 = s.b_few in
    let b_some : 1 ≤ number_of c BWidth = s.b_some in
    let y_few : y_width c ≤ 4096 = s.y_few in
    let m : ℕ = number_of c BWidth - 1 in
    let top : number_of c BWidth ≡ suc (number_of c BWidth - 1) = omega arith in
    let light : 6 * (1 + x) * (number_of c BWidth - 1) + 6 * (number_of c BWidth - 1) + 5 ≤ 24 * (number_of c BWidth + 1) * (1 + x) = two_way_light (number_of c BWidth) (number_of c BWidth - 1) x top in
    taints_from c _ (number_of c AWidth ∷ number_of c BWidth ∷ []) (y_width c) (6 * (1 + x) * (number_of c BWidth - 1) + 6 * (number_of c BWidth - 1) + 5)
    (two_way_bit (max (number_of c AWidth) (y_width c)) (y_width c) signed (number_of c BWidth - 1)) (record {
      widths = s.widths;
      output = s.output;
      one = s.one;
      fine = s.fine;
      formed = two_way_formed (y_width c) (number_of c AWidth) signed (number_of c BWidth - 1) (number_of c BWidth) (1 + x) s.y_some y_few s.a_some (omega arith) (omega arith) (omega arith) narrow;
      value = λ vs ts e d. two_way_value (y_width c) (number_of c AWidth) signed (number_of c BWidth - 1) (number_of c BWidth) vs ts s.y_some (omega arith) s.a_some (omega arith) (omega arith) e d;
      gives = λ us e i h. row us i h ∙ ap (λ b. bit (shift_word (y_width c) signed b (operand us 0) (operand us 1)) i) q
          ∙ signed_is (y_width c) (number_of c AWidth) signed (number_of c BWidth - 1) i us (operand_by us _ 0 (number_of c AWidth) e refl).1 ((operand_by us _ 1 (number_of c BWidth) e refl).1 ∙ top) h;
    }) (subst (λ k. 6 * (1 + x) * (number_of c BWidth - 1) + 6 * (number_of c BWidth - 1) + 5 ≤ k) (sym heavy) light)

offset_by : (c : Cell) (limit : ℕ) (signed : Bool) (x : ℕ) (b : Bool) → IsShiftCell c limit → limit ≤ 65536 → pieces (max (number_of c AWidth) (y_width c)) ≤ 1 + x → weight c ≡ 24 * (number_of c BWidth + 1) * (1 + x) → GivesShift c signed → b_signed c ≡ b
    → AreTaintsOf c (offset_formula (y_width c) (number_of c AWidth) signed b (number_of c BWidth) ∷ [])
offset_by c limit signed x true s large narrow heavy row q = two_way_taints c limit signed x s large narrow heavy row q
offset_by c limit signed x false s large narrow heavy row q =
    let a_few : number_of c AWidth ≤ limit = s.a_few in
    let y_few : y_width c ≤ 4096 = s.y_few in
    let y_some : 1 ≤ y_width c = s.y_some in
    shift_taints c limit (Right (max (number_of c AWidth) (y_width c))) signed (1 + x) s large (right_moving (max (number_of c AWidth) (y_width c)) (number_of c BWidth) (omega arith) (omega arith)) (omega arith) (omega arith) narrow
    (λ us e i h. row us i h ∙ ap (λ b. bit (shift_word (y_width c) signed b (operand us 0) (operand us 1)) i) q ∙ unsigned_is (y_width c) signed (operand us 0) (operand us 1) i h
    ∙ right_gives c signed us (operand_by us _ 0 (number_of c AWidth) e refl).1 (operand_by us _ 1 (number_of c BWidth) e refl).1 i h)
    (subst (λ k. 6 * (1 + x) * number_of c BWidth ≤ k) (sym heavy) (one_way_light (number_of c BWidth) x))

narrow_pieces : (a y : ℕ) → a ≤ 4096 → y ≤ 4096 → pieces (max a y) ≤ 1 + 0
narrow_pieces a y h l = omega arith

wide_pieces : (a y : ℕ) → y ≤ 4096 → pieces (max a y) ≤ 1 + wide_steps a
wide_pieces a y l = omega arith

pub shift_kind_taints : (c : Cell) → IsFitted c → c.kind ≡ Shift → AreTaintsOf c (shift_offset c ∷ [])
unfolding words_by weight_by
shift_kind_taints c f e =
    let s = shift_cell c f e in
    offset_by c 4096 (a_signed c) 0 (b_signed c) s (omega arith) (narrow_pieces (number_of c AWidth) (y_width c) s.a_few s.y_few) (ap (λ k. weight_by k c) e ∙ (omega arith)) (λ us i h. ap (λ k. bit (operand (words_by k c us) 0) i) e) refl

pub shiftx_kind_taints : (c : Cell) → IsFitted c → c.kind ≡ Shiftx → AreTaintsOf c (shiftx_offset c ∷ [])
unfolding words_by weight_by
shiftx_kind_taints c f e =
    let s = shiftx_cell c f e in
    offset_by c 65536 false (wide_steps (number_of c AWidth)) (b_signed c) s (omega arith) (wide_pieces (number_of c AWidth) (y_width c) s.y_few) (ap (λ k. weight_by k c) e)
    (λ us i h. ap (λ k. bit (operand (words_by k c us) 0) i) e ∙ shiftx_is (y_width c) (b_signed c) (operand us 0) (operand us 1) i h) refl
