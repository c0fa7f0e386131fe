-- The widths of narrow cells that select or shift.
use Rattle.std.specs.Prelude.{ℕ, ◌*◌, ◌^◌, ◌≤◌, ◌≡◌, true, List, [], ◌∷◌, get_or, length, map, refl}
use Rattle.std.proofs.Common.{arith, ap, subst, ◌∙◌}
use Rattle.std.proofs.lemmas.List.{length-map}
use Rattle.cif_defs.specs.Cells.{Cell, number_of, width, y_width}
use Rattle.cif_defs.specs.Fitted.{AllWithin, IsFitted, row_width}
use Rattle.cif_defs.specs.Table.{operands_of, outputs_of}
use Rattle.cif_defs.specs.declared.kinds.Kind.{Kind}
use Rattle.cif_defs.specs.declared.kinds.Kind.TheVariants.{Bmux, Demux, Mux, Pmux, Shl, Sshl, Shr, Sshr, Shift, Shiftx}
use Rattle.cif_defs.specs.declared.kinds.Param.TheVariants.{AWidth, BWidth, SWidth}
use Rattle.cif_term.specs.CellTaints.{output_width}
use Rattle.rule_select.proofs.BlockTrees.{scaled_most}
use Rattle.rule_select.proofs.MuxLaws.{mux_widths}
use Rattle.rule_select.proofs.SelectionCells.{bmux_cell, bmux_widths, demux_cell, demux_widths, pmux_cell, pmux_widths}
use Rattle.rule_select.proofs.ShiftCells.{IsShiftCell, shift_cell, shiftx_cell, shl_cell, shr_cell, sshl_cell, sshr_cell}
use Rattle.word_numbers.specs.NarrowCells.{AreWithin128, IsNarrow, output_widths}
use Rattle.word_choices.specs.ReadForms.{has_blocks, is_shift}

-- ---- one output

single : (ns : List ℕ) (n : ℕ) → length ns ≡ 1 → get_or ns 0 0 ≡ n → ns ≡ n ∷ []
single [] n h e = absurd (omega arith)
single (x ∷ []) n h e = ap (λ k. k ∷ []) e
single (x ∷ y ∷ ns) n h e = absurd (omega arith)

pub one_width : (c : Cell) (n : ℕ) → length (outputs_of c.kind) ≡ 1 → output_width c 0 ≡ n → output_widths c ≡ n ∷ []
one_width c n h e = single (output_widths c) n (length-map (outputs_of c.kind) (row_width c) ∙ h) e

-- ---- $mux

pub record IsMuxCell (c : Cell) : Type 0 where
  pub some : 1 ≤ width c
  pub few : width c ≤ 128

pub mux_cell : (c : Cell) → IsFitted c → IsNarrow c → c.kind ≡ Mux → IsMuxCell c
unfolding operands_of
mux_cell c f h k =
    let ins : AllWithin c (operands_of Mux) = subst (λ x. AllWithin c (operands_of x)) k (f.operands_within (λ e. absurd (cc))) in
    let narrow : AreWithin128 (width c ∷ width c ∷ 1 ∷ []) = subst (λ (ns : List ℕ). AreWithin128 ns) (mux_widths c f k) h.operands in
    record { some = ins.0.some; few = narrow.0 }

-- ---- $pmux

pub record IsPmuxCell (c : Cell) : Type 0 where
  pub some : 1 ≤ width c
  pub few : width c ≤ 128
  pub selects_some : 1 ≤ number_of c SWidth
  pub selects : number_of c SWidth ≤ 128
  pub limit : width c * number_of c SWidth ≤ 128

pub pmux_narrow : (c : Cell) → IsFitted c → IsNarrow c → c.kind ≡ Pmux → IsPmuxCell c
pmux_narrow c f h k =
    let cell = pmux_cell c f k in
    let narrow : AreWithin128 (width c ∷ width c * number_of c SWidth ∷ number_of c SWidth ∷ []) = subst (λ (ns : List ℕ). AreWithin128 ns) (pmux_widths c f k) h.operands in
    record { some = cell.some; few = narrow.0; selects_some = cell.selects_some; selects = narrow.1.1.0; limit = narrow.1.0 }

-- ---- $bmux and $demux

pub record AreNarrowBlocks (c : Cell) : Type 0 where
  pub some : 1 ≤ width c
  pub few : width c ≤ 128
  pub selects : number_of c SWidth ≤ 128
  pub limit : width c * 2 ^ number_of c SWidth ≤ 128

one_block : (n m : ℕ) → n * 2 ^ m ≤ 128 → n ≤ 128
one_block n m h = let most : n * 2 ^ 0 ≤ n * 2 ^ m = scaled_most n 0 m (omega arith) in omega arith

demux_outputs : (c : Cell) → c.kind ≡ Demux → output_widths c ≡ width c * 2 ^ number_of c SWidth ∷ []
unfolding outputs_of
demux_outputs c e = ap (λ x. map (row_width c) (outputs_of x)) e

blocks_by : (k : Kind) (c : Cell) → IsFitted c → IsNarrow c → c.kind ≡ k → has_blocks k ≡ true → AreNarrowBlocks c
blocks_by Bmux c f h e b =
    let ins : AreWithin128 (width c * 2 ^ number_of c SWidth ∷ number_of c SWidth ∷ []) = subst (λ (ns : List ℕ). AreWithin128 ns) (bmux_widths c f e) h.operands in
    record { some = (bmux_cell c f e).some; few = one_block (width c) (number_of c SWidth) ins.0; selects = ins.1.0; limit = ins.0 }
blocks_by Demux c f h e b =
    let ins : AreWithin128 (width c ∷ number_of c SWidth ∷ []) = subst (λ (ns : List ℕ). AreWithin128 ns) (demux_widths c f e) h.operands in
    let outs : AreWithin128 (width c * 2 ^ number_of c SWidth ∷ []) = subst (λ (ns : List ℕ). AreWithin128 ns) (demux_outputs c e) h.outputs in
    record { some = (demux_cell c f e).some; few = ins.0; selects = ins.1.0; limit = outs.0 }
blocks_by _ c f h e b = absurd (cc)

pub narrow_blocks : (c : Cell) → IsFitted c → IsNarrow c → has_blocks c.kind ≡ true → AreNarrowBlocks c
narrow_blocks c f h b = blocks_by c.kind c f h refl b

-- ---- shifts

pub record IsNarrowShift (c : Cell) : Type 0 where
  pub a_some : 1 ≤ number_of c AWidth
  pub a_few : number_of c AWidth ≤ 128
  pub b_some : 1 ≤ number_of c BWidth
  pub b_few : number_of c BWidth ≤ 128
  pub y_some : 1 ≤ y_width c
  pub y_few : y_width c ≤ 128

shift_by : (c : Cell) (limit : ℕ) → IsNarrow c → IsShiftCell c limit → IsNarrowShift c
shift_by c limit h s =
    let ins : AreWithin128 (number_of c AWidth ∷ number_of c BWidth ∷ []) = subst (λ (ns : List ℕ). AreWithin128 ns) s.widths h.operands in
    let outs : AreWithin128 (y_width c ∷ []) = subst (λ (ns : List ℕ). AreWithin128 ns) (one_width c (y_width c) s.one s.output) h.outputs in
    record { a_some = s.a_some; a_few = ins.0; b_some = s.b_some; b_few = ins.1.0; y_some = s.y_some; y_few = outs.0 }

by_kind : (k : Kind) (c : Cell) → IsFitted c → IsNarrow c → c.kind ≡ k → is_shift k ≡ true → IsNarrowShift c
by_kind Shl c f h e b = shift_by c 4096 h (shl_cell c f e)
by_kind Sshl c f h e b = shift_by c 4096 h (sshl_cell c f e)
by_kind Shr c f h e b = shift_by c 4096 h (shr_cell c f e)
by_kind Sshr c f h e b = shift_by c 4096 h (sshr_cell c f e)
by_kind Shift c f h e b = shift_by c 4096 h (shift_cell c f e)
by_kind Shiftx c f h e b = shift_by c 65536 h (shiftx_cell c f e)
by_kind _ c f h e b = absurd (cc)

pub narrow_shift : (c : Cell) → IsFitted c → IsNarrow c → is_shift c.kind ≡ true → IsNarrowShift c
narrow_shift c f h b = by_kind c.kind c f h refl b
