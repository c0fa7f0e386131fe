-- Cells with operands A and B and output Y: their widths.
use Rattle.std.specs.Prelude.{ℕ, ◌≤◌, ◌≡◌, ◌≢◌, false, List, [], ◌∷◌, get_or, length, map, refl}
use Rattle.std.proofs.Common.{arith, sym, ap, subst, ◌∙◌}
use Rattle.cif_defs.specs.declared.kinds.Kind.{Kind}
use Rattle.cif_defs.specs.declared.kinds.Kind.TheVariants.{Shl, Sshl, Shr, Sshr, Shift, Shiftx, Mem}
use Rattle.cif_defs.specs.declared.kinds.CellPort.TheVariants.{A, B, Y}
use Rattle.cif_defs.specs.declared.kinds.Param.TheVariants.{AWidth, BWidth}
use Rattle.cif_defs.specs.declared.kinds.PortRow.{PortRow}
use Rattle.cif_defs.specs.Kinds.{is_coarse}
use Rattle.cif_defs.specs.Table.{a_row, b_row, operands_of, outputs_of, width_limit, y_row}
use Rattle.cif_defs.specs.Cells.{Cell, number_of, y_width}
use Rattle.cif_defs.specs.Fitted.{IsFitted, AllWithin, operand_widths, row_width}
use Rattle.rule_select.specs.Shifts.{IsNarrow}
use Rattle.cif_term.specs.CellTaints.{output_width}

pub record IsShiftCell (c : Cell) (limit : ℕ) : Type 0 where
  pub widths : operand_widths c ≡ number_of c AWidth ∷ number_of c BWidth ∷ []
  pub output : output_width c 0 ≡ y_width c
  pub one : length (outputs_of c.kind) ≡ 1
  pub fine : is_coarse c.kind ≡ false
  pub a_some : 1 ≤ number_of c AWidth
  pub a_few : number_of c AWidth ≤ limit
  pub b_some : 1 ≤ number_of c BWidth
  pub b_few : number_of c BWidth ≤ 128
  pub y_some : 1 ≤ y_width c
  pub y_few : y_width c ≤ 4096

-- a kind of that shape, whose A has at most so many bits
record IsShiftKind (k : Kind) (limit : ℕ) : Type 0 where
  operands : operands_of k ≡ a_row ∷ b_row ∷ []
  outputs : outputs_of k ≡ y_row ∷ []
  fine : is_coarse k ≡ false
  a_limit : width_limit k A ≡ limit
  b_limit : width_limit k B ≡ 128
  y_limit : width_limit k Y ≡ 4096
  no_memory : k ≢ Mem

by_kind : (c : Cell) (limit : ℕ) → IsFitted c → IsShiftKind c.kind limit → IsShiftCell c limit
by_kind c limit f s =
    let ins : AllWithin c (a_row ∷ b_row ∷ []) = subst (λ (rows : List PortRow). AllWithin c rows) s.operands (f.operands_within s.no_memory) in
    let outs : AllWithin c (y_row ∷ []) = subst (λ (rows : List PortRow). AllWithin c rows) s.outputs (f.outputs_within s.no_memory) in
    let a : number_of c AWidth ≤ width_limit c.kind A = ins.0.limit in
    let b : number_of c BWidth ≤ width_limit c.kind B = ins.1.0.limit in
    let y : y_width c ≤ width_limit c.kind Y = outs.0.limit in
    let la : width_limit c.kind A ≡ limit = s.a_limit in
    let lb : width_limit c.kind B ≡ 128 = s.b_limit in
    let ly : width_limit c.kind Y ≡ 4096 = s.y_limit in
    record {
      widths = f.operands ∙ ap (λ (rows : List PortRow). map (row_width c) rows) s.operands;
      output = ap (λ (rows : List PortRow). get_or (map (row_width c) rows) 0 0) s.outputs;
      one = ap (λ (rows : List PortRow). length rows) s.outputs;
      fine = s.fine;
      a_some = ins.0.some;
      a_few = omega arith;
      b_some = ins.1.0.some;
      b_few = omega arith;
      y_some = outs.0.some;
      y_few = omega arith;
    }

shl_kind : IsShiftKind Shl 4096
unfolding operands_of outputs_of width_limit
shl_kind = record { operands = refl; outputs = refl; fine = refl; a_limit = refl; b_limit = refl; y_limit = refl; no_memory = λ e. absurd (cc) }

sshl_kind : IsShiftKind Sshl 4096
unfolding operands_of outputs_of width_limit
sshl_kind = record { operands = refl; outputs = refl; fine = refl; a_limit = refl; b_limit = refl; y_limit = refl; no_memory = λ e. absurd (cc) }

shr_kind : IsShiftKind Shr 4096
unfolding operands_of outputs_of width_limit
shr_kind = record { operands = refl; outputs = refl; fine = refl; a_limit = refl; b_limit = refl; y_limit = refl; no_memory = λ e. absurd (cc) }

sshr_kind : IsShiftKind Sshr 4096
unfolding operands_of outputs_of width_limit
sshr_kind = record { operands = refl; outputs = refl; fine = refl; a_limit = refl; b_limit = refl; y_limit = refl; no_memory = λ e. absurd (cc) }

shift_kind : IsShiftKind Shift 4096
unfolding operands_of outputs_of width_limit
shift_kind = record { operands = refl; outputs = refl; fine = refl; a_limit = refl; b_limit = refl; y_limit = refl; no_memory = λ e. absurd (cc) }

shiftx_kind : IsShiftKind Shiftx 65536
unfolding operands_of outputs_of width_limit
shiftx_kind = record { operands = refl; outputs = refl; fine = refl; a_limit = refl; b_limit = refl; y_limit = refl; no_memory = λ e. absurd (cc) }

pub shl_cell : (c : Cell) → IsFitted c → c.kind ≡ Shl → IsShiftCell c 4096
shl_cell c f e = by_kind c 4096 f (subst (λ k. IsShiftKind k 4096) (sym e) shl_kind)

pub sshl_cell : (c : Cell) → IsFitted c → c.kind ≡ Sshl → IsShiftCell c 4096
sshl_cell c f e = by_kind c 4096 f (subst (λ k. IsShiftKind k 4096) (sym e) sshl_kind)

pub shr_cell : (c : Cell) → IsFitted c → c.kind ≡ Shr → IsShiftCell c 4096
shr_cell c f e = by_kind c 4096 f (subst (λ k. IsShiftKind k 4096) (sym e) shr_kind)

pub sshr_cell : (c : Cell) → IsFitted c → c.kind ≡ Sshr → IsShiftCell c 4096
sshr_cell c f e = by_kind c 4096 f (subst (λ k. IsShiftKind k 4096) (sym e) sshr_kind)

pub shift_cell : (c : Cell) → IsFitted c → c.kind ≡ Shift → IsShiftCell c 4096
shift_cell c f e = by_kind c 4096 f (subst (λ k. IsShiftKind k 4096) (sym e) shift_kind)

pub shiftx_cell : (c : Cell) → IsFitted c → c.kind ≡ Shiftx → IsShiftCell c 65536
shiftx_cell c f e = by_kind c 65536 f (subst (λ k. IsShiftKind k 65536) (sym e) shiftx_kind)

narrow_cell : (c : Cell) (limit : ℕ) → limit ≤ 65536 → IsShiftCell c limit → IsNarrow c
narrow_cell c limit h s = record {
  a = let l : number_of c AWidth ≤ limit = s.a_few in omega arith;
  b = let l : number_of c BWidth ≤ 128 = s.b_few in omega arith;
  y = let l : y_width c ≤ 4096 = s.y_few in omega arith;
}

pub shl_narrow : (c : Cell) → IsFitted c → c.kind ≡ Shl → IsNarrow c
shl_narrow c f e = narrow_cell c 4096 (omega arith) (shl_cell c f e)

pub sshl_narrow : (c : Cell) → IsFitted c → c.kind ≡ Sshl → IsNarrow c
sshl_narrow c f e = narrow_cell c 4096 (omega arith) (sshl_cell c f e)

pub shr_narrow : (c : Cell) → IsFitted c → c.kind ≡ Shr → IsNarrow c
shr_narrow c f e = narrow_cell c 4096 (omega arith) (shr_cell c f e)

pub sshr_narrow : (c : Cell) → IsFitted c → c.kind ≡ Sshr → IsNarrow c
sshr_narrow c f e = narrow_cell c 4096 (omega arith) (sshr_cell c f e)

pub shift_narrow : (c : Cell) → IsFitted c → c.kind ≡ Shift → IsNarrow c
shift_narrow c f e = narrow_cell c 4096 (omega arith) (shift_cell c f e)

pub shiftx_narrow : (c : Cell) → IsFitted c → c.kind ≡ Shiftx → IsNarrow c
shiftx_narrow c f e = narrow_cell c 65536 (omega arith) (shiftx_cell c f e)
