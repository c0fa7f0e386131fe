-- The ports of a fitted cell, read off the table of kinds.
use Rattle.std.specs.Prelude.{ℕ, zero, suc, ◌+◌, ◌*◌, ◌^◌, ◌<◌, ◌≤◌, ◌≡◌, ◌≢◌, true, List, [], ◌∷◌, length, map, get_or, refl}
use Rattle.std.proofs.Common.{arith, sym, ap, ◌∙◌, subst}
use Rattle.std.proofs.lemmas.List.{length-map}
use Rattle.cif_defs.specs.Words.{Word, operand}
use Rattle.cif_defs.specs.Cells.{Cell, number_of, width}
use Rattle.cif_defs.specs.Table.{operands_of, outputs_of, width_limit, row, a_row, b_row, y_row}
use Rattle.cif_defs.specs.Fitted.{AllWithin, IsFitted, IsWithin, operand_widths, row_width}
use Rattle.cif_defs.specs.declared.kinds.Kind.{Kind}
use Rattle.cif_defs.specs.declared.kinds.Kind.TheVariants.{Not, Pos, And, Or, Xor, Xnor, ReduceAnd, ReduceOr, ReduceXor, ReduceXnor, ReduceBool, LogicNot, LogicAnd, LogicOr, Concat, Slice, Fa, Mux, Pmux, Bmux, Demux, Shl, Sshl, Shr, Sshr, Shift, Shiftx, Mem}
use Rattle.cif_defs.specs.declared.kinds.Kind.TheVariants.{Lut as LutKind}
use Rattle.cif_defs.specs.declared.kinds.Param.TheVariants.{AWidth, BWidth, YWidth, Width, SWidth, Offset}
use Rattle.cif_defs.specs.declared.kinds.CellPort.{CellPort}
use Rattle.cif_defs.specs.declared.kinds.CellPort.TheVariants.{A, B, C, S, Y}
use Rattle.cif_defs.specs.declared.kinds.PortWidth.TheVariants.{One, Of, Product, Blocks}
use Rattle.cif_defs.specs.declared.kinds.PortRow.{PortRow}
use Rattle.cif_meanings.specs.CellPorts.{is_unary, is_binary, is_shift, HasUnaryPorts, HasBinaryPorts, HasShiftPorts, HasConcatPorts, HasSlicePorts, HasFaPorts, HasMuxPorts, HasPmuxPorts, HasBmuxPorts, HasDemuxPorts, HasLutPorts}

-- ---- one row of the table

-- operand p, whose row is r
pub record OperandFits (c : Cell) (us : List Word) (p : ℕ) (r : PortRow) : Type 0 where
  pub there : p < length us
  pub long : length (operand us p) ≡ row_width c r
  pub within : IsWithin c r

fits_at : (c : Cell) (us : List Word) (rows : List PortRow) (p : ℕ) (r : PortRow) → map length us ≡ map (row_width c) rows → AllWithin c rows → p < length rows → get_or rows p r ≡ r → OperandFits c us p r
fits_at c [] [] p r e w h g = absurd (omega arith)
fits_at c [] (x ∷ rows) p r e w h g = absurd (cc)
fits_at c (u ∷ us) [] p r e w h g = absurd (cc)
fits_at c (u ∷ us) (x ∷ rows) zero r e w h g = record {
  there = omega arith;
  long = (let first : length u ≡ row_width c x = cc in first ∙ ap (row_width c) g);
  within = subst (IsWithin c) g w.0;
}
fits_at c (u ∷ us) (x ∷ rows) (suc p) r e w h g =
    let rest = fits_at c us rows p r (cc) w.1 (omega arith) g in
    record { there = (let before : p < length us = rest.there in omega arith); long = rest.long; within = rest.within }

pub operand_fits : (c : Cell) (us : List Word) (k : Kind) (rows : List PortRow) (p : ℕ) (r : PortRow) → c.kind ≡ k → k ≢ Mem → IsFitted c → map length us ≡ operand_widths c
    → operands_of k ≡ rows → p < length rows → get_or rows p r ≡ r → OperandFits c us p r
operand_fits c us k rows p r e other f shape is h g =
    let here : operands_of c.kind ≡ rows = ap operands_of e ∙ is in
    fits_at c us rows p r (shape ∙ f.operands ∙ ap (map (row_width c)) here) (subst (AllWithin c) here (f.operands_within (λ q. other (sym e ∙ q)))) h g

pub operand_count : (c : Cell) (us : List Word) (k : Kind) (rows : List PortRow) → c.kind ≡ k → IsFitted c → map length us ≡ operand_widths c → operands_of k ≡ rows → length us ≡ length rows
operand_count c us k rows e f shape is =
    let same : map length us ≡ map (row_width c) rows = shape ∙ f.operands ∙ ap (λ x. map (row_width c) (operands_of x)) e ∙ ap (map (row_width c)) is in
    sym (length-map us length) ∙ ap length same ∙ length-map rows (row_width c)

-- the first output
pub output_fits : (c : Cell) (k : Kind) (r : PortRow) (rows : List PortRow) → c.kind ≡ k → k ≢ Mem → IsFitted c → outputs_of k ≡ r ∷ rows → IsWithin c r
output_fits c k r rows e other f is =
    let all : AllWithin c (r ∷ rows) = subst (AllWithin c) (ap outputs_of e ∙ is) (f.outputs_within (λ q. other (sym e ∙ q))) in
    all.0

limit_at : (c : Cell) (k : Kind) (r : PortRow) (n : ℕ) → c.kind ≡ k → IsWithin c r → width_limit k r.port ≡ n → row_width c r ≤ n
limit_at c k r n e w l =
    let limit : row_width c r ≤ width_limit c.kind r.port = w.limit in
    let here : width_limit c.kind r.port ≡ n = ap (λ x. width_limit x r.port) e ∙ l in
    omega arith

-- ---- families

pub record IsUnaryKind (k : Kind) : Type 0 where
  pub operands : operands_of k ≡ a_row ∷ []
  pub outputs : outputs_of k ≡ y_row ∷ []
  pub limit : width_limit k Y ≡ 4096
  pub other : k ≢ Mem

unary_kind : (k : Kind) → is_unary k ≡ true → IsUnaryKind k
unfolding operands_of outputs_of width_limit
unary_kind Not e = record { operands = refl; outputs = refl; limit = refl; other = λ q. absurd (cc) }
unary_kind Pos e = record { operands = refl; outputs = refl; limit = refl; other = λ q. absurd (cc) }
unary_kind ReduceAnd e = record { operands = refl; outputs = refl; limit = refl; other = λ q. absurd (cc) }
unary_kind ReduceOr e = record { operands = refl; outputs = refl; limit = refl; other = λ q. absurd (cc) }
unary_kind ReduceXor e = record { operands = refl; outputs = refl; limit = refl; other = λ q. absurd (cc) }
unary_kind ReduceXnor e = record { operands = refl; outputs = refl; limit = refl; other = λ q. absurd (cc) }
unary_kind ReduceBool e = record { operands = refl; outputs = refl; limit = refl; other = λ q. absurd (cc) }
unary_kind LogicNot e = record { operands = refl; outputs = refl; limit = refl; other = λ q. absurd (cc) }
unary_kind _ e = absurd (cc)

pub unary_ports : (c : Cell) (us : List Word) → is_unary c.kind ≡ true → IsFitted c → map length us ≡ operand_widths c → HasUnaryPorts c us
unary_ports c us e f shape =
    let k = unary_kind c.kind e in
    let a = operand_fits c us c.kind (a_row ∷ []) 0 a_row refl k.other f shape k.operands (omega arith) refl in
    let y = output_fits c c.kind y_row [] refl k.other f k.outputs in
    let count : length us ≡ 1 = operand_count c us c.kind (a_row ∷ []) refl f shape k.operands in
    record {
      operands = count;
      a = (let long : length (operand us 0) ≡ number_of c AWidth = a.long in let some : 1 ≤ number_of c AWidth = a.within.some in omega arith);
      y = y.some;
      y_limit = limit_at c c.kind y_row 4096 refl y k.limit;
    }

pub record IsBinaryKind (k : Kind) : Type 0 where
  pub operands : operands_of k ≡ a_row ∷ b_row ∷ []
  pub outputs : outputs_of k ≡ y_row ∷ []
  pub limit : width_limit k Y ≡ 4096
  pub other : k ≢ Mem

binary_kind : (k : Kind) → is_binary k ≡ true → IsBinaryKind k
unfolding operands_of outputs_of width_limit
binary_kind And e = record { operands = refl; outputs = refl; limit = refl; other = λ q. absurd (cc) }
binary_kind Or e = record { operands = refl; outputs = refl; limit = refl; other = λ q. absurd (cc) }
binary_kind Xor e = record { operands = refl; outputs = refl; limit = refl; other = λ q. absurd (cc) }
binary_kind Xnor e = record { operands = refl; outputs = refl; limit = refl; other = λ q. absurd (cc) }
binary_kind LogicAnd e = record { operands = refl; outputs = refl; limit = refl; other = λ q. absurd (cc) }
binary_kind LogicOr e = record { operands = refl; outputs = refl; limit = refl; other = λ q. absurd (cc) }
binary_kind _ e = absurd (cc)

pub binary_ports : (c : Cell) (us : List Word) → is_binary c.kind ≡ true → IsFitted c → map length us ≡ operand_widths c → HasBinaryPorts c us
binary_ports c us e f shape =
    let k = binary_kind c.kind e in
    let a = operand_fits c us c.kind (a_row ∷ b_row ∷ []) 0 a_row refl k.other f shape k.operands (omega arith) refl in
    let b = operand_fits c us c.kind (a_row ∷ b_row ∷ []) 1 b_row refl k.other f shape k.operands (omega arith) refl in
    let y = output_fits c c.kind y_row [] refl k.other f k.outputs in
    record {
      operands = operand_count c us c.kind (a_row ∷ b_row ∷ []) refl f shape k.operands;
      a = (let long : length (operand us 0) ≡ number_of c AWidth = a.long in let some : 1 ≤ number_of c AWidth = a.within.some in omega arith);
      b = (let long : length (operand us 1) ≡ number_of c BWidth = b.long in let some : 1 ≤ number_of c BWidth = b.within.some in omega arith);
      y = y.some;
      y_limit = limit_at c c.kind y_row 4096 refl y k.limit;
    }

pub record IsShiftKind (k : Kind) : Type 0 where
  pub operands : operands_of k ≡ a_row ∷ b_row ∷ []
  pub outputs : outputs_of k ≡ y_row ∷ []
  pub b_limit : width_limit k B ≡ 128
  pub y_limit : width_limit k Y ≡ 4096
  pub other : k ≢ Mem

shift_kind : (k : Kind) → is_shift k ≡ true → IsShiftKind k
unfolding operands_of outputs_of width_limit
shift_kind Shl e = record { operands = refl; outputs = refl; b_limit = refl; y_limit = refl; other = λ q. absurd (cc) }
shift_kind Sshl e = record { operands = refl; outputs = refl; b_limit = refl; y_limit = refl; other = λ q. absurd (cc) }
shift_kind Shr e = record { operands = refl; outputs = refl; b_limit = refl; y_limit = refl; other = λ q. absurd (cc) }
shift_kind Sshr e = record { operands = refl; outputs = refl; b_limit = refl; y_limit = refl; other = λ q. absurd (cc) }
shift_kind Shift e = record { operands = refl; outputs = refl; b_limit = refl; y_limit = refl; other = λ q. absurd (cc) }
shift_kind Shiftx e = record { operands = refl; outputs = refl; b_limit = refl; y_limit = refl; other = λ q. absurd (cc) }
shift_kind _ e = absurd (cc)

pub shift_ports : (c : Cell) (us : List Word) → is_shift c.kind ≡ true → IsFitted c → map length us ≡ operand_widths c → HasShiftPorts c us
shift_ports c us e f shape =
    let k = shift_kind c.kind e in
    let a = operand_fits c us c.kind (a_row ∷ b_row ∷ []) 0 a_row refl k.other f shape k.operands (omega arith) refl in
    let b = operand_fits c us c.kind (a_row ∷ b_row ∷ []) 1 b_row refl k.other f shape k.operands (omega arith) refl in
    let y = output_fits c c.kind y_row [] refl k.other f k.outputs in
    let b_width : length (operand us 1) ≡ number_of c BWidth = b.long in
    record {
      operands = operand_count c us c.kind (a_row ∷ b_row ∷ []) refl f shape k.operands;
      a = (let long : length (operand us 0) ≡ number_of c AWidth = a.long in let some : 1 ≤ number_of c AWidth = a.within.some in omega arith);
      b = (let some : 1 ≤ number_of c BWidth = b.within.some in omega arith);
      b_limit = (let limit : number_of c BWidth ≤ 128 = limit_at c c.kind b_row 128 refl b.within k.b_limit in omega arith);
      y_limit = limit_at c c.kind y_row 4096 refl y k.y_limit;
    }

-- ---- single kinds

pub slice_ports : (c : Cell) (us : List Word) → c.kind ≡ Slice → IsFitted c → map length us ≡ operand_widths c → HasSlicePorts c us
unfolding operands_of width_limit
slice_ports c us e f shape =
    let a = operand_fits c us Slice (a_row ∷ []) 0 a_row e (λ q. absurd (cc)) f shape refl (omega arith) refl in
    let long : length (operand us 0) ≡ number_of c AWidth = a.long in
    let limit : number_of c AWidth ≤ 4096 = limit_at c Slice a_row 4096 e a.within refl in
    let inside : number_of c Offset + number_of c YWidth ≤ number_of c AWidth = f.slice e in
    record {
      operands = operand_count c us Slice (a_row ∷ []) e f shape refl;
      inside = omega arith;
      a_limit = omega arith;
    }

pub concat_ports : (c : Cell) (us : List Word) → c.kind ≡ Concat → IsFitted c → map length us ≡ operand_widths c → HasConcatPorts c us
unfolding operands_of width_limit
concat_ports c us e f shape =
    let a = operand_fits c us Concat (a_row ∷ b_row ∷ []) 0 a_row e (λ q. absurd (cc)) f shape refl (omega arith) refl in
    let b = operand_fits c us Concat (a_row ∷ b_row ∷ []) 1 b_row e (λ q. absurd (cc)) f shape refl (omega arith) refl in
    record {
      operands = operand_count c us Concat (a_row ∷ b_row ∷ []) e f shape refl;
      a = a.long;
      b = b.long;
      a_limit = limit_at c Concat a_row 4096 e a.within refl;
      b_limit = limit_at c Concat b_row 4096 e b.within refl;
    }

abbrev wide : CellPort → PortRow
wide p = row p (Of Width)

pub fa_ports : (c : Cell) (us : List Word) → c.kind ≡ Fa → IsFitted c → map length us ≡ operand_widths c → HasFaPorts c us
unfolding operands_of width_limit
fa_ports c us e f shape =
    let rows : List PortRow = wide A ∷ wide B ∷ wide C ∷ [] in
    let a = operand_fits c us Fa rows 0 (wide A) e (λ q. absurd (cc)) f shape refl (omega arith) refl in
    let b = operand_fits c us Fa rows 1 (wide B) e (λ q. absurd (cc)) f shape refl (omega arith) refl in
    let third = operand_fits c us Fa rows 2 (wide C) e (λ q. absurd (cc)) f shape refl (omega arith) refl in
    record {
      operands = operand_count c us Fa rows e f shape refl;
      first = a.long;
      second = b.long;
      third = third.long;
      limit = limit_at c Fa (wide A) 4096 e a.within refl;
    }

pub mux_ports : (c : Cell) (us : List Word) → c.kind ≡ Mux → IsFitted c → map length us ≡ operand_widths c → HasMuxPorts c us
unfolding operands_of width_limit
mux_ports c us e f shape =
    let rows : List PortRow = wide A ∷ wide B ∷ row S One ∷ [] in
    let a = operand_fits c us Mux rows 0 (wide A) e (λ q. absurd (cc)) f shape refl (omega arith) refl in
    let b = operand_fits c us Mux rows 1 (wide B) e (λ q. absurd (cc)) f shape refl (omega arith) refl in
    let s = operand_fits c us Mux rows 2 (row S One) e (λ q. absurd (cc)) f shape refl (omega arith) refl in
    record {
      operands = operand_count c us Mux rows e f shape refl;
      a = a.long;
      b = b.long;
      s = s.long;
      limit = limit_at c Mux (wide A) 4096 e a.within refl;
    }

pub pmux_ports : (c : Cell) (us : List Word) → c.kind ≡ Pmux → IsFitted c → map length us ≡ operand_widths c → HasPmuxPorts c us
unfolding operands_of width_limit
pmux_ports c us e f shape =
    let rows : List PortRow = wide A ∷ row B (Product Width SWidth) ∷ row S (Of SWidth) ∷ [] in
    let a = operand_fits c us Pmux rows 0 (wide A) e (λ q. absurd (cc)) f shape refl (omega arith) refl in
    let b = operand_fits c us Pmux rows 1 (row B (Product Width SWidth)) e (λ q. absurd (cc)) f shape refl (omega arith) refl in
    let s = operand_fits c us Pmux rows 2 (row S (Of SWidth)) e (λ q. absurd (cc)) f shape refl (omega arith) refl in
    let b_width : length (operand us 1) ≡ width c * number_of c SWidth = b.long in
    let s_width : length (operand us 2) ≡ number_of c SWidth = s.long in
    let b_limit : width c * number_of c SWidth ≤ 65536 = limit_at c Pmux (row B (Product Width SWidth)) 65536 e b.within refl in
    record {
      operands = operand_count c us Pmux rows e f shape refl;
      a = a.long;
      b = b_width ∙ ap (λ k. width c * k) (sym s_width);
      b_limit = omega arith;
      limit = limit_at c Pmux (wide A) 4096 e a.within refl;
    }

pub bmux_ports : (c : Cell) (us : List Word) → c.kind ≡ Bmux → IsFitted c → map length us ≡ operand_widths c → HasBmuxPorts c us
unfolding operands_of outputs_of width_limit
bmux_ports c us e f shape =
    let rows : List PortRow = row A (Blocks Width SWidth) ∷ row S (Of SWidth) ∷ [] in
    let a = operand_fits c us Bmux rows 0 (row A (Blocks Width SWidth)) e (λ q. absurd (cc)) f shape refl (omega arith) refl in
    let s = operand_fits c us Bmux rows 1 (row S (Of SWidth)) e (λ q. absurd (cc)) f shape refl (omega arith) refl in
    let y = output_fits c Bmux (wide Y) [] e (λ q. absurd (cc)) f refl in
    let a_width : length (operand us 0) ≡ width c * 2 ^ number_of c SWidth = a.long in
    let s_width : length (operand us 1) ≡ number_of c SWidth = s.long in
    let a_limit : width c * 2 ^ number_of c SWidth ≤ 65536 = limit_at c Bmux (row A (Blocks Width SWidth)) 65536 e a.within refl in
    record {
      operands = operand_count c us Bmux rows e f shape refl;
      a = a_width ∙ ap (λ k. width c * 2 ^ k) (sym s_width);
      a_limit = omega arith;
      some = y.some;
      limit = limit_at c Bmux (wide Y) 4096 e y refl;
    }

pub demux_ports : (c : Cell) (us : List Word) → c.kind ≡ Demux → IsFitted c → map length us ≡ operand_widths c → HasDemuxPorts c us
unfolding operands_of outputs_of width_limit
demux_ports c us e f shape =
    let rows : List PortRow = wide A ∷ row S (Of SWidth) ∷ [] in
    let a = operand_fits c us Demux rows 0 (wide A) e (λ q. absurd (cc)) f shape refl (omega arith) refl in
    let s = operand_fits c us Demux rows 1 (row S (Of SWidth)) e (λ q. absurd (cc)) f shape refl (omega arith) refl in
    let y = output_fits c Demux (row Y (Blocks Width SWidth)) [] e (λ q. absurd (cc)) f refl in
    record {
      operands = operand_count c us Demux rows e f shape refl;
      a = a.long;
      s = s.long;
      s_limit = limit_at c Demux (row S (Of SWidth)) 4096 e s.within refl;
      y_limit = limit_at c Demux (row Y (Blocks Width SWidth)) 65536 e y refl;
      some = a.within.some;
      limit = limit_at c Demux (wide A) 4096 e a.within refl;
    }

pub lut_ports : (c : Cell) (us : List Word) → c.kind ≡ LutKind → IsFitted c → map length us ≡ operand_widths c → HasLutPorts c us
unfolding operands_of width_limit
lut_ports c us e f shape =
    let a = operand_fits c us LutKind (wide A ∷ []) 0 (wide A) e (λ q. absurd (cc)) f shape refl (omega arith) refl in
    let long : length (operand us 0) ≡ width c = a.long in
    let limit : width c ≤ 12 = limit_at c LutKind (wide A) 12 e a.within refl in
    record { operands = operand_count c us LutKind (wide A ∷ []) e f shape refl; a_limit = omega arith }
