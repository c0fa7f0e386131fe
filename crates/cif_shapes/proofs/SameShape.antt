-- Cells of one shape: their widths, their outputs and their coarse taint are the same.
use Rattle.std.specs.Prelude.{ℕ, ◌<◌, ◌≡◌, Bool, false, List, [], ◌∷◌, map, length, get_or, refl}
use Rattle.std.proofs.Common.{arith, ap, sym, ◌∙◌}
use Rattle.cif_defs.specs.Words.{Word, bit, flag_word, number, operand}
use Rattle.cif_defs.specs.Kinds.{role_of}
use Rattle.cif_defs.specs.Cells.{Cell, binary, coarse_by, digits_of, number_of, shifting, unary, words_by}
use Rattle.cif_defs.specs.Fitted.{IsFitted, operand_widths, row_width}
use Rattle.cif_defs.specs.Table.{operands_of, outputs_of}
use Rattle.cif_defs.specs.Weights.{weight, weight_by}
use Rattle.cif_defs.specs.Meanings.{not_word, pos_word, neg_word, and_word, or_word, xor_word, xnor_word, add_word, sub_word, mul_word, div_word, mod_word, divfloor_word, modfloor_word, eq_word, ne_word, lt_word, le_word, ge_word, gt_word, shl_word, shr_word, sshr_word}
use Rattle.cif_defs.specs.declared.kinds.Role.TheVariants.{Combinational}
use Rattle.cif_defs.specs.declared.kinds.Kind.{Kind}
use Rattle.cif_defs.specs.declared.kinds.Kind.TheVariants.{Not, Pos, Neg, And, Or, Xor, Xnor, Add, Sub, Mul, Div, Mod, DivFloor, ModFloor, Eq, Ne, Eqx, Nex, Lt, Le, Ge, Gt, ReduceAnd, ReduceOr, ReduceXor, ReduceXnor, ReduceBool, LogicNot, LogicAnd, LogicOr, Shl, Sshl, Shr, Sshr, Shift, Shiftx, Mux, Pmux, Bmux, Demux, Concat, Slice, Fa, Alu, ScopeInfo, Dff, Dffe, Sdff, Sdffe, Sdffce, Adff, Adffe, Mem}
use Rattle.cif_defs.specs.declared.kinds.Kind.TheVariants.{Lut as LutKind}
use Rattle.cif_defs.specs.declared.kinds.Param.TheVariants.{ASigned, BSigned, AWidth, BWidth, YWidth, Width, SWidth, Offset}
use Rattle.cif_defs.specs.declared.kinds.Param.TheVariants.{Lut as LutTable}
use Rattle.cif_defs.proofs.WordLaws.{bit-word, length-word}
use Rattle.cif_term.specs.CellTaints.{output_width}
use Rattle.cif_shapes.specs.declared.shape.Shape.{Shape}
use Rattle.cif_shapes.specs.Shapes.{numbers_of, shape_of, table_of, table_size}

pub record SameShape (c d : Cell) : Type 0 where
  pub kind : c.kind ≡ d.kind
  pub a_signed : number_of c ASigned ≡ number_of d ASigned
  pub b_signed : number_of c BSigned ≡ number_of d BSigned
  pub a_width : number_of c AWidth ≡ number_of d AWidth
  pub b_width : number_of c BWidth ≡ number_of d BWidth
  pub y_width : number_of c YWidth ≡ number_of d YWidth
  pub width : number_of c Width ≡ number_of d Width
  pub s_width : number_of c SWidth ≡ number_of d SWidth
  pub offset : number_of c Offset ≡ number_of d Offset
  pub table : (i : ℕ) → i < table_size c.kind c → bit (digits_of c LutTable) i ≡ bit (digits_of d LutTable) i

same_table : (c d : Cell) → table_of c ≡ table_of d → (i : ℕ) → i < table_size c.kind c → bit (digits_of c LutTable) i ≡ bit (digits_of d LutTable) i
same_table c d e i l =
    let f : ℕ → Bool = λ k. bit (digits_of c LutTable) k in
    let g : ℕ → Bool = λ k. bit (digits_of d LutTable) k in
    let size : table_size c.kind c ≡ table_size d.kind d = sym (length-word (table_size c.kind c) f) ∙ ap length e ∙ length-word (table_size d.kind d) g in
    sym (bit-word (table_size c.kind c) f i false l) ∙ ap (λ (w : Word). bit w i) e ∙ bit-word (table_size d.kind d) g i false (omega arith)

pub from_shapes : (c d : Cell) → shape_of c ≡ shape_of d → SameShape c d
from_shapes c d e =
    let ns : numbers_of c ≡ numbers_of d = ap (λ (s : Shape). s.numbers) e in
    record {
      kind = ap (λ (s : Shape). s.kind) e;
      a_signed = ap (λ (xs : List ℕ). get_or xs 0 0) ns;
      b_signed = ap (λ (xs : List ℕ). get_or xs 1 0) ns;
      a_width = ap (λ (xs : List ℕ). get_or xs 2 0) ns;
      b_width = ap (λ (xs : List ℕ). get_or xs 3 0) ns;
      y_width = ap (λ (xs : List ℕ). get_or xs 4 0) ns;
      width = ap (λ (xs : List ℕ). get_or xs 5 0) ns;
      s_width = ap (λ (xs : List ℕ). get_or xs 6 0) ns;
      offset = ap (λ (xs : List ℕ). get_or xs 7 0) ns;
      table = same_table c d (ap (λ (s : Shape). s.table) e);
    }

-- ---- outputs

unary_same : (row : ℕ → Bool → Word → Word) (c d : Cell) (us : List Word) → SameShape c d → unary row c us ≡ unary row d us
unary_same row c d us s = rw (s.y_width, s.a_signed) refl

binary_same : (row : ℕ → Bool → Word → Word → Word) (c d : Cell) (us : List Word) → SameShape c d → binary row c us ≡ binary row d us
binary_same row c d us s = rw (s.y_width, s.a_signed, s.b_signed) refl

shifting_same : (row : ℕ → Bool → Word → Word → Word) (c d : Cell) (us : List Word) → SameShape c d → shifting row c us ≡ shifting row d us
shifting_same row c d us s = rw (s.y_width, s.a_signed) refl

-- a table of digits is read at one place
abbrev pub SameDigit : Kind → Cell → Cell → List Word → Type 0
SameDigit k c d us = k ≡ LutKind → bit (digits_of c LutTable) (number (operand us 0)) ≡ bit (digits_of d LutTable) (number (operand us 0))

words_same : (k : Kind) (c d : Cell) (us : List Word) → SameShape c d → SameDigit k c d us → words_by k c us ≡ words_by k d us
unfolding words_by
words_same Not c d us s t = unary_same not_word c d us s
words_same Pos c d us s t = unary_same pos_word c d us s
words_same Neg c d us s t = unary_same neg_word c d us s
words_same And c d us s t = binary_same and_word c d us s
words_same Or c d us s t = binary_same or_word c d us s
words_same Xor c d us s t = binary_same xor_word c d us s
words_same Xnor c d us s t = binary_same xnor_word c d us s
words_same Add c d us s t = binary_same add_word c d us s
words_same Sub c d us s t = binary_same sub_word c d us s
words_same Mul c d us s t = binary_same mul_word c d us s
words_same Div c d us s t = binary_same div_word c d us s
words_same Mod c d us s t = binary_same mod_word c d us s
words_same DivFloor c d us s t = binary_same divfloor_word c d us s
words_same ModFloor c d us s t = binary_same modfloor_word c d us s
words_same Eq c d us s t = binary_same eq_word c d us s
words_same Ne c d us s t = binary_same ne_word c d us s
words_same Eqx c d us s t = binary_same eq_word c d us s
words_same Nex c d us s t = binary_same ne_word c d us s
words_same Lt c d us s t = binary_same lt_word c d us s
words_same Le c d us s t = binary_same le_word c d us s
words_same Ge c d us s t = binary_same ge_word c d us s
words_same Gt c d us s t = binary_same gt_word c d us s
words_same ReduceAnd c d us s t = rw s.y_width refl
words_same ReduceOr c d us s t = rw s.y_width refl
words_same ReduceXor c d us s t = rw s.y_width refl
words_same ReduceXnor c d us s t = rw s.y_width refl
words_same ReduceBool c d us s t = rw s.y_width refl
words_same LogicNot c d us s t = rw s.y_width refl
words_same LogicAnd c d us s t = rw s.y_width refl
words_same LogicOr c d us s t = rw s.y_width refl
words_same Shl c d us s t = shifting_same shl_word c d us s
words_same Sshl c d us s t = shifting_same shl_word c d us s
words_same Shr c d us s t = shifting_same shr_word c d us s
words_same Sshr c d us s t = shifting_same sshr_word c d us s
words_same Shift c d us s t = rw (s.y_width, s.a_signed, s.b_signed) refl
words_same Shiftx c d us s t = rw (s.y_width, s.b_signed) refl
words_same Mux c d us s t = rw s.width refl
words_same Pmux c d us s t = rw s.width refl
words_same Bmux c d us s t = rw s.width refl
words_same Demux c d us s t = rw (s.width, s.s_width) refl
words_same Concat c d us s t = rw (s.a_width, s.b_width) refl
words_same Slice c d us s t = rw (s.y_width, s.offset) refl
words_same LutKind c d us s t = ap (λ (b : Bool). flag_word 1 b ∷ []) (t refl)
words_same Fa c d us s t = rw s.width refl
words_same Alu c d us s t = rw (s.y_width, s.a_signed, s.b_signed) refl
words_same _ c d us s t = refl

pub same_meaning : (c d : Cell) (us : List Word) → SameShape c d → SameDigit c.kind c d us → words_by c.kind c us ≡ words_by d.kind d us
same_meaning c d us s t = words_same c.kind c d us s t ∙ ap (λ (k : Kind). words_by k d us) s.kind

coarse_same : (k : Kind) (c d : Cell) (vs ts : List Word) → SameShape c d → coarse_by k c vs ts ≡ coarse_by k d vs ts
unfolding coarse_by
coarse_same Mul c d vs ts s = rw (s.y_width, s.a_signed, s.b_signed) refl
coarse_same Div c d vs ts s = rw (s.y_width, s.a_signed, s.b_signed) refl
coarse_same Mod c d vs ts s = rw s.y_width refl
coarse_same DivFloor c d vs ts s = rw s.y_width refl
coarse_same ModFloor c d vs ts s = rw s.y_width refl
coarse_same _ c d vs ts s = refl

pub same_coarse : (c d : Cell) (vs ts : List Word) → SameShape c d → coarse_by c.kind c vs ts ≡ coarse_by d.kind d vs ts
same_coarse c d vs ts s = coarse_same c.kind c d vs ts s ∙ ap (λ (k : Kind). coarse_by k d vs ts) s.kind

-- ---- widths

operands_same : (k : Kind) (c d : Cell) → role_of k ≡ Combinational → SameShape c d → map (row_width c) (operands_of k) ≡ map (row_width d) (operands_of k)
unfolding operands_of
operands_same Not c d r s = rw s.a_width refl
operands_same Pos c d r s = rw s.a_width refl
operands_same Neg c d r s = rw s.a_width refl
operands_same ReduceAnd c d r s = rw s.a_width refl
operands_same ReduceOr c d r s = rw s.a_width refl
operands_same ReduceXor c d r s = rw s.a_width refl
operands_same ReduceXnor c d r s = rw s.a_width refl
operands_same ReduceBool c d r s = rw s.a_width refl
operands_same LogicNot c d r s = rw s.a_width refl
operands_same Slice c d r s = rw s.a_width refl
operands_same Mux c d r s = rw s.width refl
operands_same Pmux c d r s = rw (s.width, s.s_width) refl
operands_same Bmux c d r s = rw (s.width, s.s_width) refl
operands_same Demux c d r s = rw (s.width, s.s_width) refl
operands_same LutKind c d r s = rw s.width refl
operands_same Fa c d r s = rw s.width refl
operands_same Alu c d r s = rw (s.a_width, s.b_width) refl
operands_same ScopeInfo c d r s = absurd (cc)
operands_same Dff c d r s = absurd (cc)
operands_same Dffe c d r s = absurd (cc)
operands_same Sdff c d r s = absurd (cc)
operands_same Sdffe c d r s = absurd (cc)
operands_same Sdffce c d r s = absurd (cc)
operands_same Adff c d r s = absurd (cc)
operands_same Adffe c d r s = absurd (cc)
operands_same Mem c d r s = absurd (cc)
operands_same _ c d r s = rw (s.a_width, s.b_width) refl

pub same_operand_widths : (c d : Cell) → role_of c.kind ≡ Combinational → IsFitted c → IsFitted d → SameShape c d → operand_widths c ≡ operand_widths d
same_operand_widths c d r f g s =
    f.operands ∙ operands_same c.kind c d r s ∙ ap (λ (k : Kind). map (row_width d) (operands_of k)) s.kind ∙ sym g.operands

outputs_same : (k : Kind) (c d : Cell) → role_of k ≡ Combinational → SameShape c d → map (row_width c) (outputs_of k) ≡ map (row_width d) (outputs_of k)
unfolding outputs_of
outputs_same Mux c d r s = rw s.width refl
outputs_same Pmux c d r s = rw s.width refl
outputs_same Bmux c d r s = rw s.width refl
outputs_same Demux c d r s = rw (s.width, s.s_width) refl
outputs_same Concat c d r s = rw (s.a_width, s.b_width) refl
outputs_same LutKind c d r s = refl
outputs_same Fa c d r s = rw s.width refl
outputs_same Alu c d r s = rw s.y_width refl
outputs_same ScopeInfo c d r s = absurd (cc)
outputs_same Dff c d r s = absurd (cc)
outputs_same Dffe c d r s = absurd (cc)
outputs_same Sdff c d r s = absurd (cc)
outputs_same Sdffe c d r s = absurd (cc)
outputs_same Sdffce c d r s = absurd (cc)
outputs_same Adff c d r s = absurd (cc)
outputs_same Adffe c d r s = absurd (cc)
outputs_same Mem c d r s = absurd (cc)
outputs_same _ c d r s = rw s.y_width refl

pub same_output_width : (c d : Cell) (p : ℕ) → role_of c.kind ≡ Combinational → SameShape c d → output_width c p ≡ output_width d p
same_output_width c d p r s =
    ap (λ (ns : List ℕ). get_or ns p 0) (outputs_same c.kind c d r s ∙ ap (λ (k : Kind). map (row_width d) (outputs_of k)) s.kind)

-- ---- weights

weight_same : (k : Kind) (c d : Cell) → role_of k ≡ Combinational → SameShape c d → weight_by k c ≡ weight_by k d
unfolding weight_by
weight_same Shl c d r s = rw s.b_width refl
weight_same Sshl c d r s = rw s.b_width refl
weight_same Shr c d r s = rw s.b_width refl
weight_same Sshr c d r s = rw s.b_width refl
weight_same Shift c d r s = rw s.b_width refl
weight_same Shiftx c d r s = rw (s.b_width, s.a_width) refl
weight_same Pmux c d r s = rw s.s_width refl
weight_same Bmux c d r s = rw (s.width, s.s_width) refl
weight_same Demux c d r s = rw (s.width, s.s_width) refl
weight_same LutKind c d r s = rw s.width refl
weight_same Mem c d r s = absurd (cc)
weight_same _ c d r s = refl

pub same_weight : (c d : Cell) → role_of c.kind ≡ Combinational → SameShape c d → weight c ≡ weight d
same_weight c d r s = weight_same c.kind c d r s ∙ ap (λ (k : Kind). weight_by k d) s.kind
