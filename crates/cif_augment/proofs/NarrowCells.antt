-- Cells weigh little, since their ports aren't too wide.
use Rattle.std.specs.Prelude.{ℕ, ◌+◌, ◌/◌, ◌<◌, ◌≤◌, ◌≡◌, true, List, [], ◌∷◌, map, length, get_or, refl}
use Rattle.std.proofs.Common.{arith, sym, ap, subst, ◌∙◌}
use Rattle.std.proofs.lemmas.List.{length-map, get_or_default}
use Rattle.cif_defs.specs.Cells.{Cell, number_of, width}
use Rattle.cif_defs.specs.Fitted.{AllWithin, IsFitted, IsWithin, row_width}
use Rattle.cif_defs.specs.Table.{operands_of, outputs_of, width_limit, a_row, b_row, row}
use Rattle.cif_defs.specs.Kinds.{role_of}
use Rattle.cif_defs.specs.Netlist.{no_cell}
use Rattle.cif_defs.specs.Weights.{blocks_width, wide_steps}
use Rattle.cif_defs.specs.declared.kinds.Role.TheVariants.{MemoryBlock}
use Rattle.cif_kinds.specs.StateCells.{HasMemoryNumbers}
use Rattle.cif_cells.specs.NetlistView.{AreFitted, HaveMemoryNumbers}
use Rattle.cif_defs.specs.declared.kinds.Kind.{Kind}
use Rattle.cif_defs.specs.declared.kinds.Kind.TheVariants.{Shl, Sshl, Shr, Sshr, Shift, Shiftx, Pmux, Bmux, Demux, Mem}
use Rattle.cif_defs.specs.declared.kinds.Kind.TheVariants.{Lut as LutKind}
use Rattle.cif_defs.specs.declared.kinds.CellPort.TheVariants.{A, B, S, Y}
use Rattle.cif_defs.specs.declared.kinds.Param.TheVariants.{AWidth, BWidth, SWidth, Width}
use Rattle.cif_defs.specs.declared.kinds.PortRow.{PortRow}
use Rattle.cif_defs.specs.declared.kinds.PortWidth.TheVariants.{Of, Blocks}
use Rattle.cif_kinds.proofs.OperandWidths.{length-at}
use Rattle.cif_augment.specs.Shifts.{is_shift}

-- a row of a cell of a kind is no wider than the kind allows
row_limit : (c : Cell) (k : Kind) (r : PortRow) (n : ℕ) → c.kind ≡ k → IsWithin c r → width_limit k r.port ≡ n → row_width c r ≤ n
row_limit c k r n e w l = (let here : row_width c r ≤ width_limit k r.port = subst (λ (q : Kind). row_width c r ≤ width_limit q r.port) e w.limit in omega arith)

-- ---- shifts

abbrev IsBinary : Cell → Type 0
IsBinary c = AllWithin c (a_row ∷ b_row ∷ [])

binary : (c : Cell) (k : Kind) → c.kind ≡ k → IsFitted c → (k ≡ Mem → ⊥) → operands_of k ≡ a_row ∷ b_row ∷ [] → IsBinary c
binary c k e f other rows =
    let here : AllWithin c (operands_of k) = subst (λ (q : Kind). AllWithin c (operands_of q)) e (f.operands_within (λ m. other (sym e ∙ m))) in
    subst (λ (rs : List PortRow). AllWithin c rs) rows here

by_limit : (c : Cell) (k : Kind) → c.kind ≡ k → IsFitted c → (k ≡ Mem → ⊥) → operands_of k ≡ a_row ∷ b_row ∷ [] → width_limit k B ≡ 128 → number_of c BWidth ≤ 128
by_limit c k e f other rows l = (let ins : IsBinary c = binary c k e f other rows in row_limit c k b_row 128 e ins.1.0 l)

few_steps : (c : Cell) (k : Kind) → c.kind ≡ k → is_shift k ≡ true → IsFitted c → number_of c BWidth ≤ 128
unfolding operands_of width_limit
few_steps c Shl e s f = by_limit c Shl e f (λ m. absurd (cc)) refl refl
few_steps c Sshl e s f = by_limit c Sshl e f (λ m. absurd (cc)) refl refl
few_steps c Shr e s f = by_limit c Shr e f (λ m. absurd (cc)) refl refl
few_steps c Sshr e s f = by_limit c Sshr e f (λ m. absurd (cc)) refl refl
few_steps c Shift e s f = by_limit c Shift e f (λ m. absurd (cc)) refl refl
few_steps c Shiftx e s f = by_limit c Shiftx e f (λ m. absurd (cc)) refl refl
few_steps c _ e s f = absurd (cc)

pub shift_is_short : (c : Cell) → is_shift c.kind ≡ true → IsFitted c → number_of c BWidth ≤ 128
shift_is_short c s f = few_steps c c.kind refl s f

pub shiftx_is_narrow : (c : Cell) → c.kind ≡ Shiftx → IsFitted c → number_of c AWidth ≤ 65536
unfolding operands_of width_limit
shiftx_is_narrow c e f = (let ins : IsBinary c = binary c Shiftx e f (λ m. absurd (cc)) refl in row_limit c Shiftx a_row 65536 e ins.0 refl)

-- ---- choices

pub pmux_is_narrow : (c : Cell) → c.kind ≡ Pmux → IsFitted c → number_of c SWidth ≤ 4096
unfolding operands_of width_limit
pmux_is_narrow c e f =
    let ins : AllWithin c (operands_of Pmux) = subst (λ (q : Kind). AllWithin c (operands_of q)) e (f.operands_within (λ m. absurd (cc))) in
    row_limit c Pmux (row S (Of SWidth)) 4096 e ins.1.1.0 refl

-- the choice's select, and its blocks, which are as many bits as stand there
pub record FewBlocks (c : Cell) (bits : ℕ) : Type 0 where
  pub select : number_of c SWidth ≤ 4096
  pub blocks : bits ≡ blocks_width c
  pub few : bits ≤ 65536

pub bmux_has_operand : (c : Cell) → c.kind ≡ Bmux → IsFitted c → 0 < length c.operands
unfolding operands_of
bmux_has_operand c e f =
    (let two : length c.operands ≡ 2 = sym (length-map c.operands length) ∙ ap (λ (ns : List ℕ). length ns) (f.operands ∙ ap (λ (q : Kind). map (row_width c) (operands_of q)) e) in omega arith)

pub demux_has_output : (c : Cell) → c.kind ≡ Demux → IsFitted c → 0 < length c.outputs
unfolding outputs_of
demux_has_output c e f =
    (let one : length c.outputs ≡ 1 = sym (length-map c.outputs length) ∙ ap (λ (ns : List ℕ). length ns) (f.outputs ∙ ap (λ (q : Kind). map (row_width c) (outputs_of q)) e) in omega arith)

pub bmux_is_narrow : (c : Cell) → c.kind ≡ Bmux → IsFitted c → FewBlocks c (length (get_or c.operands 0 []))
unfolding operands_of width_limit
bmux_is_narrow c e f =
    let ins : AllWithin c (operands_of Bmux) = subst (λ (q : Kind). AllWithin c (operands_of q)) e (f.operands_within (λ m. absurd (cc))) in
    let long : length (get_or c.operands 0 []) ≡ blocks_width c = length-at c.operands 0 ∙ ap (λ ns. get_or ns 0 0) (f.operands ∙ ap (λ (q : Kind). map (row_width c) (operands_of q)) e) in
    let few : blocks_width c ≤ 65536 = row_limit c Bmux (row A (Blocks Width SWidth)) 65536 e ins.0 refl in
    record { select = row_limit c Bmux (row S (Of SWidth)) 4096 e ins.1.0 refl; blocks = long; few = omega arith }

pub demux_is_narrow : (c : Cell) → c.kind ≡ Demux → IsFitted c → FewBlocks c (length (get_or c.outputs 0 []))
unfolding operands_of outputs_of width_limit
demux_is_narrow c e f =
    let ins : AllWithin c (operands_of Demux) = subst (λ (q : Kind). AllWithin c (operands_of q)) e (f.operands_within (λ m. absurd (cc))) in
    let outs : AllWithin c (outputs_of Demux) = subst (λ (q : Kind). AllWithin c (outputs_of q)) e (f.outputs_within (λ m. absurd (cc))) in
    let long : length (get_or c.outputs 0 []) ≡ blocks_width c = length-at c.outputs 0 ∙ ap (λ ns. get_or ns 0 0) (f.outputs ∙ ap (λ (q : Kind). map (row_width c) (outputs_of q)) e) in
    let few : blocks_width c ≤ 65536 = row_limit c Demux (row Y (Blocks Width SWidth)) 65536 e outs.0 refl in
    record { select = row_limit c Demux (row S (Of SWidth)) 4096 e ins.1.0 refl; blocks = long; few = omega arith }

pub lut_is_narrow : (c : Cell) → c.kind ≡ LutKind → IsFitted c → width c ≤ 12
unfolding operands_of width_limit
lut_is_narrow c e f =
    let ins : AllWithin c (operands_of LutKind) = subst (λ (q : Kind). AllWithin c (operands_of q)) e (f.operands_within (λ m. absurd (cc))) in
    row_limit c LutKind (row A (Of Width)) 12 e ins.0 refl

-- ---- steps that are read

pub few_steps_of : {A : Type 0} (c : Cell) (select : ℕ) (bits there : List A) → FewBlocks c (length there) → select ≡ number_of c SWidth → bits ≡ there → select + length bits / 4096 ≤ 4112
few_steps_of {A} c select bits there f e is =
    (let long : length bits ≡ length there = ap (λ (l : List A). length l) is in let s : number_of c SWidth ≤ 4096 = f.select in let b : length there ≤ 65536 = f.few in omega arith)

pub steps_are : {A : Type 0} (c : Cell) (select : ℕ) (bits there : List A) → FewBlocks c (length there) → select ≡ number_of c SWidth → bits ≡ there → select + length bits / 4096 ≡ number_of c SWidth + wide_steps (blocks_width c)
steps_are {A} c select bits there f e is =
    ap (λ n. n + length bits / 4096) e ∙ ap (λ n. number_of c SWidth + n / 4096) (ap (λ (l : List A). length l) is ∙ f.blocks)

-- ---- cells that are read from a list

pub fitted_read : (cells : List Cell) (i : ℕ) (x : Cell) → AreFitted cells → i < length cells → x ≡ get_or cells i x → IsFitted x
unfolding AreFitted
fitted_read cells i x h inside is = subst IsFitted (sym (is ∙ get_or_default cells i x no_cell inside)) (h i inside)

pub memory_read : (cells : List Cell) (i : ℕ) (x : Cell) → HaveMemoryNumbers cells → i < length cells → x ≡ get_or cells i x → role_of x.kind ≡ MemoryBlock → HasMemoryNumbers x
unfolding HaveMemoryNumbers
memory_read cells i x h inside is e =
    let there : x ≡ get_or cells i no_cell = is ∙ get_or_default cells i x no_cell inside in
    subst HasMemoryNumbers (sym there) (h i inside (sym (ap (λ (y : Cell). role_of y.kind) there) ∙ e))
