-- The widths of $pmux, $bmux, $demux and $lut.
use Rattle.std.specs.Prelude.{◌*◌, ◌^◌, ◌≤◌, ◌≡◌, [], ◌∷◌, get_or, map}
use Rattle.std.proofs.Common.{arith, ap, subst, ◌∙◌}
use Rattle.cif_defs.specs.declared.kinds.Kind.TheVariants.{Bmux, Demux, Lut, Pmux}
use Rattle.cif_defs.specs.declared.kinds.CellPort.TheVariants.{A, B, S, Y}
use Rattle.cif_defs.specs.declared.kinds.Param.TheVariants.{SWidth}
use Rattle.cif_defs.specs.Table.{operands_of, outputs_of, width_limit}
use Rattle.cif_defs.specs.Cells.{Cell, number_of, width}
use Rattle.cif_defs.specs.Fitted.{AllWithin, IsFitted, operand_widths, row_width}
use Rattle.cif_term.specs.CellTaints.{output_width}
use Rattle.rule_select.specs.Chains.{IsChain}
use Rattle.rule_select.specs.Selections.{AreBlocks}
use Rattle.rule_select.proofs.BlockTrees.{scaled_most}

pub record IsBlocksCell (c : Cell) : Type 0 where
  pub some : 1 ≤ width c
  pub few : width c * 2 ^ number_of c SWidth ≤ 65536
  pub selects : number_of c SWidth ≤ 4096

-- blocks as code wants them
narrow_blocks : (c : Cell) → IsBlocksCell c → AreBlocks c
narrow_blocks c s =
    let few : width c * 2 ^ number_of c SWidth ≤ 65536 = s.few in
    let most : width c * 2 ^ 0 ≤ width c * 2 ^ number_of c SWidth = scaled_most (width c) 0 (number_of c SWidth) (omega arith) in
    record { some = s.some; narrow = omega arith; few = s.few; selects = s.selects }

-- ---- $bmux

pub bmux_widths : (c : Cell) → IsFitted c → c.kind ≡ Bmux → operand_widths c ≡ width c * 2 ^ number_of c SWidth ∷ number_of c SWidth ∷ []
unfolding operands_of
bmux_widths c f k = f.operands ∙ ap (λ x. map (row_width c) (operands_of x)) k

pub bmux_output : (c : Cell) → c.kind ≡ Bmux → output_width c 0 ≡ width c
unfolding outputs_of
bmux_output c k = ap (λ x. get_or (map (row_width c) (outputs_of x)) 0 0) k

pub bmux_cell : (c : Cell) → IsFitted c → c.kind ≡ Bmux → IsBlocksCell c
unfolding operands_of outputs_of width_limit
bmux_cell c f k =
    let ins : AllWithin c (operands_of Bmux) = subst (λ x. AllWithin c (operands_of x)) k (f.operands_within (λ e. absurd (cc))) in
    let outs : AllWithin c (outputs_of Bmux) = subst (λ x. AllWithin c (outputs_of x)) k (f.outputs_within (λ e. absurd (cc))) in
    let blocks : width c * 2 ^ number_of c SWidth ≤ width_limit c.kind A = ins.0.limit in
    let selects : number_of c SWidth ≤ width_limit c.kind S = ins.1.0.limit in
    let a_limit : width_limit c.kind A ≡ 65536 = ap (λ x. width_limit x A) k in
    let s_limit : width_limit c.kind S ≡ 4096 = ap (λ x. width_limit x S) k in
    record { some = outs.0.some; few = omega arith; selects = omega arith }

pub bmux_blocks : (c : Cell) → IsFitted c → c.kind ≡ Bmux → AreBlocks c
bmux_blocks c f k = narrow_blocks c (bmux_cell c f k)

-- ---- $demux

pub demux_widths : (c : Cell) → IsFitted c → c.kind ≡ Demux → operand_widths c ≡ width c ∷ number_of c SWidth ∷ []
unfolding operands_of
demux_widths c f k = f.operands ∙ ap (λ x. map (row_width c) (operands_of x)) k

pub demux_output : (c : Cell) → c.kind ≡ Demux → output_width c 0 ≡ width c * 2 ^ number_of c SWidth
unfolding outputs_of
demux_output c k = ap (λ x. get_or (map (row_width c) (outputs_of x)) 0 0) k

pub demux_cell : (c : Cell) → IsFitted c → c.kind ≡ Demux → IsBlocksCell c
unfolding operands_of outputs_of width_limit
demux_cell c f k =
    let ins : AllWithin c (operands_of Demux) = subst (λ x. AllWithin c (operands_of x)) k (f.operands_within (λ e. absurd (cc))) in
    let outs : AllWithin c (outputs_of Demux) = subst (λ x. AllWithin c (outputs_of x)) k (f.outputs_within (λ e. absurd (cc))) in
    let blocks : width c * 2 ^ number_of c SWidth ≤ width_limit c.kind Y = outs.0.limit in
    let selects : number_of c SWidth ≤ width_limit c.kind S = ins.1.0.limit in
    let y_limit : width_limit c.kind Y ≡ 65536 = ap (λ x. width_limit x Y) k in
    let s_limit : width_limit c.kind S ≡ 4096 = ap (λ x. width_limit x S) k in
    record { some = ins.0.some; few = omega arith; selects = omega arith }

pub demux_blocks : (c : Cell) → IsFitted c → c.kind ≡ Demux → AreBlocks c
demux_blocks c f k = narrow_blocks c (demux_cell c f k)

-- ---- $lut

pub lut_widths : (c : Cell) → IsFitted c → c.kind ≡ Lut → operand_widths c ≡ width c ∷ []
unfolding operands_of
lut_widths c f k = f.operands ∙ ap (λ x. map (row_width c) (operands_of x)) k

pub lut_output : (c : Cell) → c.kind ≡ Lut → output_width c 0 ≡ 1
unfolding outputs_of
lut_output c k = ap (λ x. get_or (map (row_width c) (outputs_of x)) 0 0) k

pub record IsTableCell (c : Cell) : Type 0 where
  pub some : 1 ≤ width c
  pub few : width c ≤ 12

pub lut_cell : (c : Cell) → IsFitted c → c.kind ≡ Lut → IsTableCell c
unfolding operands_of width_limit
lut_cell c f k =
    let ins : AllWithin c (operands_of Lut) = subst (λ x. AllWithin c (operands_of x)) k (f.operands_within (λ e. absurd (cc))) in
    let few : width c ≤ width_limit c.kind A = ins.0.limit in
    let limit : width_limit c.kind A ≡ 12 = ap (λ x. width_limit x A) k in
    record { some = ins.0.some; few = omega arith }

pub lut_few : (c : Cell) → IsFitted c → c.kind ≡ Lut → width c ≤ 12
lut_few c f k = (lut_cell c f k).few

-- ---- $pmux

pub pmux_widths : (c : Cell) → IsFitted c → c.kind ≡ Pmux → operand_widths c ≡ width c ∷ width c * number_of c SWidth ∷ number_of c SWidth ∷ []
unfolding operands_of
pmux_widths c f k = f.operands ∙ ap (λ x. map (row_width c) (operands_of x)) k

pub pmux_output : (c : Cell) → c.kind ≡ Pmux → output_width c 0 ≡ width c
unfolding outputs_of
pmux_output c k = ap (λ x. get_or (map (row_width c) (outputs_of x)) 0 0) k

pub record IsChainCell (c : Cell) : Type 0 where
  pub some : 1 ≤ width c
  pub narrow : width c ≤ 4096
  pub few : width c * number_of c SWidth ≤ 65536
  pub selects_some : 1 ≤ number_of c SWidth
  pub selects : number_of c SWidth ≤ 4096

pub pmux_cell : (c : Cell) → IsFitted c → c.kind ≡ Pmux → IsChainCell c
unfolding operands_of width_limit
pmux_cell c f k =
    let ins : AllWithin c (operands_of Pmux) = subst (λ x. AllWithin c (operands_of x)) k (f.operands_within (λ e. absurd (cc))) in
    let narrow : width c ≤ width_limit c.kind A = ins.0.limit in
    let blocks : width c * number_of c SWidth ≤ width_limit c.kind B = ins.1.0.limit in
    let selects : number_of c SWidth ≤ width_limit c.kind S = ins.1.1.0.limit in
    let a_limit : width_limit c.kind A ≡ 4096 = ap (λ x. width_limit x A) k in
    let b_limit : width_limit c.kind B ≡ 65536 = ap (λ x. width_limit x B) k in
    let s_limit : width_limit c.kind S ≡ 4096 = ap (λ x. width_limit x S) k in
    record { some = ins.0.some; narrow = omega arith; few = omega arith; selects_some = ins.1.1.0.some; selects = omega arith }

pub pmux_chain : (c : Cell) → IsFitted c → c.kind ≡ Pmux → IsChain c
pmux_chain c f k =
    let s = pmux_cell c f k in
    let narrow : width c ≤ 4096 = s.narrow in
    let few : width c * number_of c SWidth ≤ 65536 = s.few in
    let selects : number_of c SWidth ≤ 4096 = s.selects in
    record { narrow = omega arith; few = omega arith; selects = omega arith }
