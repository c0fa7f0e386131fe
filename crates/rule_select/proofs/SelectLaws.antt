-- The formula of each kind that selects computes the exact taint.
use Rattle.std.specs.Prelude.{ℕ, ◌<◌, ◌≡◌, true, List, [], ◌∷◌, map, length, refl}
use Rattle.std.specs.List.{range_with_len}
use Rattle.std.proofs.Common.{sym, ap, subst}
use Rattle.cif_defs.specs.declared.kinds.Kind.{Kind}
use Rattle.cif_defs.specs.declared.kinds.Kind.TheVariants.{Mux, Shl, Sshl, Shr, Sshr, Shift, Shiftx, Bmux, Demux, Lut, Pmux}
use Rattle.cif_defs.specs.Cells.{Cell}
use Rattle.cif_defs.specs.Table.{outputs_of}
use Rattle.cif_defs.specs.Fitted.{IsFitted}
use Rattle.cif_term.specs.Formulas.{Formula}
use Rattle.cif_term.specs.CellTaints.{AreTaintsOf, IsTaintOf}
use Rattle.cif_term.specs.TermView.{formula_of}
use Rattle.cif_term.specs.declared.term.Term.{Term}
use Rattle.cif_term.proofs.OutputTerms.{formulas_of, single_formula, term_is_taint}
use Rattle.rule_select.specs.Selects.{is_select, formula_by, select_formula}
use Rattle.rule_select.specs.Mux.{mux_formula}
use Rattle.rule_select.proofs.MuxLaws.{mux_taints}
use Rattle.rule_select.specs.Offsets.{shift_offset, shiftx_offset}
use Rattle.rule_select.proofs.OffsetKinds.{shift_kind_taints, shiftx_kind_taints}
use Rattle.rule_select.specs.Selections.{cell_bmux, cell_demux, cell_lut}
use Rattle.rule_select.proofs.SelectionKinds.{bmux_taints, demux_taints, lut_taints}
use Rattle.rule_select.specs.Chains.{cell_pmux}
use Rattle.rule_select.proofs.ChainLaws.{pmux_taints}
use Rattle.rule_select.specs.Shifts.{cell_shift, left_moves, right_moves, signed_moves}
use Rattle.rule_select.proofs.ShiftKinds.{shl_taints, sshl_taints, shr_taints, sshr_taints}

taints_by : (k : Kind) (c : Cell) → IsFitted c → is_select k ≡ true → c.kind ≡ k → AreTaintsOf c (formula_by k c ∷ [])
unfolding formula_by
taints_by Mux c f h e = mux_taints c f e
taints_by Shl c f h e = shl_taints c f e
taints_by Sshl c f h e = sshl_taints c f e
taints_by Shr c f h e = shr_taints c f e
taints_by Sshr c f h e = sshr_taints c f e
taints_by Shift c f h e = shift_kind_taints c f e
taints_by Shiftx c f h e = shiftx_kind_taints c f e
taints_by Bmux c f h e = bmux_taints c f e
taints_by Demux c f h e = demux_taints c f e
taints_by Lut c f h e = lut_taints c f e
taints_by Pmux c f h e = pmux_taints c f e
taints_by _ c f h e = absurd (cc)

pub select_taints : (c : Cell) → IsFitted c → is_select c.kind ≡ true → AreTaintsOf c (select_formula c ∷ [])
select_taints c f h = taints_by c.kind c f h refl

-- each kind that selects has one output
one_by : (k : Kind) → is_select k ≡ true → length (outputs_of k) ≡ 1
unfolding outputs_of
one_by Mux h = refl
one_by Shl h = refl
one_by Sshl h = refl
one_by Shr h = refl
one_by Sshr h = refl
one_by Shift h = refl
one_by Shiftx h = refl
one_by Bmux h = refl
one_by Demux h = refl
one_by Lut h = refl
one_by Pmux h = refl
one_by _ h = absurd (cc)

pub one_port : (c : Cell) → is_select c.kind ≡ true → length (outputs_of c.kind) ≡ 1
one_port c h = one_by c.kind h

-- the formula serves each output, of which there is one
by_output : (c : Cell) → IsFitted c → is_select c.kind ≡ true → AreTaintsOf c (formulas_of c (λ p. select_formula c))
by_output c f h = single_formula c (λ p. select_formula c) (one_port c h) (select_taints c f h)

pub select_term_is : (c d : Cell) (p : ℕ) (t : Term) → c ≡ d → is_select c.kind ≡ true → IsFitted c → p < length (outputs_of d.kind) → formula_of t ≡ select_formula c → IsTaintOf d p (formula_of t)
select_term_is c d p t e h f l g = term_is_taint c d (λ q. select_formula c) p t e (by_output c f h) l g

-- d is the cell by another name
pub select_terms_are : (c d : Cell) (fs : List Formula) → d ≡ c → is_select c.kind ≡ true → IsFitted c → fs ≡ map (λ p. select_formula d) (range_with_len 0 (length (outputs_of d.kind))) → AreTaintsOf c fs
select_terms_are c d fs q h f e =
    let own : fs ≡ map (λ p. select_formula c) (range_with_len 0 (length (outputs_of c.kind))) = subst (λ (x : Cell). fs ≡ map (λ p. select_formula x) (range_with_len 0 (length (outputs_of x.kind)))) q e in
    subst (λ (gs : List Formula). AreTaintsOf c gs) (sym own) (by_output c f h)

-- ---- which formula stands for a kind

formula_is : (c : Cell) (k : Kind) → c.kind ≡ k → select_formula c ≡ formula_by k c
formula_is c k e = ap (λ x. formula_by x c) e

pub mux_is : (c : Cell) → c.kind ≡ Mux → select_formula c ≡ mux_formula
unfolding formula_by
mux_is c e = formula_is c Mux e

pub shl_is : (c : Cell) → c.kind ≡ Shl → select_formula c ≡ cell_shift (left_moves c) c
unfolding formula_by
shl_is c e = formula_is c Shl e

pub sshl_is : (c : Cell) → c.kind ≡ Sshl → select_formula c ≡ cell_shift (left_moves c) c
unfolding formula_by
sshl_is c e = formula_is c Sshl e

pub shr_is : (c : Cell) → c.kind ≡ Shr → select_formula c ≡ cell_shift (right_moves c) c
unfolding formula_by
shr_is c e = formula_is c Shr e

pub sshr_is : (c : Cell) → c.kind ≡ Sshr → select_formula c ≡ cell_shift (signed_moves c) c
unfolding formula_by
sshr_is c e = formula_is c Sshr e

pub shift_is : (c : Cell) → c.kind ≡ Shift → select_formula c ≡ shift_offset c
unfolding formula_by
shift_is c e = formula_is c Shift e

pub shiftx_is : (c : Cell) → c.kind ≡ Shiftx → select_formula c ≡ shiftx_offset c
unfolding formula_by
shiftx_is c e = formula_is c Shiftx e

pub bmux_is : (c : Cell) → c.kind ≡ Bmux → select_formula c ≡ cell_bmux c
unfolding formula_by
bmux_is c e = formula_is c Bmux e

pub demux_is : (c : Cell) → c.kind ≡ Demux → select_formula c ≡ cell_demux c
unfolding formula_by
demux_is c e = formula_is c Demux e

pub lut_is : (c : Cell) → c.kind ≡ Lut → select_formula c ≡ cell_lut c
unfolding formula_by
lut_is c e = formula_is c Lut e

pub pmux_is : (c : Cell) → c.kind ≡ Pmux → select_formula c ≡ cell_pmux c
unfolding formula_by
pmux_is c e = formula_is c Pmux e
