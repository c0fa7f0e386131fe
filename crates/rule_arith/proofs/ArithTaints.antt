-- The formulas of a covered cell are the taint of its outputs.
use Rattle.std.specs.Prelude.{ℕ, ◌<◌, ◌≤◌, ◌≡◌, true, List, map, length, refl}
use Rattle.std.specs.List.{range_with_len}
use Rattle.std.proofs.Common.{arith, sym, subst}
use Rattle.cif_defs.specs.Cells.{Cell, number_of}
use Rattle.cif_defs.specs.Fitted.{IsFitted}
use Rattle.cif_defs.specs.Table.{outputs_of}
use Rattle.cif_defs.specs.declared.kinds.Kind.{Kind}
use Rattle.cif_defs.specs.declared.kinds.Kind.TheVariants.{Neg, Add, Sub, Eq, Ne, Eqx, Nex, Lt, Le, Ge, Gt, Alu}
use Rattle.cif_defs.specs.declared.kinds.Param.TheVariants.{AWidth, BWidth, YWidth}
use Rattle.cif_term.specs.CellTaints.{AreTaintsOf, IsTaintOf}
use Rattle.cif_term.specs.Formulas.{Formula}
use Rattle.cif_term.specs.TermView.{formula_of}
use Rattle.cif_term.specs.declared.term.Term.{Term}
use Rattle.cif_term.proofs.OutputTerms.{term_is_taint}
use Rattle.rule_arith.specs.ArithFormulas.{arith_formula, covers_arith, formula_by, formulas_by, is_pair}
use Rattle.rule_arith.proofs.AluTaints.{alu_cell, alu_taints}
use Rattle.rule_arith.proofs.BinaryCells.{IsBinary}
use Rattle.rule_arith.proofs.EqualTaints.{eq_cell, eq_taints, eqx_cell, eqx_taints, ne_cell, ne_taints, nex_cell, nex_taints}
use Rattle.rule_arith.proofs.OrderTaints.{ge_cell, ge_taints, gt_cell, gt_taints, le_cell, le_taints, lt_cell, lt_taints}
use Rattle.rule_arith.proofs.OwnTaints.{neg_cell, neg_taints}
use Rattle.rule_arith.proofs.SumTaints.{add_cell, add_taints, sub_cell, sub_taints}

-- ---- the widths of covered cells

pub record IsLimited (c : Cell) : Type 0 where
  pub a : number_of c AWidth ≤ 4096
  pub b : number_of c BWidth ≤ 4096
  pub y : number_of c YWidth ≤ 4096

limited : (c : Cell) (limit : ℕ) → IsBinary c limit → limit ≤ 4096 → IsLimited c
limited c limit h l = record {
  a = (let k : number_of c AWidth ≤ limit = h.few_a in omega arith);
  b = (let k : number_of c BWidth ≤ limit = h.few_b in omega arith);
  y = (let k : number_of c YWidth ≤ limit = h.few_y in omega arith);
}

limited_by : (k : Kind) (c : Cell) → c.kind ≡ k → is_pair k ≡ true → IsFitted c → IsLimited c
limited_by Add c e h f = limited c 128 (add_cell c f e) (omega arith)
limited_by Sub c e h f = limited c 128 (sub_cell c f e) (omega arith)
limited_by Lt c e h f = limited c 128 (lt_cell c f e) (omega arith)
limited_by Le c e h f = limited c 128 (le_cell c f e) (omega arith)
limited_by Ge c e h f = limited c 128 (ge_cell c f e) (omega arith)
limited_by Gt c e h f = limited c 128 (gt_cell c f e) (omega arith)
limited_by Eq c e h f = limited c 4096 (eq_cell c f e) (omega arith)
limited_by Ne c e h f = limited c 4096 (ne_cell c f e) (omega arith)
limited_by Eqx c e h f = limited c 4096 (eqx_cell c f e) (omega arith)
limited_by Nex c e h f = limited c 4096 (nex_cell c f e) (omega arith)
limited_by Alu c e h f =
    let u = alu_cell c f e in
    record {
      a = (let k : number_of c AWidth ≤ 128 = u.few_a in omega arith);
      b = (let k : number_of c BWidth ≤ 128 = u.few_b in omega arith);
      y = (let k : number_of c YWidth ≤ 128 = u.few_y in omega arith);
    }
limited_by _ c e h f = absurd (cc)

pub pair_limits : (c : Cell) → is_pair c.kind ≡ true → IsFitted c → IsLimited c
pair_limits c h f = limited_by c.kind c refl h f

pub own_limit_a : (c : Cell) → c.kind ≡ Neg → IsFitted c → number_of c AWidth ≤ 4096
own_limit_a c e f = let u = neg_cell c f e in let k : number_of c AWidth ≤ 128 = u.few_a in omega arith

pub own_limit_y : (c : Cell) → c.kind ≡ Neg → IsFitted c → number_of c YWidth ≤ 4096
own_limit_y c e f = let u = neg_cell c f e in let k : number_of c YWidth ≤ 128 = u.few_y in omega arith

-- ---- the formulas

taints_by : (k : Kind) (c : Cell) → c.kind ≡ k → covers_arith k ≡ true → IsFitted c → AreTaintsOf c (formulas_by k c)
unfolding formula_by outputs_of
taints_by Add c e h f = add_taints c f e
taints_by Sub c e h f = sub_taints c f e
taints_by Neg c e h f = neg_taints c f e
taints_by Lt c e h f = lt_taints c f e
taints_by Le c e h f = le_taints c f e
taints_by Ge c e h f = ge_taints c f e
taints_by Gt c e h f = gt_taints c f e
taints_by Eq c e h f = eq_taints c f e
taints_by Ne c e h f = ne_taints c f e
taints_by Eqx c e h f = eqx_taints c f e
taints_by Nex c e h f = nex_taints c f e
taints_by Alu c e h f = alu_taints c f e
taints_by _ c e h f = absurd (cc)

pub arith_taints : (c : Cell) → covers_arith c.kind ≡ true → IsFitted c → AreTaintsOf c (formulas_by c.kind c)
arith_taints c h f = taints_by c.kind c refl h f

-- ---- output by output

pub arith_term_is : (c d : Cell) (p : ℕ) (t : Term) → c ≡ d → covers_arith c.kind ≡ true → IsFitted c → p < length (outputs_of d.kind) → formula_of t ≡ arith_formula c p → IsTaintOf d p (formula_of t)
arith_term_is c d p t e h f l g = term_is_taint c d (arith_formula c) p t e (arith_taints c h f) l g

-- d is the cell by another name
pub arith_terms_are : (c d : Cell) (fs : List Formula) → d ≡ c → covers_arith c.kind ≡ true → IsFitted c → fs ≡ map (arith_formula d) (range_with_len 0 (length (outputs_of d.kind))) → AreTaintsOf c fs
arith_terms_are c d fs q h f e =
    let own : fs ≡ map (arith_formula c) (range_with_len 0 (length (outputs_of c.kind))) = subst (λ (x : Cell). fs ≡ map (arith_formula x) (range_with_len 0 (length (outputs_of x.kind)))) q e in
    subst (λ (gs : List Formula). AreTaintsOf c gs) (sym own) (arith_taints c h f)
