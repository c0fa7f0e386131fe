-- Scopes as contracts see them, level by level.
use Rattle.std.proofs.Common.{◌≡◌, [], ◌∷◌, ap, ◌∙◌, sym, Bor, ℕ, List}
use Rattle.cif_defs.specs.declared.raw_module.RawBit.{RawBit}
use Rattle.cif_defs.specs.Words.{Word}
use Rattle.cif_term.specs.Formulas.{Value, Taint, Const, Bound}
use Rattle.cif_term.specs.TermView.{formula_of}
use Rattle.cif_term.specs.declared.term.Term.{Term}
use Rattle.cif_term.specs.declared.term.Term.TheVariants as variant
use Rattle.cif_term.proofs.Views.{formula_of-Value, formula_of-Taint, formula_of-Bound, formula_of-Const}
use Rattle.cif_emit.specs.Scopes.{named_in, scope_step}
use Rattle.cif_emit.specs.declared.scope.Scope.{Scope, fold-roll-Scope}
use Rattle.cif_emit.specs.declared.scope.Scope.TheVariants.{Inside, Outside, rolls-Inside, rolls-Outside}

pub named_in-Inside : (named : Bor (List RawBit)) (outer : Bor Scope) → named_in (Inside named outer) ≡ named.now ∷ named_in outer.now
named_in-Inside named outer = ap named_in (sym (rolls-Inside named outer)) ∙ fold-roll-Scope (List (List RawBit)) scope_step _

pub named_in-Outside : named_in Outside ≡ []
named_in-Outside = ap named_in (sym rolls-Outside) ∙ fold-roll-Scope (List (List RawBit)) scope_step _

-- the formula of a term that is a leaf
pub whole_value : (t : Term) (p : ℕ) → t ≡ variant.Value p → formula_of t ≡ Value p
whole_value t p e = ap formula_of e ∙ formula_of-Value p

pub whole_taint : (t : Term) (p : ℕ) → t ≡ variant.Taint p → formula_of t ≡ Taint p
whole_taint t p e = ap formula_of e ∙ formula_of-Taint p

pub whole_bound : (t : Term) (i : ℕ) → t ≡ variant.Bound i → formula_of t ≡ Bound i
whole_bound t i e = ap formula_of e ∙ formula_of-Bound i

pub whole_const : (t : Term) (w : Word) → t ≡ variant.Const w → formula_of t ≡ Const w
whole_const t w e = ap formula_of e ∙ formula_of-Const w
