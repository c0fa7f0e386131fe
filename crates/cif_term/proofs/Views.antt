-- Scopes and terms as contracts see them, level by level.
use Rattle.std.proofs.Common.{◌≡◌, ◌∷◌, ap, ◌∙◌, sym, Bor, List, ℕ}
use Rattle.std.specs.Global.{Box}
use Rattle.cif_defs.specs.Words.{Word}
use Rattle.cif_term.specs.Formulas.{Formula, Value, Taint, Const, Bound, Pick, Join, One, Two, Choose, Let}
use Rattle.cif_term.specs.Scopes.{named_in, scope_step}
use Rattle.cif_term.specs.TermView.{formula_of, formula_step}
use Rattle.cif_term.specs.declared.ops.Op1.{Op1}
use Rattle.cif_term.specs.declared.ops.Op2.{Op2}
use Rattle.cif_term.specs.declared.scope.Scope.{Scope, fold-roll-Scope}
use Rattle.cif_term.specs.declared.scope.Scope.TheVariants.{Inside, rolls-Inside}
use Rattle.cif_term.specs.declared.term.Term.{Term, fold-roll-Term}
use Rattle.cif_term.specs.declared.term.Term.TheVariants as variant

pub named_in-Inside : {T : Type 0} (named : Bor T) (outer : Bor (Scope T)) → named_in (Inside named outer) ≡ named.now ∷ named_in outer.now
named_in-Inside {T} named outer = ap named_in (sym (rolls-Inside named outer)) ∙ fold-roll-Scope T (List T) scope_step _

pub formula_of-Value : (p : ℕ) → formula_of (variant.Value p) ≡ Value p
formula_of-Value p = ap formula_of (sym (variant.rolls-Value p)) ∙ fold-roll-Term Formula formula_step _

pub formula_of-Taint : (p : ℕ) → formula_of (variant.Taint p) ≡ Taint p
formula_of-Taint p = ap formula_of (sym (variant.rolls-Taint p)) ∙ fold-roll-Term Formula formula_step _

pub formula_of-Const : (w : Word) → formula_of (variant.Const w) ≡ Const w
formula_of-Const w = ap formula_of (sym (variant.rolls-Const w)) ∙ fold-roll-Term Formula formula_step _

pub formula_of-Bound : (i : ℕ) → formula_of (variant.Bound i) ≡ Bound i
formula_of-Bound i = ap formula_of (sym (variant.rolls-Bound i)) ∙ fold-roll-Term Formula formula_step _

pub formula_of-Pick : (part : Box Term) (places : List ℕ) → formula_of (variant.Pick part places) ≡ Pick (formula_of part.value) places
formula_of-Pick part places = ap formula_of (sym (variant.rolls-Pick part places)) ∙ fold-roll-Term Formula formula_step _

pub formula_of-Join : (low : Box Term) (high : Box Term) → formula_of (variant.Join low high) ≡ Join (formula_of low.value) (formula_of high.value)
formula_of-Join low high = ap formula_of (sym (variant.rolls-Join low high)) ∙ fold-roll-Term Formula formula_step _

pub formula_of-One : (op : Op1) (part : Box Term) → formula_of (variant.One op part) ≡ One op (formula_of part.value)
formula_of-One op part = ap formula_of (sym (variant.rolls-One op part)) ∙ fold-roll-Term Formula formula_step _

pub formula_of-Two : (op : Op2) (first : Box Term) (second : Box Term) → formula_of (variant.Two op first second) ≡ Two op (formula_of first.value) (formula_of second.value)
formula_of-Two op first second = ap formula_of (sym (variant.rolls-Two op first second)) ∙ fold-roll-Term Formula formula_step _

pub formula_of-Choose : (select : Box Term) (zero : Box Term) (one : Box Term) → formula_of (variant.Choose select zero one) ≡ Choose (formula_of select.value) (formula_of zero.value) (formula_of one.value)
formula_of-Choose select zero one = ap formula_of (sym (variant.rolls-Choose select zero one)) ∙ fold-roll-Term Formula formula_step _

pub formula_of-Let : (named : Box Term) (body : Box Term) → formula_of (variant.Let named body) ≡ Let (formula_of named.value) (formula_of body.value)
formula_of-Let named body = ap formula_of (sym (variant.rolls-Let named body)) ∙ fold-roll-Term Formula formula_step _
