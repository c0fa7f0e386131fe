use Rattle.std.proofs.Common.{◌≡◌, ℕ, zero, suc, List, [], ◌∷◌, slice_get, None, IfOk, subst, refl}
use Rattle.cif_defs.specs.Words.{Word, operand}
use Rattle.cif_term.specs.Scopes.{named_in}
use Rattle.cif_term.proofs.eval.bound.Goals as goal

past_all : (words : List Word) (depth : ℕ) → slice_get words depth ≡ None → [] ≡ operand words depth
past_all [] depth h = refl
past_all (w ∷ words) zero h = absurd (cc)
past_all (w ∷ words) (suc depth) h = past_all words depth h

pub returns-in-None : goal.returns-in-None
returns-in-None c = subst (λ (x : Word). IfOk c.zeros.result (λ w. w ≡ x)) (past_all (named_in c.args.names.now) c.args.depth c.in-None.ensures) c.zeros.ensures
