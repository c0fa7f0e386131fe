use Rattle.std.proofs.Common.{◌≡◌, ◌≢◌, ◌-◌, ◌∷◌, ℕ, zero, suc, List, slice_get, MatchOption, None, Some, ap, ◌∙◌, sym, subst, arith, refl}
use Rattle.cif_emit.specs.Scopes.{named_in}
use Rattle.cif_emit.proofs.Views.{named_in-Inside}
use Rattle.cif_emit.proofs.scope.Scope.+get.Goals as goal

rest_get : {T : Type 0} (x : T) (xs : List T) (depth : ℕ) → depth ≢ 0 → slice_get (x ∷ xs) depth ≡ slice_get xs (depth - 1)
rest_get x xs zero h = absurd (h refl)
rest_get x xs (suc depth) h = ap (λ k. slice_get xs k) (omega arith)

pub returns-else-depth-eq0 : goal.returns-else-depth-eq0
returns-else-depth-eq0 t c =
    let rest = rest_get c.in-Inside.named.now (named_in c.in-Inside.outer.now) c.args.depth c.if-depth-eq0.false in
    let same : slice_get (named_in c.args.self.now) c.args.depth ≡ slice_get (named_in c.in-Inside.outer.now) (c.args.depth - 1) =
    ap (λ s. slice_get (named_in s) c.args.depth) c.in-Inside.is ∙ ap (λ l. slice_get l c.args.depth) (named_in-Inside c.in-Inside.named c.in-Inside.outer) ∙ rest in
    subst (λ found. MatchOption c.get.result (found ≡ None) (λ r. found ≡ Some r.now)) (sym same) c.get.ensures
