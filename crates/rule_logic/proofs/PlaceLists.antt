-- Lists of places one after another.
use Rattle.std.specs.Prelude.{ℕ, zero, suc, ◌+◌, ◌≡◌, List, [], ◌∷◌, ◌++◌}
use Rattle.std.specs.List.{range_with_len}
use Rattle.std.proofs.Common.{arith, sym, ap, ◌∙◌}

-- one more place
pub more : (a n b : ℕ) → a + n ≡ b → range_with_len a n ++ b ∷ [] ≡ range_with_len a (n + 1)
more a zero b e = let same : a ≡ b = omega arith in ap (λ k. k ∷ []) (sym same)
more a (suc n) b e =
    let next : suc n + 1 ≡ suc (n + 1) = omega arith in
    ap (λ l. a ∷ l) (more (a + 1) n b (omega arith)) ∙ sym (ap (range_with_len a) next)

pub place_push : (a n b : ℕ) (u v : List ℕ) → u ≡ range_with_len a n → v ≡ u ++ b ∷ [] → b ≡ a + n → v ≡ range_with_len a (n + 1)
place_push a n b u v e f g = f ∙ ap (λ l. l ++ b ∷ []) e ∙ more a n b (omega arith)
