-- Texts that are made item by item.
use Rattle.std.specs.Prelude.{ℕ, ◌+◌, ◌<◌, ◌≤◌, ◌≡◌, List, [], ◌∷◌, ◌++◌, map, length, get_or, take, refl}
use Rattle.std.specs.List.{flat_map}
use Rattle.std.proofs.Common.{ap, sym, ◌∙◌}
use Rattle.std.proofs.lemmas.List.{flat_map_more, take_more, take_all}
use Rattle.cif_desk.specs.Refusals.{joined}

-- the text of one more item
pub flat_map_push : {X : Type 0} (f : X → List ℕ) (old : List ℕ) (xs : List X) (i : ℕ) (d : X) (text new : List ℕ) → i < length xs → text ≡ old ++ flat_map f (take i xs) → new ≡ text ++ f (get_or xs i d) → new ≡ old ++ flat_map f (take (i + 1) xs)
flat_map_push f old xs i d text new h before e =
    e ∙ ap (λ (t : List ℕ). t ++ f (get_or xs i d)) before ∙ flat_map_more f old (take i xs) (get_or xs i d)
    ∙ ap (λ t. old ++ flat_map f t) (sym (take_more xs i d h))

-- the text of all items
pub flat_map_done : {X : Type 0} (f : X → List ℕ) (old : List ℕ) (xs : List X) (i : ℕ) (text : List ℕ) → length xs ≤ i → text ≡ old ++ flat_map f (take i xs) → text ≡ old ++ flat_map f xs
flat_map_done f old xs i text h e = e ∙ ap (λ t. old ++ flat_map f t) (take_all i xs h)

pub joined-map : {X : Type 0} (f : X → List ℕ) (xs : List X) → flat_map f xs ≡ joined (map f xs)
unfolding joined
joined-map f [] = refl
joined-map f (x ∷ xs) = ap (λ t. f x ++ t) (joined-map f xs)
