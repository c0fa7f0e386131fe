-- What stands at a place of a list, and what stands in it at all.
use Rattle.std.specs.Prelude.{ℕ, zero, suc, ◌<◌, ◌≡◌, ◌⊎◌, Bool, true, false, List, [], ◌∷◌, ◌++◌, map, filter, length, get_or, refl}
use Rattle.std.specs.List.{flat_map, list_any}
use Rattle.std.proofs.Common.{arith, sym, ap, ◌∙◌, cond, inl, inr}
use Rattle.std.proofs.lemmas.Bool.{cond_both, or_cases}
use Rattle.cif_defs.specs.RawModule.{nets_in}
use Rattle.cif_defs.specs.declared.raw_module.RawBit.{RawBit}
use Rattle.cif_defs.specs.declared.raw_module.RawBit.TheVariants.{Net, Zero, One, X, Z}

-- x stands at place i
abbrev pub At : {A : Type 0} → List A → ℕ → A → Type 0
At [] i x = ⊥
At (y ∷ ys) zero x = y ≡ x
At (y ∷ ys) (suc i) x = At ys i x

-- x stands somewhere
abbrev pub Has : {A : Type 0} → List A → A → Type 0
Has [] x = ⊥
Has (y ∷ ys) x = (y ≡ x) ⊎ Has ys x

-- ---- places

pub At-map : {A B : Type 0} (f : A → B) (xs : List A) (i : ℕ) (x : A) (d : B) → At xs i x → get_or (map f xs) i d ≡ f x
At-map f [] i x d h = absurd h
At-map f (y ∷ ys) zero x d h = ap f h
At-map f (y ∷ ys) (suc i) x d h = At-map f ys i x d h

-- what a list of results has within it comes from something
pub At-from_map : {A B : Type 0} (f : A → B) (xs : List A) (i : ℕ) (y d : B) → (d ≡ y → ⊥) → get_or (map f xs) i d ≡ y → (x : A) × At xs i x × (f x ≡ y)
At-from_map f [] i y d apart h = absurd (apart h)
At-from_map f (x ∷ xs) zero y d apart h = (x, refl, h)
At-from_map f (x ∷ xs) (suc i) y d apart h = At-from_map f xs i y d apart h

pub At-same : {A : Type 0} (xs : List A) (i : ℕ) (x y : A) → At xs i x → At xs i y → x ≡ y
At-same [] i x y h k = absurd h
At-same (z ∷ zs) zero x y h k = sym h ∙ k
At-same (z ∷ zs) (suc i) x y h k = At-same zs i x y h k

pub At-get : {A : Type 0} (xs : List A) (i : ℕ) (x d : A) → At xs i x → get_or xs i d ≡ x
At-get [] i x d h = absurd h
At-get (y ∷ ys) zero x d h = h
At-get (y ∷ ys) (suc i) x d h = At-get ys i x d h

pub At-below : {A : Type 0} (xs : List A) (i : ℕ) (x : A) → At xs i x → i < length xs
At-below [] i x h = absurd h
At-below (y ∷ ys) zero x h = omega arith
At-below (y ∷ ys) (suc i) x h = omega (arith, At-below ys i x h)

pub Has-at : {A : Type 0} (xs : List A) (i : ℕ) (x : A) → At xs i x → Has xs x
Has-at [] i x h = absurd h
Has-at (y ∷ ys) zero x h = inl h
Has-at (y ∷ ys) (suc i) x h = inr (Has-at ys i x h)

pub At-has : {A : Type 0} (xs : List A) (x : A) → Has xs x → (i : ℕ) × At xs i x
At-has [] x h = absurd h
At-has (y ∷ ys) x (inl e) = (0, e)
At-has (y ∷ ys) x (inr h) = (let at = At-has ys x h in (suc at.0, at.1))

pub At-subst : {A : Type 0} (xs ys : List A) (i : ℕ) (x : A) → xs ≡ ys → At xs i x → At ys i x
At-subst xs ys i x e h = rw (← e) h

pub At-moved : {A : Type 0} (xs : List A) (i j : ℕ) (x : A) → j ≡ i → At xs i x → At xs j x
At-moved xs i j x e h = rw e h

-- ---- lists joined end to end

pub Has-left : {A : Type 0} (xs ys : List A) (x : A) → Has xs x → Has (xs ++ ys) x
Has-left [] ys x h = absurd h
Has-left (z ∷ zs) ys x (inl e) = inl e
Has-left (z ∷ zs) ys x (inr h) = inr (Has-left zs ys x h)

pub Has-right : {A : Type 0} (xs ys : List A) (x : A) → Has ys x → Has (xs ++ ys) x
Has-right [] ys x h = h
Has-right (z ∷ zs) ys x h = inr (Has-right zs ys x h)

pub Has-append : {A : Type 0} (xs ys : List A) (x : A) → Has (xs ++ ys) x → Has xs x ⊎ Has ys x
Has-append [] ys x h = inr h
Has-append (z ∷ zs) ys x (inl e) = inl (inl e)
Has-append (z ∷ zs) ys x (inr h) = elim (Has-append zs ys x h) [ inl a ↦ inl (inr a) | inr b ↦ inr b ]

pub Has-flat_map : {A B : Type 0} (f : A → List B) (xs : List A) (i : ℕ) (x : A) (y : B) → At xs i x → Has (f x) y → Has (flat_map f xs) y
Has-flat_map f [] i x y at h = absurd at
Has-flat_map f (z ∷ zs) zero x y at h = Has-left (f z) (flat_map f zs) y (rw at h)
Has-flat_map f (z ∷ zs) (suc i) x y at h = Has-right (f z) (flat_map f zs) y (Has-flat_map f zs i x y at h)

-- ---- net numbers among bits

pub Has-nets : (bits : List RawBit) (i x : ℕ) → At bits i (Net x) → Has (nets_in bits) x
Has-nets [] i x h = absurd h
Has-nets (Net y ∷ bits) zero x h = inl (cc)
Has-nets (Zero ∷ bits) zero x h = absurd (cc)
Has-nets (One ∷ bits) zero x h = absurd (cc)
Has-nets (X ∷ bits) zero x h = absurd (cc)
Has-nets (Z ∷ bits) zero x h = absurd (cc)
Has-nets (Net y ∷ bits) (suc i) x h = inr (Has-nets bits i x h)
Has-nets (Zero ∷ bits) (suc i) x h = Has-nets bits i x h
Has-nets (One ∷ bits) (suc i) x h = Has-nets bits i x h
Has-nets (X ∷ bits) (suc i) x h = Has-nets bits i x h
Has-nets (Z ∷ bits) (suc i) x h = Has-nets bits i x h

pub nets_in-append : (cs bs : List RawBit) → nets_in (cs ++ bs) ≡ nets_in cs ++ nets_in bs
nets_in-append [] bs = refl
nets_in-append (Net y ∷ cs) bs = ap (λ ns. y ∷ ns) (nets_in-append cs bs)
nets_in-append (Zero ∷ cs) bs = nets_in-append cs bs
nets_in-append (One ∷ cs) bs = nets_in-append cs bs
nets_in-append (X ∷ cs) bs = nets_in-append cs bs
nets_in-append (Z ∷ cs) bs = nets_in-append cs bs

-- ---- filters and tests

-- what passes a test
passes_by : {A : Type 0} (p : A → Bool) (y : A) (ys : List A) (i : ℕ) (x : A) (b : Bool) → ((j : ℕ) → At ys j x → p x ≡ true) → p y ≡ b → At (cond b (y ∷ ys) ys) i x → p x ≡ true
passes_by p y ys zero x true rest e h = ap p (sym h) ∙ e
passes_by p y ys (suc i) x true rest e h = rest i h
passes_by p y ys i x false rest e h = rest i h

pub passes_at : {A : Type 0} (p : A → Bool) (xs : List A) (i : ℕ) (x : A) → At (filter p xs) i x → p x ≡ true
passes_at p [] i x h = absurd h
passes_at p (y ∷ ys) i x h = passes_by p y (filter p ys) i x (p y) (λ j at. passes_at p ys j x at) refl h

pub Has-filter : {A : Type 0} (p : A → Bool) (xs : List A) (x : A) → Has xs x → p x ≡ true → Has (filter p xs) x
Has-filter p [] x h e = absurd h
Has-filter p (y ∷ ys) x (inl h) e = (let t : p y ≡ true = ap p h ∙ e in rw t (inl h))
Has-filter p (y ∷ ys) x (inr h) e = cond_both (p y) (y ∷ filter p ys) (filter p ys) (λ zs. Has zs x) (λ _. inr (Has-filter p ys x h e)) (λ _. Has-filter p ys x h e)

pub Has-unfilter : {A : Type 0} (p : A → Bool) (xs : List A) (x : A) → Has (filter p xs) x → Has xs x
Has-unfilter p [] x h = h
Has-unfilter p (y ∷ ys) x h = cond_both (p y) (y ∷ filter p ys) (filter p ys) (λ zs. Has zs x → Has (y ∷ ys) x)
    (λ _ k. elim k [ inl e ↦ inl e | inr a ↦ inr (Has-unfilter p ys x a) ]) (λ _ k. inr (Has-unfilter p ys x k)) h

pub Has-any : {A : Type 0} (p : A → Bool) (xs : List A) → list_any p xs ≡ true → (x : A) × Has xs x × (p x ≡ true)
Has-any p [] h = absurd (cc)
Has-any p (y ∷ ys) h = elim (or_cases (p y) (list_any p ys) h) [
  | inl e ↦ (y, inl refl, e)
  | inr e ↦ (let rest = Has-any p ys e in (rest.0, inr rest.1, rest.2))
]
