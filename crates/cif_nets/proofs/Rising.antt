-- Rising lists of numbers: each is determined by what stands in it, and a number's place in it is its only one.
use Rattle.std.specs.Prelude.{ℕ, zero, suc, ◌+◌, ◌<◌, ◌≤◌, ◌≡◌, ◌⊎◌, ◌==◌, Bool, not, List, [], ◌∷◌, length, eqb, Some, None, unwrap_or, refl}
use Rattle.std.specs.List.{position_or_len, prefix_len}
use Rattle.std.proofs.Common.{arith, sym, ap, ◌∙◌, cond, inl, inr, ltb}
use Rattle.std.proofs.lemmas.Bool.{cond_both, ltb-true, ltb-false, eqb-true, eqb-false, lt-ltb, ne_eqb, eq-eqb}
use Rattle.cif_defs.specs.RawModule.{put_in, rising}
use Rattle.cif_defs.specs.Accepted.{place_of}
use Rattle.cif_nets.proofs.Places.{At, Has, At-has, At-below, Has-at}

-- x is below each number
abbrev pub IsBelowAll : ℕ → List ℕ → Type 0
IsBelowAll x [] = Unit {0}
IsBelowAll x (y ∷ ys) = (x < y) × IsBelowAll x ys

-- each number is below all later ones
abbrev pub IsRising : List ℕ → Type 0
IsRising [] = Unit {0}
IsRising (x ∷ xs) = IsBelowAll x xs × IsRising xs

pub IsBelowAll-below : (x y : ℕ) (ys : List ℕ) → x < y → IsBelowAll y ys → IsBelowAll x ys
IsBelowAll-below x y [] h k = tt
IsBelowAll-below x y (z ∷ zs) h k = (let l : y < z = k.0 in omega arith, IsBelowAll-below x y zs h k.1)

pub IsBelowAll-has : (x y : ℕ) (ys : List ℕ) → IsBelowAll x ys → Has ys y → x < y
IsBelowAll-has x y [] h k = absurd k
IsBelowAll-has x y (z ∷ zs) h (inl e) = (let l : x < z = h.0 in omega arith)
IsBelowAll-has x y (z ∷ zs) h (inr k) = IsBelowAll-has x y zs h.1 k

-- ---- putting a number in

put_in_below : (x y : ℕ) (ys : List ℕ) → x < y → IsBelowAll x ys → IsBelowAll x (put_in y ys)
put_in_below x y [] h k = (h, tt)
put_in_below x y (z ∷ zs) h k = cond_both (ltb y z) (y ∷ z ∷ zs) (cond (eqb y z) (z ∷ zs) (z ∷ put_in y zs)) (IsBelowAll x)
    (λ _. (h, k))
    (λ _. cond_both (eqb y z) (z ∷ zs) (z ∷ put_in y zs) (IsBelowAll x) (λ _. k) (λ _. (k.0, put_in_below x y zs h k.1)))

put_in_rising : (x : ℕ) (ys : List ℕ) → IsRising ys → IsRising (put_in x ys)
put_in_rising x [] h = (tt, tt)
put_in_rising x (y ∷ ys) h = cond_both (ltb x y) (x ∷ y ∷ ys) (cond (eqb x y) (y ∷ ys) (y ∷ put_in x ys)) IsRising
    (λ l. ((ltb-true x y l, IsBelowAll-below x y ys (ltb-true x y l) h.0), h))
    (λ l. cond_both (eqb x y) (y ∷ ys) (y ∷ put_in x ys) IsRising (λ _. h)
    (λ n. (put_in_below y x ys (let a : y ≤ x = ltb-false x y l in let b : (x ≡ y) → ⊥ = eqb-false x y n in omega arith) h.0, put_in_rising x ys h.1)))

pub IsRising-rising : (xs : List ℕ) → IsRising (rising xs)
IsRising-rising [] = tt
IsRising-rising (x ∷ xs) = put_in_rising x (rising xs) (IsRising-rising xs)

has_put_in : (x : ℕ) (ys : List ℕ) → Has (put_in x ys) x
has_put_in x [] = inl refl
has_put_in x (y ∷ ys) = cond_both (ltb x y) (x ∷ y ∷ ys) (cond (eqb x y) (y ∷ ys) (y ∷ put_in x ys)) (λ zs. Has zs x)
    (λ _. inl refl)
    (λ _. cond_both (eqb x y) (y ∷ ys) (y ∷ put_in x ys) (λ zs. Has zs x) (λ e. inl (sym (eqb-true x y e))) (λ _. inr (has_put_in x ys)))

kept_put_in : (x y : ℕ) (ys : List ℕ) → Has ys y → Has (put_in x ys) y
kept_put_in x y [] h = absurd h
kept_put_in x y (z ∷ zs) (inl e) = cond_both (ltb x z) (x ∷ z ∷ zs) (cond (eqb x z) (z ∷ zs) (z ∷ put_in x zs)) (λ us. Has us y)
    (λ _. inr (inl e))
    (λ _. cond_both (eqb x z) (z ∷ zs) (z ∷ put_in x zs) (λ us. Has us y) (λ _. inl e) (λ _. inl e))
kept_put_in x y (z ∷ zs) (inr h) = cond_both (ltb x z) (x ∷ z ∷ zs) (cond (eqb x z) (z ∷ zs) (z ∷ put_in x zs)) (λ us. Has us y)
    (λ _. inr (inr h))
    (λ _. cond_both (eqb x z) (z ∷ zs) (z ∷ put_in x zs) (λ us. Has us y) (λ _. inr h) (λ _. inr (kept_put_in x y zs h)))

from_tail : (x y z : ℕ) (us zs : List ℕ) → (Has us y → (x ≡ y) ⊎ Has zs y) → Has (z ∷ us) y → (x ≡ y) ⊎ Has (z ∷ zs) y
from_tail x y z us zs rest (inl e) = inr (inl e)
from_tail x y z us zs rest (inr h) = elim (rest h) [ inl e ↦ inl e | inr k ↦ inr (inr k) ]

from_put_in : (x y : ℕ) (ys : List ℕ) → Has (put_in x ys) y → (x ≡ y) ⊎ Has ys y
from_put_in x y [] (inl e) = inl e
from_put_in x y [] (inr h) = absurd h
from_put_in x y (z ∷ zs) h = cond_both (ltb x z) (x ∷ z ∷ zs) (cond (eqb x z) (z ∷ zs) (z ∷ put_in x zs)) (λ us. Has us y → (x ≡ y) ⊎ Has (z ∷ zs) y)
    (λ _ k. k)
    (λ _. cond_both (eqb x z) (z ∷ zs) (z ∷ put_in x zs) (λ us. Has us y → (x ≡ y) ⊎ Has (z ∷ zs) y) (λ _ k. inr k) (λ _ k. from_tail x y z (put_in x zs) zs (from_put_in x y zs) k))
    h

pub Has-rising : (xs : List ℕ) (x : ℕ) → Has xs x → Has (rising xs) x
Has-rising [] x h = absurd h
Has-rising (y ∷ ys) x (inl e) = rw (← e) (has_put_in y (rising ys))
Has-rising (y ∷ ys) x (inr h) = kept_put_in y x (rising ys) (Has-rising ys x h)

pub Has-from_rising : (xs : List ℕ) (x : ℕ) → Has (rising xs) x → Has xs x
Has-from_rising [] x h = absurd h
Has-from_rising (y ∷ ys) x h = elim (from_put_in y x (rising ys) h) [ inl e ↦ inl e | inr k ↦ inr (Has-from_rising ys x k) ]

-- ---- two rising lists that hold the same numbers are one

heads_same : (x y : ℕ) (xs ys : List ℕ) → IsBelowAll x xs → IsBelowAll y ys → Has (y ∷ ys) x → Has (x ∷ xs) y → x ≡ y
heads_same x y xs ys h k (inl e) g = sym e
heads_same x y xs ys h k (inr a) (inl e) = e
heads_same x y xs ys h k (inr a) (inr b) = absurd (let l : y < x = IsBelowAll-has y x ys k a in let m : x < y = IsBelowAll-has x y xs h b in omega arith)

-- what a tail holds, the other tail holds
tail_has : (x y z : ℕ) (xs ys : List ℕ) → x ≡ y → IsBelowAll x xs → Has xs z → Has (y ∷ ys) z → Has ys z
tail_has x y z xs ys e h k (inl f) = absurd (let l : x < z = IsBelowAll-has x z xs h k in omega arith)
tail_has x y z xs ys e h k (inr f) = f

pub same_rising : (xs ys : List ℕ) → IsRising xs → IsRising ys → ((x : ℕ) → Has xs x → Has ys x) → ((x : ℕ) → Has ys x → Has xs x) → xs ≡ ys
same_rising [] [] h k f g = refl
same_rising [] (y ∷ ys) h k f g = absurd (g y (inl refl))
same_rising (x ∷ xs) [] h k f g = absurd (f x (inl refl))
same_rising (x ∷ xs) (y ∷ ys) h k f g =
    let e : x ≡ y = heads_same x y xs ys h.0 k.0 (f x (inl refl)) (g y (inl refl)) in
    let r : xs ≡ ys = same_rising xs ys h.1 k.1 (λ z a. tail_has x y z xs ys e h.0 a (f z (inr a))) (λ z a. tail_has y x z ys xs (sym e) k.0 a (g z (inr a))) in
    cc

-- ---- places in a rising list

abbrev pub is_number : ℕ → ℕ → Bool
is_number x y = y == x

pub position_at : (ns : List ℕ) (i x : ℕ) → IsRising ns → At ns i x → position_or_len (is_number x) ns ≡ i
position_at [] i x h at = absurd at
position_at (n ∷ ns) zero x h at = ap (λ b. cond (not b) (1 + prefix_len (λ y. not (y == x)) ns) 0) (eq-eqb n x at)
position_at (n ∷ ns) (suc i) x h at =
    let l : n < x = IsBelowAll-has n x ns h.0 (Has-at ns i x at) in
    ap (λ b. cond (not b) (1 + prefix_len (λ y. not (y == x)) ns) 0) (ne_eqb n x (λ e. omega arith)) ∙ (let r : position_or_len (is_number x) ns ≡ i = position_at ns i x h.1 at in omega arith)

-- the place of a number
pub place_at : (ns : List ℕ) (i x : ℕ) → IsRising ns → At ns i x → place_of ns x ≡ i
place_at ns i x h at =
    let e : position_or_len (is_number x) ns ≡ i = position_at ns i x h at in
    let l : position_or_len (is_number x) ns < length ns = (let m : i < length ns = At-below ns i x at in omega arith) in
    ap (λ b. unwrap_or (cond b (Some (position_or_len (is_number x) ns)) None) 0) (lt-ltb (position_or_len (is_number x) ns) (length ns) l) ∙ e

pub At-place : (ns : List ℕ) (x : ℕ) → IsRising ns → Has ns x → At ns (place_of ns x) x
At-place ns x h k = (let at = At-has ns x k in rw (place_at ns at.0 x h at.1) at.1)
