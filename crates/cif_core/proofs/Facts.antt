-- Floors, marks and lists.
use Rattle.std.proofs.Common.{ℕ, zero, suc, ◌+◌, ◌≡◌, ◌<◌, ◌≤◌, List, [], ◌∷◌, length, Option, Some, None, true, refl, sym, ap, ◌∙◌, arith, get_or, set, drop, zero-add}
use Rattle.std.specs.Prelude.{count_by, cond, position, replicate, MatchOption}
use Rattle.std.proofs.lemmas.List.Quantifiers.{position-Some}
use Rattle.std.proofs.lemmas.List.Sums.{sum_by-cons}
use Rattle.cif_core.specs.Machine.{lower, floor_of, want_at, mark_at, is_deposited, is_free, freed}
use Rattle.cif_core.specs.declared.mark.Mark.{Mark}
use Rattle.cif_core.specs.declared.mark.Mark.TheVariants.{Free, Claimed, Deposited}

-- ---- floors

pub lower-le : (low : ℕ) (w : Option ℕ) → lower low w ≤ low
lower-le low None = omega arith
lower-le low (Some w) = omega arith

pub lower-mono : (a b : ℕ) (w : Option ℕ) → a ≤ b → lower a w ≤ lower b w
lower-mono a b None h = h
lower-mono a b (Some w) h = omega arith

pub floor-mono : (a b : ℕ) (ws : List (Option ℕ)) → a ≤ b → floor_of a ws ≤ floor_of b ws
floor-mono a b [] h = h
floor-mono a b (w ∷ ws) h = floor-mono (lower a w) (lower b w) ws (lower-mono a b w h)

pub floor-le : (low : ℕ) (ws : List (Option ℕ)) → floor_of low ws ≤ low
floor-le low [] = omega arith
floor-le low (w ∷ ws) = omega (arith, floor-le (lower low w) ws, lower-le low w)

pub floor-want : (low : ℕ) (ws : List (Option ℕ)) (i k : ℕ) → want_at ws i ≡ Some k → floor_of low ws ≤ k
floor-want low [] i k e = cc
floor-want low (w ∷ ws) zero k e =
    let h = floor-le (lower low w) ws in
    let m : lower low w ≤ k = rw e (omega arith) in omega (arith, h, m)
floor-want low (w ∷ ws) (suc i) k e = floor-want (lower low w) ws i k e

pub floor-raise : (low : ℕ) (ws : List (Option ℕ)) (i w k : ℕ) → want_at ws i ≡ Some w → w ≤ k → floor_of low ws ≤ floor_of low (set ws i (Some k))
floor-raise low [] i w k e h = cc
floor-raise low (x ∷ ws) zero w k e h =
    let m : lower low x ≤ lower low (Some k) = rw e (omega arith) in floor-mono _ _ ws m
floor-raise low (x ∷ ws) (suc i) w k e h = floor-raise (lower low x) ws i w k e h

pub floor-leave : (low : ℕ) (ws : List (Option ℕ)) (i : ℕ) → floor_of low ws ≤ floor_of low (set ws i None)
floor-leave low [] i = omega arith
floor-leave low (x ∷ ws) zero = floor-mono _ _ ws (lower-le low x)
floor-leave low (x ∷ ws) (suc i) = floor-leave (lower low x) ws i

-- ---- marks

pub freed-free : (ms : List Mark) (i : ℕ) → mark_at (freed ms) i ≡ Free
freed-free [] i = refl
freed-free (m ∷ ms) zero = refl
freed-free (m ∷ ms) (suc i) = freed-free ms i

pub freed-length : (ms : List Mark) → length (freed ms) ≡ length ms
freed-length [] = refl
freed-length (m ∷ ms) = ap suc (freed-length ms)

pub freed-same : (ms ns : List Mark) → length ns ≡ length ms → ((k : ℕ) → k < length ns → get_or ns k Free ≡ Free) → ns ≡ freed ms
freed-same [] [] e h = refl
freed-same [] (n ∷ ns) e h = absurd (omega arith)
freed-same (m ∷ ms) [] e h = absurd (omega arith)
freed-same (m ∷ ms) (n ∷ ns) e h =
    let a : n ≡ Free = h 0 (omega arith) in
    let b = freed-same ms ns (omega arith) (λ k p. h (suc k) (omega arith)) in
    (λ i. a i ∷ b i)

-- the count of a list that begins with a mark
pub count-cons : (m : Mark) (ms : List Mark) → count_by is_deposited (m ∷ ms) ≡ cond (is_deposited m) 1 0 + count_by is_deposited ms
count-cons m ms = sum_by-cons _ m ms

pub count-free : (ms : List Mark) → count_by is_deposited (Free ∷ ms) ≡ count_by is_deposited ms
count-free ms = count-cons Free ms ∙ zero-add _

pub count-claimed : (ms : List Mark) → count_by is_deposited (Claimed ∷ ms) ≡ count_by is_deposited ms
count-claimed ms = count-cons Claimed ms ∙ zero-add _

pub count-deposited : (ms : List Mark) → count_by is_deposited (Deposited ∷ ms) ≡ 1 + count_by is_deposited ms
count-deposited ms = count-cons Deposited ms

pub count-le : (ms : List Mark) → count_by is_deposited ms ≤ length ms
count-le [] = omega arith
count-le (Free ∷ ms) = omega (arith, count-le ms, count-free ms)
count-le (Claimed ∷ ms) = omega (arith, count-le ms, count-claimed ms)
count-le (Deposited ∷ ms) = omega (arith, count-le ms, count-deposited ms)

pub all-deposited : (ms : List Mark) (i : ℕ) → count_by is_deposited ms ≡ length ms → i < length ms → mark_at ms i ≡ Deposited
all-deposited [] i e h = absurd (omega arith)
all-deposited (Free ∷ ms) i e h = absurd (omega (arith, count-le ms, count-free ms))
all-deposited (Claimed ∷ ms) i e h = absurd (omega (arith, count-le ms, count-claimed ms))
all-deposited (Deposited ∷ ms) zero e h = refl
all-deposited (Deposited ∷ ms) (suc i) e h = all-deposited ms i (omega (arith, count-deposited ms)) (omega arith)

pub count-give : (ms : List Mark) (i : ℕ) → mark_at ms i ≡ Claimed → count_by is_deposited (set ms i Deposited) ≡ count_by is_deposited ms + 1
count-give [] i e = cc
count-give (Free ∷ ms) zero e = cc
count-give (Claimed ∷ ms) zero e = omega (arith, count-deposited ms, count-claimed ms)
count-give (Deposited ∷ ms) zero e = cc
count-give (Free ∷ ms) (suc i) e = omega (arith, count-give ms i e, count-free ms, count-free (set ms i Deposited))
count-give (Claimed ∷ ms) (suc i) e = omega (arith, count-give ms i e, count-claimed ms, count-claimed (set ms i Deposited))
count-give (Deposited ∷ ms) (suc i) e = omega (arith, count-give ms i e, count-deposited ms, count-deposited (set ms i Deposited))

pub count-claim : (ms : List Mark) (i : ℕ) → mark_at ms i ≡ Free → count_by is_deposited (set ms i Claimed) ≡ count_by is_deposited ms
count-claim [] i e = refl
count-claim (Free ∷ ms) zero e = omega (arith, count-free ms, count-claimed ms)
count-claim (Claimed ∷ ms) zero e = cc
count-claim (Deposited ∷ ms) zero e = cc
count-claim (Free ∷ ms) (suc i) e = omega (arith, count-claim ms i e, count-free ms, count-free (set ms i Claimed))
count-claim (Claimed ∷ ms) (suc i) e = omega (arith, count-claim ms i e, count-claimed ms, count-claimed (set ms i Claimed))
count-claim (Deposited ∷ ms) (suc i) e = omega (arith, count-claim ms i e, count-deposited ms, count-deposited (set ms i Claimed))

pub freed-count : (ms : List Mark) → count_by is_deposited (freed ms) ≡ 0
freed-count [] = refl
freed-count (m ∷ ms) = omega (arith, freed-count ms, count-free (freed ms))

pub free-count : (ms : List Mark) → ((i : ℕ) → mark_at ms i ≡ Free) → count_by is_deposited ms ≡ 0
free-count [] h = refl
free-count (m ∷ ms) h =
    let rest = free-count ms (λ i. h (suc i)) in
    let a : count_by is_deposited (m ∷ ms) ≡ count_by is_deposited (Free ∷ ms) = ap (λ x. count_by is_deposited (x ∷ ms)) (h 0) in
    a ∙ count-free ms ∙ rest

pub free-is : (m : Mark) → is_free m ≡ true → m ≡ Free
free-is Free e = refl
free-is Claimed e = cc
free-is Deposited e = cc

pub free-mark : (ms : List Mark) (i : ℕ) → position is_free ms ≡ Some i → mark_at ms i ≡ Free
free-mark ms i e = free-is _ (position-Some is_free ms i Free e).1

-- ---- lists

drop-nil : {A : Type 0} (n : ℕ) → drop {A = A} n [] ≡ []
drop-nil zero = refl
drop-nil (suc n) = refl

pub drop-drop : {A : Type 0} (m n : ℕ) (xs : List A) → drop n (drop m xs) ≡ drop (m + n) xs
drop-drop zero n xs = ap (λ k. drop k xs) (sym (zero-add n))
drop-drop (suc m) n [] = drop-nil n ∙ sym (drop-nil (suc m + n))
drop-drop (suc m) n (x ∷ xs) =
    let e : suc (m + n) ≡ suc m + n = omega arith in
    drop-drop m n xs ∙ ap (λ k. drop k (x ∷ xs)) e

pub set-apart : {A : Type 0} (xs : List A) (i j : ℕ) (x d : A) → (i ≡ j → ⊥) → get_or (set xs i x) j d ≡ get_or xs j d
set-apart [] i j x d h = refl
set-apart (y ∷ ys) zero zero x d h = absurd (h refl)
set-apart (y ∷ ys) zero (suc j) x d h = refl
set-apart (y ∷ ys) (suc i) zero x d h = refl
set-apart (y ∷ ys) (suc i) (suc j) x d h = set-apart ys i j x d (λ e. h (ap suc e))

-- a part with a mark other than that past the end lies inside
pub at-end : (ms : List Mark) (i : ℕ) (m : Mark) → mark_at ms i ≡ m → (m ≡ Free → ⊥) → i < length ms
at-end [] i m e h = absurd (h (sym e))
at-end (x ∷ ms) zero m e h = omega arith
at-end (x ∷ ms) (suc i) m e h = omega (arith, at-end ms i m e h)

pub free-marks : (n i : ℕ) → mark_at (replicate n Free) i ≡ Free
free-marks zero i = refl
free-marks (suc n) zero = refl
free-marks (suc n) (suc i) = free-marks n i

pub floor-match : (low : ℕ) (ws : List (Option ℕ)) (i : ℕ) (o : Option ℕ) → want_at ws i ≡ o → MatchOption o (Unit {0}) (λ v. floor_of low ws ≤ v)
floor-match low ws i None e = tt
floor-match low ws i (Some v) e = floor-want low ws i v e
