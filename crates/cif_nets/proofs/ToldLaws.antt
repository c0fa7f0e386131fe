-- What is told of numbers, one thing after another.
use Rattle.std.specs.Prelude.{ℕ, zero, suc, ◌+◌, ◌<◌, ◌≡◌, ◌⊎◌, ◌==◌, List, [], ◌∷◌, ◌++◌, length, get_or, set, eqb, position, Some, None, refl}
use Rattle.std.specs.List.Sorted.{IsStrictlyIncreasing}
use Rattle.std.proofs.Common.{arith, sym, ap, ◌∙◌, cond, inl, inr}
use Rattle.std.proofs.lemmas.Bool.{eq-eqb, ne_eqb, cases_eq}
use Rattle.cif_nets.specs.Told.{told, told_all}
use Rattle.cif_nets.proofs.Places.{At, At-has, Has, Has-at}
use Rattle.cif_nets.proofs.Rising.{IsRising, IsBelowAll-has}
use Rattle.cif_nets.proofs.NumberLaws.{IsRising-increasing, position_found, position_none}

pub told-append : {S V : Type 0} (more : S → V → S) (s : S) (ts us : List (ℕ × V)) (x : ℕ) → told more s (ts ++ us) x ≡ told more (told more s ts x) us x
told-append more s [] us x = refl
told-append more s (t ∷ ts) us x = told-append more (cond (eqb t.0 x) (more s t.1) s) ts us x

pub told_all-nil : {S V : Type 0} (more : S → V → S) (ns : List ℕ) (ss : List S) → length ss ≡ length ns → told_all more ns ss [] ≡ ss
told_all-nil more [] ss h = refl
told_all-nil more (n ∷ ns) [] h = refl
told_all-nil more (n ∷ ns) (s ∷ ss) h = ap (λ us. s ∷ us) (told_all-nil more ns ss (omega arith))

pub told_all-append : {S V : Type 0} (more : S → V → S) (ns : List ℕ) (ss : List S) (ts us : List (ℕ × V)) → told_all more ns ss (ts ++ us) ≡ told_all more ns (told_all more ns ss ts) us
told_all-append more [] ss ts us = refl
told_all-append more (n ∷ ns) [] ts us = refl
told_all-append more (n ∷ ns) (s ∷ ss) ts us = ap (λ r. r ∷ told_all more ns ss (ts ++ us)) (told-append more s ts us n) ∙ ap (λ rs. told more (told more s ts n) us n ∷ rs) (told_all-append more ns ss ts us)

pub length-told_all : {S V : Type 0} (more : S → V → S) (ns : List ℕ) (ss : List S) (ts : List (ℕ × V)) → length ss ≡ length ns → length (told_all more ns ss ts) ≡ length ns
length-told_all more [] ss ts h = h
length-told_all more (n ∷ ns) [] ts h = h
length-told_all more (n ∷ ns) (s ∷ ss) ts h = ap suc (length-told_all more ns ss ts (omega arith))

other_told : {S V : Type 0} (more : S → V → S) (ns : List ℕ) (ss : List S) (x : ℕ) (v : V) → (Has ns x → ⊥) → told_all more ns ss ((x, v) ∷ []) ≡ ss
other_told more [] ss x v h = refl
other_told more (n ∷ ns) [] x v h = refl
other_told more (n ∷ ns) (s ∷ ss) x v h =
    ap (λ b. cond b (more s v) s ∷ told_all more ns ss ((x, v) ∷ [])) (ne_eqb x n (λ e. h (inl (sym e))))
    ∙ ap (λ us. s ∷ us) (other_told more ns ss x v (λ k. h (inr k)))

told_at : {S V : Type 0} (more : S → V → S) (ns : List ℕ) (ss : List S) (x : ℕ) (v : V) (i : ℕ) (d : S) → IsRising ns → At ns i x → length ss ≡ length ns → told_all more ns ss ((x, v) ∷ []) ≡ set ss i (more (get_or ss i d) v)
told_at more [] ss x v i d r at l = absurd at
told_at more (n ∷ ns) [] x v i d r at l = absurd (omega arith)
told_at more (n ∷ ns) (s ∷ ss) x v zero d r at l =
    ap (λ b. cond b (more s v) s ∷ told_all more ns ss ((x, v) ∷ [])) (eq-eqb x n (sym at))
    ∙ ap (λ us. more s v ∷ us) (other_told more ns ss x v (λ k. absurd (let m : n < x = IsBelowAll-has n x ns r.0 k in omega arith)))
told_at more (n ∷ ns) (s ∷ ss) x v (suc i) d r at l =
    ap (λ b. cond b (more s v) s ∷ told_all more ns ss ((x, v) ∷ [])) (ne_eqb x n (λ e. absurd (let m : n < x = IsBelowAll-has n x ns r.0 (Has-at ns i x at) in omega arith)))
    ∙ ap (λ us. s ∷ us) (told_at more ns ss x v i d r.1 at (omega arith))

pub cases_has : (ns : List ℕ) (x : ℕ) → Has ns x ⊎ (Has ns x → ⊥)
cases_has [] x = inr (λ h. h)
cases_has (n ∷ ns) x = elim (cases_eq n x) [
  | inl e ↦ inl (inl e)
  | inr ne ↦ elim (cases_has ns x) [ inl h ↦ inl (inr h) | inr h ↦ inr (λ k. elim k [ inl e ↦ ne e | inr a ↦ h a ]) ]
]

same_set : {S : Type 0} (f : S → S) (ss : List S) (i j : ℕ) (d : S) → j ≡ i → set ss i (f (get_or ss i d)) ≡ set ss j (f (get_or ss j d))
same_set f ss i j d e = ap (λ (k : ℕ). set ss k (f (get_or ss k d))) (sym e)

pub found_told : {S V : Type 0} (more : S → V → S) (ns : List ℕ) (ss : List S) (x : ℕ) (v : V) (i : ℕ) (d : S) → IsStrictlyIncreasing ns → Some i ≡ position (λ n. n == x) ns → length ss ≡ length ns → told_all more ns ss ((x, v) ∷ []) ≡ set ss i (more (get_or ss i d) v)
found_told more ns ss x v i d r p l = elim (cases_has ns x) [
  | inl h ↦ (let at = At-has ns x h in
      let e : position (λ n. n == x) ns ≡ Some at.0 = position_found ns at.0 x (IsRising-increasing ns r) at.1 in
      told_at more ns ss x v at.0 d (IsRising-increasing ns r) at.1 l ∙ same_set (λ s. more s v) ss at.0 i d (cc))
  | inr h ↦ absurd (let e : position (λ n. n == x) ns ≡ None = position_none ns x h in cc)
]

pub missed_told : {S V : Type 0} (more : S → V → S) (ns : List ℕ) (ss : List S) (x : ℕ) (v : V) → IsStrictlyIncreasing ns → None ≡ position (λ n. n == x) ns → told_all more ns ss ((x, v) ∷ []) ≡ ss
missed_told more ns ss x v r p = elim (cases_has ns x) [
  | inl h ↦ absurd (let at = At-has ns x h in let e : position (λ n. n == x) ns ≡ Some at.0 = position_found ns at.0 x (IsRising-increasing ns r) at.1 in cc)
  | inr h ↦ other_told more ns ss x v h
]
