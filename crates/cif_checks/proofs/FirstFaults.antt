-- The first fault of one check after another.
use Rattle.std.specs.Prelude.{ℕ, ◌+◌, ◌<◌, ◌≡◌, List, [], ◌∷◌, ◌++◌, length, get_or, drop, Option, Some, None, Result, Ok, Err, IfErr, refl}
use Rattle.std.specs.List.{flat_map}
use Rattle.std.proofs.Common.{sym, ap, subst, ◌∙◌}
use Rattle.std.proofs.lemmas.List.{at_drop_more}
use Rattle.cif_checks.specs.Checks.{◌else_by◌, first_fault, IsFirst}
use Rattle.cif_checks.specs.declared.fault.BuildFault.{BuildFault}
use Rattle.cif_checks.specs.declared.fault.BuildFault.TheVariants.{Memory}

-- a fault of the first check is the first of both
pub IsFirst-left : (a b : Option BuildFault) (e : BuildFault) → IsFirst a e → IsFirst (a else_by b) e
IsFirst-left a b Memory h = tt
IsFirst-left a b e h = ap (λ (o : Option BuildFault). o else_by b) h

-- where the first check passes, a fault of the second is the first of both
pub IsFirst-right : (a b : Option BuildFault) (e : BuildFault) → a ≡ None → IsFirst b e → IsFirst (a else_by b) e
IsFirst-right a b e n h = rw n h

pub IsFirst-same : (a b : Option BuildFault) (e : BuildFault) → a ≡ b → IsFirst a e → IsFirst b e
IsFirst-same a b e p h = (let P : Option BuildFault → Type 0 = λ o. IsFirst o e in subst P p h)

pub both_pass : (a b : Option BuildFault) → a ≡ None → b ≡ None → a else_by b ≡ None
both_pass a b p q = rw p q

else_by_assoc : (a b c : Option BuildFault) → (a else_by b) else_by c ≡ a else_by (b else_by c)
else_by_assoc None b c = refl
else_by_assoc (Some f) b c = refl

pub first_fault-append : {A : Type 0} (check : A → Option BuildFault) (xs ys : List A) → first_fault check (xs ++ ys) ≡ first_fault check xs else_by first_fault check ys
first_fault-append check [] ys = refl
first_fault-append check (x ∷ xs) ys = ap (λ (o : Option BuildFault). check x else_by o) (first_fault-append check xs ys) ∙ sym (else_by_assoc (check x) (first_fault check xs) (first_fault check ys))

-- ---- over things, each of which has a list to check

here : {A B : Type 0} (check : B → Option BuildFault) (f : A → List B) (xs : List A) (i : ℕ) (x d : A) → i < length xs → x ≡ get_or xs i d
    → first_fault check (flat_map f (drop i xs)) ≡ first_fault check (f x) else_by first_fault check (flat_map f (drop (i + 1) xs))
here check f xs i x d l e =
    at_drop_more (λ ys. first_fault check (flat_map f ys)) xs i d l ∙ ap (λ y. first_fault check (f y ++ flat_map f (drop (i + 1) xs))) (sym e) ∙ first_fault-append check (f x) (flat_map f (drop (i + 1) xs))

pub parts_step : {A B : Type 0} (check : B → Option BuildFault) (f : A → List B) (xs : List A) (i : ℕ) (x d : A) → i < length xs → x ≡ get_or xs i d → first_fault check (f x) ≡ None
    → first_fault check (flat_map f (drop (i + 1) xs)) ≡ first_fault check (flat_map f (drop i xs))
parts_step check f xs i x d l e n = sym (here check f xs i x d l e ∙ ap (λ (o : Option BuildFault). o else_by first_fault check (flat_map f (drop (i + 1) xs))) n)

pub parts_first : {A B : Type 0} (check : B → Option BuildFault) (f : A → List B) (xs : List A) (i : ℕ) (x d : A) (all : Option BuildFault) (fault : BuildFault) → i < length xs → x ≡ get_or xs i d → first_fault check (flat_map f (drop i xs)) ≡ all
    → IsFirst (first_fault check (f x)) fault → IsFirst all fault
parts_first check f xs i x d all fault l e r h =
    IsFirst-same (first_fault check (f x) else_by first_fault check (flat_map f (drop (i + 1) xs))) all fault (sym (here check f xs i x d l e) ∙ r) (IsFirst-left (first_fault check (f x)) (first_fault check (flat_map f (drop (i + 1) xs))) fault h)

-- ---- two checks that make one

pub joined_ok : (all a b : Option BuildFault) → all ≡ a else_by b → a ≡ None → b ≡ None → all ≡ None
joined_ok all a b e p q = e ∙ both_pass a b p q

pub joined_first : (all a b : Option BuildFault) (fault : BuildFault) → all ≡ a else_by b → IsFirst a fault → IsFirst all fault
joined_first all a b fault e h = IsFirst-same (a else_by b) all fault (sym e) (IsFirst-left a b fault h)

pub joined_next : {T : Type 0} (all a b : Option BuildFault) (r : Result T BuildFault) → all ≡ a else_by b → a ≡ None → IfErr r (λ e. IsFirst b e) → IfErr r (λ e. IsFirst all e)
joined_next all a b (Ok x) e n h = tt
joined_next all a b (Err fault) e n h = IsFirst-same (a else_by b) all fault (sym e) (IsFirst-right a b fault n h)
