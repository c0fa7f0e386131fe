-- What holds of each thing of a list, and of each two things of two lists.
use Rattle.std.specs.Prelude.{List, [], ◌∷◌, ◌++◌, map, IsPermutation, refl}
use Rattle.std.specs.List.{flat_map, AllByRecursion, AllZip}
use Rattle.std.proofs.Common.{subst, inl, inr}
use Rattle.std.proofs.lemmas.List.Elements.{All-from_recursion, recursion_from_All}
use Rattle.std.proofs.lemmas.List.Sorted.{All-permutation}
use Rattle.cif_nets.proofs.Places.{Has}

-- ---- one list

pub all_append : {A : Type 0} (P : A → Type 0) (xs ys : List A) → AllByRecursion P xs → AllByRecursion P ys → AllByRecursion P (xs ++ ys)
all_append P [] ys h k = k
all_append P (x ∷ xs) ys h k = (h.0, all_append P xs ys h.1 k)

pub all_weaker : {A : Type 0} (P Q : A → Type 0) (xs : List A) → ((x : A) → P x → Q x) → AllByRecursion P xs → AllByRecursion Q xs
all_weaker P Q [] f h = tt
all_weaker P Q (x ∷ xs) f h = (f x h.0, all_weaker P Q xs f h.1)

pub all_moved : {A : Type 0} (P : A → Type 0) (xs ys : List A) → IsPermutation xs ys → AllByRecursion P xs → AllByRecursion P ys
all_moved P xs ys moved h = recursion_from_All P ys (All-permutation P xs ys moved (All-from_recursion P xs h))

pub all_map : {A B : Type 0} (P : B → Type 0) (f : A → B) (xs : List A) → ((x : A) → P (f x)) → AllByRecursion P (map f xs)
all_map P f [] h = tt
all_map P f (x ∷ xs) h = (h x, all_map P f xs h)

pub all_flat_map : {A B : Type 0} (P : B → Type 0) (f : A → List B) (xs : List A) → ((x : A) → AllByRecursion P (f x)) → AllByRecursion P (flat_map f xs)
all_flat_map P f [] h = tt
all_flat_map P f (x ∷ xs) h = all_append P (f x) (flat_map f xs) (h x) (all_flat_map P f xs h)

-- ---- two lists

pub zip_weaker : {A B : Type 0} (R S : A → B → Type 0) (xs : List A) (ys : List B) → ((x : A) (y : B) → Has xs x → R x y → S x y) → AllZip R xs ys → AllZip S xs ys
zip_weaker R S [] [] f h = tt
zip_weaker R S [] (y ∷ ys) f h = absurd h
zip_weaker R S (x ∷ xs) [] f h = absurd h
zip_weaker R S (x ∷ xs) (y ∷ ys) f h = (f x y (inl refl) h.0, zip_weaker R S xs ys (λ a b k. f a b (inr k)) h.1)

pub zip_mapped : {A B C : Type 0} (R : A → C → Type 0) (f : B → C) (xs : List A) (ys : List B) → AllZip (λ x y. R x (f y)) xs ys → AllZip R xs (map f ys)
zip_mapped R f [] [] h = tt
zip_mapped R f [] (y ∷ ys) h = absurd h
zip_mapped R f (x ∷ xs) [] h = absurd h
zip_mapped R f (x ∷ xs) (y ∷ ys) h = (h.0, zip_mapped R f xs ys h.1)

pub zip_found : {A B : Type 0} (R : A → B → Type 0) (xs : List A) (ys : List B) (y : B) → AllZip R xs ys → Has ys y → (x : A) × Has xs x × R x y
zip_found R [] [] y h k = absurd k
zip_found R [] (z ∷ ys) y h k = absurd h
zip_found R (x ∷ xs) [] y h k = absurd k
zip_found R (x ∷ xs) (z ∷ ys) y h (inl e) = (x, inl refl, subst (R x) e h.0)
zip_found R (x ∷ xs) (z ∷ ys) y h (inr k) = (let rest = zip_found R xs ys y h.1 k in (rest.0, inr rest.1, rest.2))

-- what holds of each thing of what each of a second list is made into
pub zip_flat_map : {A B C : Type 0} (P : C → Type 0) (R : A → B → Type 0) (f : B → List C) (xs : List A) (ys : List B) → ((x : A) (y : B) → R x y → AllByRecursion P (f y)) → AllZip R xs ys → AllByRecursion P (flat_map f ys)
zip_flat_map P R f [] [] g h = tt
zip_flat_map P R f [] (y ∷ ys) g h = absurd h
zip_flat_map P R f (x ∷ xs) [] g h = absurd h
zip_flat_map P R f (x ∷ xs) (y ∷ ys) g h = all_append P (f y) (flat_map f ys) (g x y h.0) (zip_flat_map P R f xs ys g h.1)
