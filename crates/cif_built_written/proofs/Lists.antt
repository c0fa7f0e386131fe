-- What holds of each thing of a list that was made of others.
use Rattle.std.specs.Prelude.{List, [], ◌∷◌, ◌++◌, map}
use Rattle.std.specs.List.{flat_map, AllByRecursion, AllZip}
use Rattle.cif_built_names.proofs.Zips.{all_append}

pub all_both : {A : Type 0} (P Q R : A → Type 0) (xs : List A) → ((x : A) → P x → Q x → R x) → AllByRecursion P xs → AllByRecursion Q xs → AllByRecursion R xs
all_both P Q R [] f h k = tt
all_both P Q R (x ∷ xs) f h k = (f x h.0 k.0, all_both P Q R xs f h.1 k.1)

pub all_mapped : {A B : Type 0} (P : B → Type 0) (f : A → B) (xs : List A) → AllByRecursion (λ x. P (f x)) xs → AllByRecursion P (map f xs)
all_mapped P f [] h = tt
all_mapped P f (x ∷ xs) h = (h.0, all_mapped P f xs h.1)

pub all_joined : {A B : Type 0} (P : B → Type 0) (f : A → List B) (xs : List A) → AllByRecursion (λ x. AllByRecursion P (f x)) xs → AllByRecursion P (flat_map f xs)
all_joined P f [] h = tt
all_joined P f (x ∷ xs) h = all_append P (f x) (flat_map f xs) h.0 (all_joined P f xs h.1)

-- of the second of two lists side by side, where something holds of the first
pub all_beside : {A B : Type 0} (P : A → Type 0) (R : A → B → Type 0) (Q : B → Type 0) (xs : List A) (ys : List B)
    → ((x : A) (y : B) → P x → R x y → Q y) → AllByRecursion P xs → AllZip R xs ys → AllByRecursion Q ys
all_beside P R Q [] [] f h k = tt
all_beside P R Q [] (y ∷ ys) f h k = absurd k
all_beside P R Q (x ∷ xs) [] f h k = absurd k
all_beside P R Q (x ∷ xs) (y ∷ ys) f h k = (f x y h.0 k.0, all_beside P R Q xs ys f h.1 k.1)

pub all_after : {A : Type 0} (P : A → Type 0) (xs ys : List A) → AllByRecursion P (xs ++ ys) → AllByRecursion P ys
all_after P [] ys h = h
all_after P (x ∷ xs) ys h = all_after P xs ys h.1
