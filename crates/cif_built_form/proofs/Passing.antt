-- Checks in order, none of which finds a fault.
use Rattle.std.specs.Prelude.{ℕ, ◌+◌, ◌≡◌, Bool, true, false, List, [], ◌∷◌, Option, Some, None, refl}
use Rattle.std.proofs.Common.{inl, inr}
use Rattle.cif_checks.specs.Checks.{◌else_by◌, fault_if, first_fault, first_fault_from}
use Rattle.cif_checks.specs.declared.fault.BuildFault.{BuildFault}
use Rattle.cif_nets.proofs.Places.{Has}

pub both_pass : (a b : Option BuildFault) → a ≡ None → b ≡ None → (a else_by b) ≡ None
both_pass None b h k = k
both_pass (Some f) b h k = absurd (cc)

pub passes_test : (b : Bool) (f : BuildFault) → b ≡ false → fault_if b f ≡ None
passes_test false f h = refl
passes_test true f h = absurd (cc)

pub all_pass : {A : Type 0} (check : A → Option BuildFault) (xs : List A) → ((x : A) → Has xs x → check x ≡ None) → first_fault check xs ≡ None
all_pass check [] h = refl
all_pass check (x ∷ xs) h = both_pass (check x) (first_fault check xs) (h x (inl refl)) (all_pass check xs (λ y k. h y (inr k)))

pub all_pass_from : {A : Type 0} (check : ℕ → A → Option BuildFault) (i : ℕ) (xs : List A) → ((j : ℕ) (x : A) → Has xs x → check j x ≡ None) → first_fault_from check i xs ≡ None
all_pass_from check i [] h = refl
all_pass_from check i (x ∷ xs) h = both_pass (check i x) (first_fault_from check (i + 1) xs) (h i x (inl refl)) (all_pass_from check (i + 1) xs (λ j y k. h j y (inr k)))
