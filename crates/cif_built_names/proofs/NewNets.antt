-- What the new ports and cells of a module that is built drive are new nets.
use Rattle.std.specs.Prelude.{ℕ, ◌+◌, ◌≤◌, ◌≡◌, ◌==◌, true, false, List, [], ◌∷◌, map, Contains, refl}
use Rattle.std.proofs.Common.{arith, sym, ap, ◌∙◌, inl, inr}
use Rattle.std.proofs.lemmas.Bool.{both_ways, eq-eqb}
use Rattle.std.proofs.lemmas.List.Sorted.{Contains-permutation, IsPermutation-sym}
use Rattle.cif_defs.specs.declared.raw_module.Raw.{Raw}
use Rattle.cif_checks.specs.Checks.{has_number}
use Rattle.cif_nets.proofs.Places.{Has}
use Rattle.cif_raw_runs.proofs.Numbers.{has_contained}
use Rattle.cif_emit.specs.Makers.{RiseBetween}
use Rattle.cif_augment.specs.Additions.{IsNewNet, new_numbers, standing_numbers}
use Rattle.cif_built.specs.Makings.{block_of}
use Rattle.cif_built.specs.Built.{IsBuilt}
use Rattle.cif_built_names.proofs.NumberedNames.{any_passes}

rise_has : (used : List ℕ) (a b x : ℕ) (xs : List ℕ) → RiseBetween used a b xs → Has xs x → (a ≤ x) × (has_number x used ≡ false)
rise_has used a b x [] h k = absurd k
rise_has used a b x (y ∷ ys) h (inl e) = (let low : a ≤ y = h.0 in omega arith, ap (λ z. has_number z used) (sym e) ∙ h.1)
rise_has used a b x (y ∷ ys) h (inr k) =
    let rest = rise_has used (y + 1) b x ys h.2 k in
    let low : a ≤ y = h.0 in
    (omega (arith, rest.0), rest.1)

has_itself : (xs : List ℕ) (x : ℕ) → Has xs x → has_number x xs ≡ true
has_itself xs x h = any_passes (λ y. y == x) xs x h (eq-eqb x x refl)

pub new_nets : (n a : Raw) (released : List ℕ) → (h : IsBuilt n released a) → (x : ℕ) → Contains (new_numbers h.ports (map block_of h.makings)) x → IsNewNet n x
new_nets n a released h x has =
    let numbers = new_numbers h.ports (map block_of h.makings) in
    let among : Contains h.numbers x = Contains-permutation numbers h.numbers x (IsPermutation-sym h.numbers numbers h.are_numbers) has in
    let is = rise_has (standing_numbers n) 2 h.last x h.numbers h.rise (has_contained h.numbers x among) in
    record {
      from_2 = is.0;
      nowhere = λ k. both_ways (has_number x (standing_numbers n)) is.1 (has_itself (standing_numbers n) x (has_contained (standing_numbers n) x k));
    }
