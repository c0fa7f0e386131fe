-- Targets and their parts.
use Rattle.std.specs.Prelude.{ℕ, ◌+◌, ◌<◌, ◌≡◌, List, [], ◌∷◌, ◌++◌, length, take, drop, get_or, Option, Some, None, refl}
use Rattle.std.specs.List.{flat_map}
use Rattle.std.proofs.Common.{arith, ap, sym, ◌∙◌, inl, inr, take-append-drop}
use Rattle.std.proofs.lemmas.List.{append-nil, get_or_append_left, get_or-append_right, get_or_past, take_more}
use Rattle.std.proofs.lemmas.List.Concat.{flat_map-append}
use Rattle.cif_defs.proofs.WordLaws.{le_or_lt}
use Rattle.cif_shadows.specs.Tables.{AreTargets}

-- the targets of some outputs, end to end
abbrev pub joined : List (List (Option ℕ)) → List (Option ℕ)
joined outputs = flat_map (λ (targets : List (Option ℕ)). targets) outputs

pub joined_more : (outputs : List (List (Option ℕ))) (i : ℕ) (d : List (Option ℕ)) → i < length outputs → joined (take (i + 1) outputs) ≡ joined (take i outputs) ++ get_or outputs i d
joined_more outputs i d h =
    ap joined (take_more outputs i d h) ∙ flat_map-append (λ (targets : List (Option ℕ)). targets) (take i outputs) (get_or outputs i d ∷ [])
    ∙ ap (λ (targets : List (Option ℕ)). joined (take i outputs) ++ targets) (append-nil (get_or outputs i d))

pub joined_split : (outputs : List (List (Option ℕ))) (n : ℕ) → joined (take n outputs) ++ joined (drop n outputs) ≡ joined outputs
joined_split outputs n = sym (flat_map-append (λ (targets : List (Option ℕ)). targets) (take n outputs) (drop n outputs)) ∙ ap joined (take-append-drop n outputs)

-- ---- what stands in a part stands in the whole

inside : {A : Type 0} (xs : List (Option A)) (i : ℕ) (b : A) → get_or xs i None ≡ Some b → i < length xs
inside xs i b h = elim (le_or_lt i (length xs)) [
  | inl l ↦ l
  | inr l ↦ absurd (let past : get_or xs i None ≡ None = get_or_past xs i None l in cc)
]

in_left : {A : Type 0} (xs ys : List (Option A)) (i : ℕ) (b : A) → get_or xs i None ≡ Some b → get_or (xs ++ ys) i None ≡ Some b
in_left xs ys i b h = get_or_append_left xs ys None i (inside xs i b h) ∙ h

pub in_right : {A : Type 0} (xs ys : List (Option A)) (i : ℕ) (b : A) → get_or ys i None ≡ Some b → get_or (xs ++ ys) (length xs + i) None ≡ Some b
in_right xs ys i b h =
    get_or-append_right xs ys (length xs) (length xs + i) None refl (omega arith)
    ∙ ap (λ (j : ℕ). get_or ys j None) (omega arith) ∙ h

pub targets_left : (n : ℕ) (xs ys all : List (Option ℕ)) → xs ++ ys ≡ all → AreTargets n all → AreTargets n xs
targets_left n xs ys all e t = record {
  once = λ i j b h k. t.once i j b (at i b h) (at j b k);
  below = λ i b h. t.below i b (at i b h);
} where
  at : (i b : ℕ) → get_or xs i None ≡ Some b → get_or all i None ≡ Some b
  at i b h = ap (λ (zs : List (Option ℕ)). get_or zs i None) (sym e) ∙ in_left xs ys i b h

pub targets_right : (n : ℕ) (xs ys : List (Option ℕ)) → AreTargets n (xs ++ ys) → AreTargets n ys
targets_right n xs ys t = record {
  once = λ i j b h k. (let e : length xs + i ≡ length xs + j = t.once (length xs + i) (length xs + j) b (in_right xs ys i b h) (in_right xs ys j b k) in omega arith);
  below = λ i b h. t.below (length xs + i) b (in_right xs ys i b h);
}

pub same_limit : (m n : ℕ) (targets : List (Option ℕ)) → m ≡ n → AreTargets m targets → AreTargets n targets
same_limit m n targets e all = record { once = all.once; below = λ i b h. (let below : b < m = all.below i b h in omega arith) }
