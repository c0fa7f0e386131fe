-- Whether a name stands among things that have names.
use Rattle.std.specs.Prelude.{ℕ, ◌+◌, ◌≡◌, Bool, true, false, ◌||◌, List, [], ◌∷◌, ◌++◌, map, bytes_eq, Some, is_some, refl}
use Rattle.std.specs.List.{list_any, position_from}
use Rattle.std.proofs.Common.{ap, ◌∙◌, cond}
use Rattle.std.proofs.lemmas.List.Folds.{list_any-append}
use Rattle.cif_defs.specs.Order.{place_among, port_names, cell_names, net_names}
use Rattle.cif_defs.specs.declared.raw_module.Raw.{Raw}
use Rattle.cif_augment.specs.Refusals.{is_among, standing_names}
use Rattle.cif_augment.proofs.Digits.{turned}

found_step : {A : Type 0} (test : A → Bool) (i : ℕ) (x : A) (xs : List A) (b : Bool) → is_some (position_from test (i + 1) xs) ≡ list_any test xs → is_some (cond b (Some i) (position_from test (i + 1) xs)) ≡ (b || list_any test xs)
found_step test i x xs true h = refl
found_step test i x xs false h = h

found_from : {A : Type 0} (test : A → Bool) (i : ℕ) (xs : List A) → is_some (position_from test i xs) ≡ list_any test xs
found_from test i [] = refl
found_from test i (x ∷ xs) = found_step test i x xs (test x) (found_from test (i + 1) xs)

named_among : {A : Type 0} (name_of : A → List ℕ) (xs : List A) (name : List ℕ) → list_any (λ x. bytes_eq (name_of x) name) xs ≡ is_among (map name_of xs) name
named_among name_of [] name = refl
named_among name_of (x ∷ xs) name =
    ap (λ b. b || list_any (λ y. bytes_eq (name_of y) name) xs) (turned (name_of x) name) ∙ ap (λ b. bytes_eq name (name_of x) || b) (named_among name_of xs name)

-- a name has a place among things where it stands among their names
pub borne : {A : Type 0} (name_of : A → List ℕ) (xs : List A) (name : List ℕ) → is_some (place_among name_of xs name) ≡ is_among (map name_of xs) name
unfolding place_among
borne name_of xs name = found_from (λ x. bytes_eq (name_of x) name) 0 xs ∙ named_among name_of xs name

-- among the names of a module
pub standing : (raw : Raw) (name : List ℕ) → is_among (standing_names raw) name ≡ (is_among (port_names raw.ports) name || is_among (cell_names raw.cells) name || is_among (net_names raw.names) name)
unfolding standing_names
standing raw name =
    list_any-append (bytes_eq name) (port_names raw.ports ++ cell_names raw.cells) (net_names raw.names)
    ∙ ap (λ b. b || is_among (net_names raw.names) name) (list_any-append (bytes_eq name) (port_names raw.ports) (cell_names raw.cells))

pub stands : (raw : Raw) (name : List ℕ) (p q r : Bool) → p ≡ is_among (port_names raw.ports) name → q ≡ is_among (cell_names raw.cells) name → r ≡ is_among (net_names raw.names) name → (p || q || r) ≡ is_among (standing_names raw) name
stands raw name p q r e f g = (let all = standing raw name in cc)
