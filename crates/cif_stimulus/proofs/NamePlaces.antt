-- The places of things by name.
use Rattle.std.specs.Prelude.{ℕ, zero, suc, ◌+◌, ◌<◌, ◌≡◌, Bool, true, false, List, [], ◌∷◌, map, length, get_or, bytes_eq, Option, Some, None, refl}
use Rattle.std.proofs.Common.{arith, sym, ap, ◌∙◌, cond}
use Rattle.std.specs.List.{find}
use Rattle.std.proofs.lemmas.List.{get_or_default}
use Rattle.std.proofs.lemmas.List.Quantifiers.{position-Some}
use Rattle.std.proofs.lemmas.Iterator.Adapters.{position_from-zero}
use Rattle.std.proofs.lemmas.Slice.Eq.{bytes_eq-Decides}
use Rattle.cif_defs.specs.Netlist.{no_wire}
use Rattle.cif_defs.specs.declared.nets.Wire.{Wire}
use Rattle.std.specs.List.{position_from}
use Rattle.cif_defs.specs.Order.{AreInOrder, place_among}
use Rattle.cif_defs.proofs.NameOrder.{own_place}
use Rattle.cif_stimulus.specs.Names.{place_named, port_name}

-- ---- what the place of a name says

-- a thing that has a name first
pub record IsNamed {A : Type 0} (name_of : A → List ℕ) (xs : List A) (d : A) (name : List ℕ) (p : ℕ) : Type 0 where
  pub inside : p < length xs
  pub same : name_of (get_or xs p d) ≡ name
  pub found : find (λ (x : A). bytes_eq (name_of x) name) xs ≡ Some (get_or xs p d)

find_at : {A : Type 0} (test : A → Bool) (xs : List A) (d : A) (p : ℕ) → p < length xs → test (get_or xs p d) ≡ true → ((k : ℕ) → k < p → test (get_or xs k d) ≡ false) → find test xs ≡ Some (get_or xs p d)
find_at test [] d p h t f = absurd (omega arith)
find_at test (x ∷ xs) d zero h t f = ap (λ b. cond b (Some x) (find test xs)) t
find_at test (x ∷ xs) d (suc p) h t f = ap (λ b. cond b (Some x) (find test xs)) (f 0 (omega arith)) ∙ find_at test xs d p (omega arith) t (λ k l. f (suc k) (omega arith))

pub named_among : {A : Type 0} (name_of : A → List ℕ) (xs : List A) (d : A) (name : List ℕ) (p : ℕ) → place_among name_of xs name ≡ Some p → IsNamed name_of xs d name p
unfolding place_among
named_among {A} name_of xs d name p h =
    let at = position-Some (λ (x : A). bytes_eq (name_of x) name) xs p d (position_from-zero (λ (x : A). bytes_eq (name_of x) name) xs ∙ h) in
    record {
      inside = at.0;
      same = (bytes_eq-Decides (name_of (get_or xs p d)) name).0 at.1;
      found = find_at (λ (x : A). bytes_eq (name_of x) name) xs d p at.0 at.1 at.2;
    }

pub named : (ports : List Wire) (name : List ℕ) (p : ℕ) → place_named ports name ≡ Some p → IsNamed port_name ports no_wire name p
named ports name p h = named_among port_name ports no_wire name p h

missing_step : {A : Type 0} (test : A → Bool) (i : ℕ) (x : A) (xs : List A) (s : Bool) → cond s (Some i) (position_from test (i + 1) xs) ≡ None → (position_from test (i + 1) xs ≡ None → find test xs ≡ None) → cond s (Some x) (find test xs) ≡ None
missing_step test i x xs true h next = absurd (cc)
missing_step test i x xs false h next = next h

missing_from : {A : Type 0} (test : A → Bool) (i : ℕ) (xs : List A) → position_from test i xs ≡ None → find test xs ≡ None
missing_from test i [] h = refl
missing_from test i (x ∷ xs) h = missing_step test i x xs (test x) h (missing_from test (i + 1) xs)

pub missing : {A : Type 0} (name_of : A → List ℕ) (xs : List A) (name : List ℕ) → place_among name_of xs name ≡ None → find (λ (x : A). bytes_eq (name_of x) name) xs ≡ None
unfolding place_among
missing name_of xs name h = missing_from (λ x. bytes_eq (name_of x) name) 0 xs h

-- a port has a place for its name
pub one_place : (ports : List Wire) (a b : List ℕ) (p : ℕ) → place_named ports a ≡ Some p → place_named ports b ≡ Some p → a ≡ b
one_place ports a b p f g = sym (named ports a p f).same ∙ (named ports b p g).same

-- what a look-up in a list that was lent gives
pub found_none : {A : Type 0} (name_of : A → List ℕ) (ys xs : List A) (name : List ℕ) (place : Option ℕ) → ys ≡ xs → place ≡ place_among name_of ys name → place ≡ None → None ≡ find (λ (x : A). bytes_eq (name_of x) name) xs
found_none {A} name_of ys xs name place same is none =
    sym (ap (λ (zs : List A). find (λ (x : A). bytes_eq (name_of x) name) zs) (sym same) ∙ missing name_of ys name (sym is ∙ none))

pub found_some : {A : Type 0} (name_of : A → List ℕ) (ys xs : List A) (name : List ℕ) (place : Option ℕ) (p : ℕ) (x d : A) → ys ≡ xs → place ≡ place_among name_of ys name → place ≡ Some p → x ≡ get_or ys p x → Some x ≡ find (λ (y : A). bytes_eq (name_of y) name) xs
found_some {A} name_of ys xs name place p x d same is some at =
    let there = named_among name_of ys d name p (sym is ∙ some) in
    ap (λ (y : A). Some y) (at ∙ get_or_default ys p x d there.inside) ∙ sym there.found
    ∙ ap (λ (zs : List A). find (λ (y : A). bytes_eq (name_of y) name) zs) same

pub found_inside : {A : Type 0} (name_of : A → List ℕ) (ys : List A) (name : List ℕ) (place : Option ℕ) (p : ℕ) (d : A) → place ≡ place_among name_of ys name → place ≡ Some p → p < length ys
found_inside {A} name_of ys name place p d is some = (named_among name_of ys d name p (sym is ∙ some)).inside

-- what is found stands at some place
abbrev pub StandsIn : {A : Type 0} → (A → Bool) → List A → A → A → Type 0
StandsIn test xs x d = (p : ℕ) × ((p < length xs) × (get_or xs p d ≡ x) × (test x ≡ true))

found_step : {A : Type 0} (test : A → Bool) (y : A) (ys : List A) (x d : A) (s : Bool) → test y ≡ s → cond s (Some y) (find test ys) ≡ Some x → (find test ys ≡ Some x → StandsIn test ys x d) → StandsIn test (y ∷ ys) x d
found_step {A} test y ys x d true e k next = (let same : y ≡ x = cc in (0, (omega arith, same, ap test (sym same) ∙ e)))
found_step test y ys x d false e k next = (let rest = next k in (suc rest.0, (omega (arith, rest.1.0), rest.1.1, rest.1.2)))

pub found_place : {A : Type 0} (test : A → Bool) (xs : List A) (x d : A) → find test xs ≡ Some x → StandsIn test xs x d
found_place test [] x d h = absurd (cc)
found_place test (y ∷ ys) x d h = found_step test y ys x d (test y) refl h (found_place test ys x d)

-- ---- a hint

-- what stands at a place and has the name is what is meant, since each name stands once
pub hinted : {A : Type 0} (name_of : A → List ℕ) (xs : List A) (name : List ℕ) (p : ℕ) (x : A) → AreInOrder (map name_of xs) → p < length xs → x ≡ get_or xs p x → bytes_eq (name_of x) name ≡ true → Some p ≡ place_among name_of xs name
hinted {A} name_of xs name p x order h is same =
    sym (own_place name_of xs p x order h)
    ∙ ap (λ (q : List ℕ). place_among name_of xs q) (ap name_of (sym is) ∙ (bytes_eq-Decides (name_of x) name).0 same)
