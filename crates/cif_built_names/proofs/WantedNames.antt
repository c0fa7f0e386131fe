-- What it says of the names of a module that none is taken which augmentation wants.
use Rattle.std.specs.Prelude.{ℕ, zero, suc, ◌+◌, ◌≤◌, ◌≡◌, Bool, true, false, ◌||◌, List, [], ◌∷◌, ◌++◌, map, filter, length, bytes_eq, Option, Some, None, option_map, refl}
use Rattle.std.specs.List.{flat_map}
use Rattle.std.proofs.Common.{arith, sym, ap, ◌∙◌, cond, subst, inl, inr}
use Rattle.std.proofs.lemmas.Bool.{both_ways, cond_both, false_from_ne_true, ltb-false, or_parts}
use Rattle.std.proofs.lemmas.Slice.Eq.{bytes_eq-Decides}
use Rattle.cif_defs.specs.Order.{port_names, cell_names, net_names}
use Rattle.cif_defs.specs.declared.raw_module.RawPort.{RawPort}
use Rattle.cif_defs.specs.declared.raw_module.RawCell.{RawCell}
use Rattle.cif_defs.specs.declared.raw_module.RawName.{RawName}
use Rattle.cif_defs.specs.declared.raw_module.Raw.{Raw}
use Rattle.cif_nets.proofs.Places.{Has, Has-filter, Has-left, Has-right}
use Rattle.cif_augment.specs.Names.{taint_name, data_ports}
use Rattle.cif_augment.specs.Refusals.{wanted_for, wanted_names, standing_names, taken_names, is_among, is_twice_among, is_numbered, first_name, names_fault}
use Rattle.cif_augment.specs.declared.fault.InstrumentFault.TheVariants.{NameTaken}
use Rattle.cif_built_names.proofs.NameCounts.{hit, named, times, times-append, times-map}
use Rattle.cif_built_names.proofs.NumberedNames.{any_passes}

-- ---- no name is taken

first_of_none : (names : List (List ℕ)) → first_name names ≡ None → names ≡ []
unfolding first_name
first_of_none [] h = refl
first_of_none (name ∷ names) h = absurd (cc)

no_fault : (o : Option (List ℕ)) → option_map NameTaken o ≡ None → o ≡ None
no_fault None h = refl
no_fault (Some name) h = absurd (cc)

none_taken : (n : Raw) → names_fault n ≡ None → taken_names n ≡ []
unfolding names_fault
none_taken n h = first_of_none (taken_names n) (no_fault (first_name (taken_names n)) h)

front_empty : {A : Type 0} (xs ys : List A) → xs ++ ys ≡ [] → xs ≡ []
front_empty [] ys h = refl
front_empty (x ∷ xs) ys h = absurd (cc)

rest_empty : {A : Type 0} (xs ys : List A) → xs ++ ys ≡ [] → ys ≡ []
rest_empty [] ys h = h
rest_empty (x ∷ xs) ys h = absurd (cc)

-- where nothing passes a test, each thing fails it
all_fail : {A : Type 0} (test : A → Bool) (xs : List A) (x : A) → filter test xs ≡ [] → Has xs x → test x ≡ false
all_fail test xs x h k = false_from_ne_true (test x) (λ e. subst (λ ys. Has ys x) h (Has-filter test xs x k e))

-- ---- names as often as they stand in a list

filtered : (name : List ℕ) (names : List (List ℕ)) → length (filter (bytes_eq name) names) ≡ times (λ x. x) name names
unfolding times
filtered name [] = refl
filtered name (x ∷ xs) =
    cond_both (bytes_eq name x) (x ∷ filter (bytes_eq name) xs) (filter (bytes_eq name) xs) (λ ys. length ys ≡ hit name x + times (λ x. x) name xs)
    (λ e. let rest = filtered name xs in let one : hit name x ≡ 1 = ap (λ t. cond t 1 0) e in omega arith)
    (λ e. let rest = filtered name xs in let none : hit name x ≡ 0 = ap (λ t. cond t 1 0) e in omega arith)

among : (names : List (List ℕ)) (name : List ℕ) → Has names name → is_among names name ≡ true
among names name h = any_passes (bytes_eq name) names name h ((bytes_eq-Decides name name).1 refl)

-- ---- what follows

pub record AreFree (n : Raw) : Type 0 where
  -- no wanted name stands, and each is wanted once
  pub apart : (name : List ℕ) → Has (wanted_names n) name → Has (standing_names n) name → ⊥
  pub once : (name : List ℕ) → times (λ x. x) name (wanted_names n) ≤ 1
  -- no standing name is one of further cells
  pub unnumbered : (name : List ℕ) → Has (standing_names n) name → is_numbered n name ≡ true → ⊥

wanted_once : (n : Raw) → ((name : List ℕ) → Has (wanted_names n) name → is_twice_among (wanted_names n) name ≡ false) → (name : List ℕ) (many : ℕ) → times (λ x. x) name (wanted_names n) ≡ many → many ≤ 1
wanted_once n h name zero e = omega arith
wanted_once n h name (suc many) e =
    let found = named (λ x. x) name (wanted_names n) (omega arith) in
    let single : is_twice_among (wanted_names n) name ≡ false = h name (subst (Has (wanted_names n)) (sym found.is) found.has) in
    let few : length (filter (bytes_eq name) (wanted_names n)) ≤ 1 = ltb-false 1 (length (filter (bytes_eq name) (wanted_names n))) single in
    omega (arith, filtered name (wanted_names n))

pub are_free : (n : Raw) → names_fault n ≡ None → AreFree n
unfolding taken_names
are_free n h =
    let test : List ℕ → Bool = λ name. is_among (standing_names n) name || is_twice_among (wanted_names n) name in
    let none = none_taken n h in
    let wanted : filter test (wanted_names n) ≡ [] = front_empty (filter test (wanted_names n)) (filter (is_numbered n) (standing_names n)) none in
    let standing : filter (is_numbered n) (standing_names n) ≡ [] = rest_empty (filter test (wanted_names n)) (filter (is_numbered n) (standing_names n)) none in
    let fails = λ (name : List ℕ) (k : Has (wanted_names n) name). or_parts (is_among (standing_names n) name) (is_twice_among (wanted_names n) name) (all_fail test (wanted_names n) name wanted k) in
    record {
      apart = λ name k s. both_ways (is_among (standing_names n) name) (fails name k).0 (among (standing_names n) name s);
      once = λ name. wanted_once n (λ x k. (fails x k).1) name (times (λ x. x) name (wanted_names n)) refl;
      unnumbered = λ name s e. both_ways (is_numbered n name) (all_fail (is_numbered n) (standing_names n) name standing s) e;
    }

-- ---- names that are wanted for ports, and for cells

abbrev pub port_taint_name : RawPort → List ℕ
port_taint_name p = taint_name p.name

pub times_wanted : (n : Raw) (name : List ℕ) → times (λ x. x) name (wanted_names n) ≡ times port_taint_name name (data_ports n) + times (λ x. x) name (flat_map wanted_for n.cells)
unfolding wanted_names
times_wanted n name =
    times-append (λ x. x) name (map port_taint_name (data_ports n)) (flat_map wanted_for n.cells)
    ∙ ap (λ m. m + times (λ x. x) name (flat_map wanted_for n.cells)) (times-map (λ x. x) port_taint_name name (data_ports n))

Has-map : {A B : Type 0} (f : A → B) (xs : List A) (x : A) → Has xs x → Has (map f xs) (f x)
Has-map f [] x h = absurd h
Has-map f (y ∷ ys) x (inl e) = inl (ap f e)
Has-map f (y ∷ ys) x (inr h) = inr (Has-map f ys x h)

pub wanted_for_port : (n : Raw) (p : RawPort) → Has (data_ports n) p → Has (wanted_names n) (taint_name p.name)
unfolding wanted_names
wanted_for_port n p h = Has-left (map port_taint_name (data_ports n)) (flat_map wanted_for n.cells) (taint_name p.name) (Has-map port_taint_name (data_ports n) p h)

-- ---- names that stand

pub port_stands : (n : Raw) (p : RawPort) → Has n.ports p → Has (standing_names n) p.name
unfolding standing_names
port_stands n p h = Has-left (port_names n.ports ++ cell_names n.cells) (net_names n.names) p.name (Has-left (port_names n.ports) (cell_names n.cells) p.name (Has-map (λ (q : RawPort). q.name) n.ports p h))

pub cell_stands : (n : Raw) (c : RawCell) → Has n.cells c → Has (standing_names n) c.name
unfolding standing_names
cell_stands n c h = Has-left (port_names n.ports ++ cell_names n.cells) (net_names n.names) c.name (Has-right (port_names n.ports) (cell_names n.cells) c.name (Has-map (λ (d : RawCell). d.name) n.cells c h))

pub net_stands : (n : Raw) (x : RawName) → Has n.names x → Has (standing_names n) x.name
unfolding standing_names
net_stands n x h = Has-right (port_names n.ports ++ cell_names n.cells) (net_names n.names) x.name (Has-map (λ (y : RawName). y.name) n.names x h)
