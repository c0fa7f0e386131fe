-- Names that are wanted for taint are made of those that stand, and none of them stands.
use Rattle.std.specs.Prelude.{ℕ, ◌≡◌, Bool, true, false, ◌||◌, List, [], ◌∷◌, ◌++◌, map, filter, codes, bytes_eq, None, option_map, refl}
use Rattle.std.specs.List.{flat_map}
use Rattle.std.proofs.Common.{arith, sym, ap, ◌∙◌, inl}
use Rattle.std.proofs.lemmas.Bool.{or_left, or_right}
use Rattle.std.proofs.lemmas.List.{append_cancel_right}
use Rattle.cif_defs.specs.Kinds.{is_register, is_memory}
use Rattle.cif_defs.specs.Order.{port_names, cell_names, net_names}
use Rattle.cif_defs.specs.declared.raw_module.RawPort.{RawPort}
use Rattle.cif_defs.specs.declared.raw_module.RawCell.{RawCell}
use Rattle.cif_defs.specs.declared.raw_module.Raw.{Raw}
use Rattle.cif_nets.proofs.Places.{Has, At-has, Has-filter, Has-flat_map, Has-left, Has-right}
use Rattle.cif_augment.specs.Names.{taint_name, flag_name, stored_name, data_ports, has_role, is_reset_register, has_flag}
use Rattle.cif_augment.specs.Refusals.{name_if, wanted_for, wanted_names, standing_names, is_among, is_twice_among, is_numbered, taken_names, first_name, names_fault}
use Rattle.cif_augment.specs.declared.fault.InstrumentFault.TheVariants.{NameTaken}
use Rattle.cif_built_inputs.proofs.Finds.{Has-map, any_has, name_is, other_name, same_name}

-- ---- names with an ending

abbrev last_of : List ℕ → ℕ
last_of [] = 0
last_of (x ∷ []) = x
last_of (x ∷ y ∷ ys) = last_of (y ∷ ys)

last_of_ending : (name : List ℕ) (y : ℕ) (ys : List ℕ) → last_of (name ++ y ∷ ys) ≡ last_of (y ∷ ys)
last_of_ending [] y ys = refl
last_of_ending (x ∷ []) y ys = refl
last_of_ending (x ∷ z ∷ zs) y ys = last_of_ending (z ∷ zs) y ys

taint_ends : (name : List ℕ) → last_of (taint_name name) ≡ 116
taint_ends name = last_of_ending name 95 (95 ∷ 116 ∷ [])

stored_ends : (name : List ℕ) → last_of (stored_name name) ≡ 118
stored_ends name = last_of_ending name 95 (95 ∷ 118 ∷ [])

flag_ends : (name : List ℕ) → last_of (flag_name name) ≡ 103
flag_ends name = last_of_ending name 95 (95 ∷ 102 ∷ 108 ∷ 97 ∷ 103 ∷ [])

apart : (a b : List ℕ) (x y : ℕ) → last_of a ≡ x → last_of b ≡ y → (x ≡ y → ⊥) → a ≡ b → ⊥
apart a b x y p q ne e = ne (sym p ∙ ap last_of e ∙ q)

pub taint_not_stored : (a b : List ℕ) → taint_name a ≡ stored_name b → ⊥
taint_not_stored a b = apart (taint_name a) (stored_name b) 116 118 (taint_ends a) (stored_ends b) (λ e. absurd (omega arith))

pub taint_not_flag : (a b : List ℕ) → taint_name a ≡ flag_name b → ⊥
taint_not_flag a b = apart (taint_name a) (flag_name b) 116 103 (taint_ends a) (flag_ends b) (λ e. absurd (omega arith))

pub stored_not_flag : (a b : List ℕ) → stored_name a ≡ flag_name b → ⊥
stored_not_flag a b = apart (stored_name a) (flag_name b) 118 103 (stored_ends a) (flag_ends b) (λ e. absurd (omega arith))

-- names with the same ending are the same as without it
same_bytes : (a b ending : List ℕ) → bytes_eq (a ++ ending) (b ++ ending) ≡ bytes_eq a b
same_bytes a b ending = by_test (bytes_eq a b) refl where
  by_test : (t : Bool) → bytes_eq a b ≡ t → bytes_eq (a ++ ending) (b ++ ending) ≡ t
  by_test true e = name_is (a ++ ending) (b ++ ending) (ap (λ (name : List ℕ). name ++ ending) (same_name a b e))
  by_test false e = other_name (a ++ ending) (b ++ ending) (λ same. let t : bytes_eq a b ≡ true = name_is a b (append_cancel_right a b ending same) in absurd (cc))

pub same_taint_bytes : (a b : List ℕ) → bytes_eq (taint_name a) (taint_name b) ≡ bytes_eq a b
same_taint_bytes a b = same_bytes a b (codes "__t")

pub same_stored_bytes : (a b : List ℕ) → bytes_eq (stored_name a) (stored_name b) ≡ bytes_eq a b
same_stored_bytes a b = same_bytes a b (codes "__v")

pub same_stored : (a b : List ℕ) → stored_name a ≡ stored_name b → a ≡ b
same_stored a b e = append_cancel_right a b (codes "__v") e

-- ---- names that stand

pub port_stands : (n : Raw) (p : RawPort) → Has n.ports p → Has (standing_names n) p.name
unfolding standing_names
port_stands n p h = Has-left (port_names n.ports ++ cell_names n.cells) (net_names n.names) p.name (Has-left (port_names n.ports) (cell_names n.cells) p.name (Has-map (λ (q : RawPort). q.name) n.ports p h))

pub cell_stands : (n : Raw) (c : RawCell) → Has n.cells c → Has (standing_names n) c.name
unfolding standing_names
cell_stands n c h = Has-left (port_names n.ports ++ cell_names n.cells) (net_names n.names) c.name (Has-right (port_names n.ports) (cell_names n.cells) c.name (Has-map (λ (d : RawCell). d.name) n.cells c h))

-- ---- names that are wanted

pub port_wanted : (n : Raw) (p : RawPort) → Has (data_ports n) p → Has (wanted_names n) (taint_name p.name)
unfolding wanted_names
port_wanted n p h = Has-left (map (λ (q : RawPort). taint_name q.name) (data_ports n)) (flat_map wanted_for n.cells) (taint_name p.name) (Has-map (λ (q : RawPort). taint_name q.name) (data_ports n) p h)

for_cell : (n : Raw) (c : RawCell) (name : List ℕ) → Has n.cells c → Has (wanted_for c) name → Has (wanted_names n) name
unfolding wanted_names
for_cell n c name h w = (let at = At-has n.cells c h in Has-right (map (λ (q : RawPort). taint_name q.name) (data_ports n)) (flat_map wanted_for n.cells) name (Has-flat_map wanted_for n.cells at.0 c name at.1 w))

named_if : (b : Bool) (name : List ℕ) → b ≡ true → Has (name_if b name) name
named_if b name e = rw e (inl refl)

abbrev taint_wanted_for : RawCell → List (List ℕ)
taint_wanted_for c = name_if (has_role is_register c || has_role is_memory c) (taint_name c.name)

abbrev stored_wanted_for : RawCell → List (List ℕ)
stored_wanted_for c = name_if (has_role is_reset_register c) (stored_name c.name)

abbrev flag_wanted_for : RawCell → List (List ℕ)
flag_wanted_for c = name_if (has_flag c) (flag_name c.name)

taint_for : (c : RawCell) → (has_role is_register c || has_role is_memory c) ≡ true → Has (wanted_for c) (taint_name c.name)
taint_for c e = Has-left (taint_wanted_for c ++ stored_wanted_for c) (flag_wanted_for c) (taint_name c.name) (Has-left (taint_wanted_for c) (stored_wanted_for c) (taint_name c.name) (named_if (has_role is_register c || has_role is_memory c) (taint_name c.name) e))

pub register_taint_wanted : (n : Raw) (c : RawCell) → Has n.cells c → has_role is_register c ≡ true → Has (wanted_names n) (taint_name c.name)
register_taint_wanted n c h e = for_cell n c (taint_name c.name) h (taint_for c (or_left (has_role is_register c) (has_role is_memory c) e))

pub memory_taint_wanted : (n : Raw) (c : RawCell) → Has n.cells c → has_role is_memory c ≡ true → Has (wanted_names n) (taint_name c.name)
memory_taint_wanted n c h e = for_cell n c (taint_name c.name) h (taint_for c (or_right (has_role is_register c) (has_role is_memory c) e))

pub stored_wanted : (n : Raw) (c : RawCell) → Has n.cells c → has_role is_reset_register c ≡ true → Has (wanted_names n) (stored_name c.name)
stored_wanted n c h e = for_cell n c (stored_name c.name) h
    (Has-left (taint_wanted_for c ++ stored_wanted_for c) (flag_wanted_for c) (stored_name c.name) (Has-right (taint_wanted_for c) (stored_wanted_for c) (stored_name c.name) (named_if (has_role is_reset_register c) (stored_name c.name) e)))

pub flag_wanted : (n : Raw) (c : RawCell) → Has n.cells c → has_flag c ≡ true → Has (wanted_names n) (flag_name c.name)
flag_wanted n c h e = for_cell n c (flag_name c.name) h (Has-right (taint_wanted_for c ++ stored_wanted_for c) (flag_wanted_for c) (flag_name c.name) (named_if (has_flag c) (flag_name c.name) e))

-- ---- no name is both

no_first : (names : List (List ℕ)) → option_map NameTaken (first_name names) ≡ None → names ≡ []
unfolding first_name
no_first [] h = refl
no_first (name ∷ names) h = absurd (cc)

pub no_wanted_stands : (n : Raw) (wanted standing : List ℕ) → names_fault n ≡ None → Has (wanted_names n) wanted → Has (standing_names n) standing → wanted ≡ standing → ⊥
unfolding names_fault taken_names
no_wanted_stands n wanted standing h w s e =
    let taken = λ (name : List ℕ). is_among (standing_names n) name || is_twice_among (wanted_names n) name in
    let among : is_among (standing_names n) wanted ≡ true = any_has (bytes_eq wanted) (standing_names n) standing s (name_is wanted standing e) in
    let listed : Has (filter taken (wanted_names n)) wanted = Has-filter taken (wanted_names n) wanted w (or_left (is_among (standing_names n) wanted) (is_twice_among (wanted_names n) wanted) among) in
    let all : Has (filter taken (wanted_names n) ++ filter (is_numbered n) (standing_names n)) wanted = Has-left (filter taken (wanted_names n)) (filter (is_numbered n) (standing_names n)) wanted listed in
    let none : filter taken (wanted_names n) ++ filter (is_numbered n) (standing_names n) ≡ [] = no_first (filter taken (wanted_names n) ++ filter (is_numbered n) (standing_names n)) h in
    rw none at all
