-- Why a module isn't augmented: a name that is wanted is taken, or the augmented module may come out too large.
use Rattle.std.specs.Prelude.{ℕ, ◌+◌, nat_eq, nat_lt, ◌≡◌, Bool, ◌&&◌, ◌||◌, List, [], ◌∷◌, ◌++◌, map, filter, length, drop, bytes_eq, Option, Some, None, option_map, if◌then◌else◌}
use Rattle.std.specs.List.{list_any, list_all, flat_map, starts_with, sum_by}
use Rattle.std.specs.Char.{is_ascii_digit}
use Rattle.std.specs.Option.{option_map_or}
use Rattle.std.specs.Ordering.{nat_cmp, is_lt}
use Rattle.std.specs.Cmp.Lexicographic.{slice_cmp}
use Rattle.cif_defs.specs.Kinds.{is_register, is_memory}
use Rattle.cif_defs.specs.Order.{port_names, cell_names, net_names}
use Rattle.cif_defs.specs.Accepted.{netlist_of}
use Rattle.cif_defs.specs.Weights.{weight}
use Rattle.cif_defs.specs.declared.raw_module.RawPort.{RawPort}
use Rattle.cif_defs.specs.declared.raw_module.RawCell.{RawCell}
use Rattle.cif_defs.specs.declared.raw_module.Raw.{Raw}
use Rattle.cif_checks.specs.Checks.{cell_limit}
use Rattle.cif_augment.specs.Names.{taint_name, flag_name, stored_name, data_ports, has_role, is_reset_register, has_flag}
use Rattle.cif_augment.specs.declared.fault.InstrumentFault.{InstrumentFault}
use Rattle.cif_augment.specs.declared.fault.InstrumentFault.TheVariants.{NameTaken, AugTooLarge, Memory}

-- ---- names that are taken

abbrev pub name_if : Bool → List ℕ → List (List ℕ)
name_if b name = if b then name ∷ [] else []

-- the names that are wanted for a cell whatever it is given
abbrev pub wanted_for : RawCell → List (List ℕ)
wanted_for c =
    name_if (has_role is_register c || has_role is_memory c) (taint_name c.name)
    ++ name_if (has_role is_reset_register c) (stored_name c.name)
    ++ name_if (has_flag c) (flag_name c.name)

unfoldable pub wanted_names : Raw → List (List ℕ)
wanted_names raw = map (λ (p : RawPort). taint_name p.name) (data_ports raw) ++ flat_map wanted_for raw.cells

-- the names that ports, cells and netnames bear
unfoldable pub standing_names : Raw → List (List ℕ)
standing_names raw = port_names raw.ports ++ cell_names raw.cells ++ net_names raw.names

abbrev pub is_among : List (List ℕ) → List ℕ → Bool
is_among names name = list_any (bytes_eq name) names

abbrev pub is_twice_among : List (List ℕ) → List ℕ → Bool
is_twice_among names name = nat_lt 1 (length (filter (bytes_eq name) names))

abbrev pub are_digits : List ℕ → Bool
are_digits text = nat_lt 0 (length text) && list_all is_ascii_digit text

-- whether a name is wanted for further cells of a cell: that of its taint, and then one or more digits
abbrev pub is_numbered_for : List ℕ → RawCell → Bool
is_numbered_for name c = starts_with nat_eq name (taint_name c.name) && are_digits (drop (length (taint_name c.name)) name)

abbrev pub is_numbered : Raw → List ℕ → Bool
is_numbered raw name = list_any (is_numbered_for name) raw.cells

-- the names that are wanted and stand already, or are wanted twice; a name with digits counts where it stands
unfoldable pub taken_names : Raw → List (List ℕ)
taken_names raw =
    filter (λ name. is_among (standing_names raw) name || is_twice_among (wanted_names raw) name) (wanted_names raw)
    ++ filter (is_numbered raw) (standing_names raw)

-- the earlier of two names in byte order
abbrev pub earlier : List ℕ → List ℕ → List ℕ
earlier a b = if is_lt (slice_cmp nat_cmp b a) then b else a

-- the first of some names in byte order
unfoldable pub first_name : List (List ℕ) → Option (List ℕ)
first_name [] = None
first_name (name ∷ names) = Some (option_map_or (earlier name) (first_name names) name)

unfoldable pub names_fault : Raw → Option InstrumentFault
names_fault raw = option_map NameTaken (first_name (taken_names raw))

-- ---- size

-- the cells, and what their taint may cost
unfoldable pub augmented_size : Raw → ℕ
augmented_size raw = length raw.cells + sum_by weight (netlist_of raw).cells

unfoldable pub size_fault : Raw → Option InstrumentFault
size_fault raw = if nat_lt cell_limit (augmented_size raw) then Some (AugTooLarge (augmented_size raw)) else None

-- ---- both, in order

infixl 20 ◌else_by◌
abbrev pub ◌else_by◌ : Option InstrumentFault → Option InstrumentFault → Option InstrumentFault
None else_by next = next
Some fault else_by next = Some fault

-- the first check that fails
unfoldable pub instrument_fault : Raw → Option InstrumentFault
instrument_fault raw = names_fault raw else_by size_fault raw

-- an answer is the first fault, but for want of memory, which says nothing of the module
abbrev pub IsFirst : Option InstrumentFault → InstrumentFault → Type 0
IsFirst found Memory = Unit {0}
IsFirst found (NameTaken name) = found ≡ Some (NameTaken name)
IsFirst found (AugTooLarge count) = found ≡ Some (AugTooLarge count)
