-- What is wanted and what is taken, as it is sought: by the wires and cells of a netlist, and name by name.
use Rattle.std.specs.Prelude.{ℕ, ◌+◌, ◌-◌, ◌<◌, ◌≤◌, nat_lt, ◌≡◌, Bool, true, false, not, ◌&&◌, ◌||◌, List, [], ◌++◌, length, get_or, bytes_eq, Option, Some, None}
use Rattle.std.specs.List.{list_any, flat_map}
use Rattle.std.specs.List.Sorted.{IsSorted}
use Rattle.std.specs.Char.{is_ascii_digit}
use Rattle.std.specs.Cmp.Lexicographic.{slice_cmp}
use Rattle.std.specs.Ordering.{nat_cmp}
use Rattle.cif_defs.specs.Cells.{Cell, number_of}
use Rattle.cif_defs.specs.Kinds.{role_of, is_register, is_memory}
use Rattle.cif_defs.specs.Netlist.{Netlist}
use Rattle.cif_defs.specs.declared.kinds.Param.TheVariants.{WrPorts}
use Rattle.cif_defs.specs.declared.nets.Wire.{Wire}
use Rattle.cif_defs.specs.declared.raw_module.RawCell.{RawCell}
use Rattle.cif_defs.specs.declared.raw_module.Raw.{Raw}
use Rattle.cif_stimulus.specs.Fitting.{is_clock_source}
use Rattle.cif_augment.specs.Names.{taint_name, flag_name, stored_name, is_reset_register}
use Rattle.cif_augment.specs.Refusals.{name_if, is_among, is_twice_among, is_numbered_for, standing_names, earlier}

-- ---- what is wanted

-- a port other than the clock
abbrev pub is_data_wire : Netlist → Wire → Bool
is_data_wire n w = not (list_any (is_clock_source n) w.bits)

-- the names that are wanted for a port, for ports, and for a cell
abbrev pub wanted_for_wire : Netlist → Wire → List (List ℕ)
wanted_for_wire n w = name_if (is_data_wire n w) (taint_name w.name)

abbrev pub wanted_for_wires : Netlist → List Wire → List (List ℕ)
wanted_for_wires n wires = flat_map (wanted_for_wire n) wires

abbrev pub wanted_for_cell : Cell → List (List ℕ)
wanted_for_cell c =
    name_if (is_register (role_of c.kind) || is_memory (role_of c.kind)) (taint_name c.name)
    ++ name_if (is_reset_register (role_of c.kind)) (stored_name c.name)
    ++ name_if (is_memory (role_of c.kind) && nat_lt 0 (number_of c WrPorts)) (flag_name c.name)

abbrev pub wanted_of : Netlist → List (List ℕ)
wanted_of n = wanted_for_wires n n.inputs ++ wanted_for_wires n n.outputs ++ flat_map wanted_for_cell n.cells

-- ---- what is taken

-- names in byte order, where one may stand more than once
abbrev pub AreSorted : List (List ℕ) → Type 0
AreSorted names = IsSorted (slice_cmp nat_cmp) names

-- a name that is wanted is taken where it stands, or is wanted twice
abbrev pub is_taken : Raw → List (List ℕ) → List ℕ → Bool
is_taken raw wanted name = is_among (standing_names raw) name || is_twice_among wanted name

-- whether a name stands again behind place k
abbrev pub is_repeated : List (List ℕ) → ℕ → Bool
is_repeated names k = nat_lt (k + 1) (length names) && bytes_eq (get_or names k []) (get_or names (k + 1) [])

-- whether the name at place k is seen to be taken: it stands, or again behind place k
abbrev pub is_seen_taken : Raw → List (List ℕ) → ℕ → Bool
is_seen_taken raw names k = is_among (standing_names raw) (get_or names k []) || is_repeated names k

-- the earlier of two names, either of which may be missing
abbrev pub earliest : Option (List ℕ) → Option (List ℕ) → Option (List ℕ)
earliest None other = other
earliest (Some a) None = Some a
earliest (Some a) (Some b) = Some (earlier a b)

-- ---- names with digits

-- the place from which on a name has only digits
pub record IsDigitsPlace (name : List ℕ) (place : ℕ) : Type 0 where
  pub within : place ≤ length name
  pub digits : (k : ℕ) → place ≤ k → k < length name → is_ascii_digit (get_or name k 0) ≡ true
  pub first : 0 < place → is_ascii_digit (get_or name (place - 1) 0) ≡ false

-- a name is wanted for further cells of a cell of this name alone
abbrev pub IsNumberedFor : List ℕ → List ℕ → Type 0
IsNumberedFor name owner = (c : RawCell) → is_numbered_for name c ≡ bytes_eq c.name owner

-- a name is wanted for further cells of no cell
abbrev pub IsNotNumbered : List ℕ → Type 0
IsNotNumbered name = (c : RawCell) → is_numbered_for name c ≡ false
