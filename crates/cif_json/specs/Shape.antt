-- What a module of a netlist file stands for, or the first wrong place in it.
use Rattle.std.specs.Prelude.{ℕ, ◌^◌, ◌==◌, nat_lt, Bool, false, not, List, [], ◌∷◌, codes, bytes_eq, Option, Some, None, option_map, option_and_then, Result, Ok, pos, if◌then◌else◌}
use Rattle.std.specs.Ordering.{int_eq}
use Rattle.std.specs.Float.Ieee.{ne}
use Rattle.serde_json.specs.Data.{Num, unsigned, negative, float, Data, null, boolean, number, string, array, object, Items, no_items, item, Members, no_members, member}
use Rattle.serde_json.specs.Find.{get_member, as_str, as_array, as_number, as_u64, as_integer}
use Rattle.cif_defs.specs.declared.raw_module.RawBit.{RawBit}
use Rattle.cif_defs.specs.declared.raw_module.RawBit.TheVariants.{Net, Zero, One, X, Z}
use Rattle.cif_defs.specs.declared.raw_module.ParamValue.{ParamValue}
use Rattle.cif_defs.specs.declared.raw_module.ParamValue.TheVariants.{Text, Number}
use Rattle.cif_defs.specs.declared.raw_module.RawParam.{RawParam}
use Rattle.cif_defs.specs.declared.raw_module.Connection.{Connection}
use Rattle.cif_defs.specs.declared.raw_module.Direction.{Direction}
use Rattle.cif_defs.specs.declared.raw_module.Direction.TheVariants.{Input, Output, Inout}
use Rattle.cif_defs.specs.declared.raw_module.RawPort.{RawPort}
use Rattle.cif_defs.specs.declared.raw_module.RawCell.{RawCell}
use Rattle.cif_defs.specs.declared.raw_module.RawName.{RawName}
use Rattle.cif_defs.specs.declared.raw_module.Raw.{Raw}
use Rattle.cif_json.specs.declared.scalar.TheConstants.{FLOAT_ZERO}
use Rattle.cif_json.specs.WrongPlace.{Place, ◌and_then◌, within, needed, members_of, members_if_any, each}

-- ---- bits

abbrev pub net_of : ℕ → Option RawBit
net_of n = if nat_lt n (2 ^ 32) then Some (Net n) else None

abbrev pub constant_of : List ℕ → Option RawBit
constant_of text = if bytes_eq text (codes "0") then Some Zero else
    if bytes_eq text (codes "1") then Some One else
    if bytes_eq text (codes "x") then Some X else
    if bytes_eq text (codes "z") then Some Z else None

-- a whole number below 2 ^ 32, or one of four texts
abbrev pub bit_of : Data → Option RawBit
bit_of null = None
bit_of (boolean b) = None
bit_of (number n) = option_and_then net_of (as_u64 n)
bit_of (string text) = constant_of text
bit_of (array ds) = None
bit_of (object ms) = None

abbrev pub bits_of_items : Items → Option (List RawBit)
bits_of_items no_items = Some []
bits_of_items (item d ds) = option_and_then (λ b. option_map (λ bs. b ∷ bs) (bits_of_items ds)) (bit_of d)

-- an array of bits
abbrev pub bits_of : Data → Option (List RawBit)
bits_of d = option_and_then bits_of_items (as_array d)

-- ---- parameters and attributes

-- a text, or a whole number
abbrev pub value_of : Data → Option ParamValue
value_of null = None
value_of (boolean b) = None
value_of (number n) = option_map Number (as_integer n)
value_of (string text) = Some (Text text)
value_of (array ds) = None
value_of (object ms) = None

abbrev pub param_of : List ℕ → ParamValue → RawParam
param_of name value = record { name = name; value = value }

abbrev pub parameter : List ℕ → Data → Result RawParam Place
parameter name d = needed (value_of d) and_then (λ value. Ok (param_of name value))

-- attributes before some others, where one of another form is dropped
abbrev pub kept : List ℕ → Option ParamValue → List RawParam → List RawParam
kept name None params = params
kept name (Some value) params = param_of name value ∷ params

abbrev pub attributes_of : Members → List RawParam
attributes_of no_members = []
attributes_of (member name d ms) = kept name (value_of d) (attributes_of ms)

-- ---- the members of an object

-- a member that must be there, by a reading of its own
abbrev pub needed_in : {A : Type 0} → Members → List ℕ → (Data → Option A) → Result A Place
needed_in ms name read = within name (needed (option_and_then read (get_member name ms)))

-- what stands in an object of this name, which may be missing
abbrev pub things_in : {A : Type 0} → Members → List ℕ → (List ℕ → Data → Result A Place) → Result (List A) Place
things_in ms name read = within name (members_if_any (get_member name ms) and_then each read)

abbrev pub attributes_in : Members → Result (List RawParam) Place
attributes_in ms = within (codes "attributes") (members_if_any (get_member (codes "attributes") ms) and_then (λ found. Ok (attributes_of found)))

abbrev pub is_other_than_zero : Num → Bool
is_other_than_zero (unsigned n) = not (n == 0)
is_other_than_zero (negative z) = not (int_eq z (pos 0))
is_other_than_zero (float x) = ne x FLOAT_ZERO

-- a number other than zero
abbrev pub is_set : Option Num → Bool
is_set None = false
is_set (Some n) = is_other_than_zero n

abbrev pub is_hidden : Members → Bool
is_hidden ms = is_set (option_and_then as_number (get_member (codes "hide_name") ms))

-- ---- ports, cells and named nets

abbrev pub direction_of_text : List ℕ → Option Direction
direction_of_text text = if bytes_eq text (codes "input") then Some Input else
    if bytes_eq text (codes "output") then Some Output else
    if bytes_eq text (codes "inout") then Some Inout else None

abbrev pub direction_of : Data → Option Direction
direction_of d = option_and_then direction_of_text (as_str d)

abbrev pub port : List ℕ → Data → Result RawPort Place
port name d =
    members_of d and_then (λ ms.
    needed_in ms (codes "direction") direction_of and_then (λ direction.
    needed_in ms (codes "bits") bits_of and_then (λ bits.
    Ok (record { name = name; direction = direction; bits = bits }))))

abbrev pub connection : List ℕ → Data → Result Connection Place
connection name d = needed (bits_of d) and_then (λ bits. Ok (record { name = name; bits = bits }))

abbrev pub cell : List ℕ → Data → Result RawCell Place
cell name d =
    members_of d and_then (λ ms.
    needed_in ms (codes "type") as_str and_then (λ kind.
    things_in ms (codes "parameters") parameter and_then (λ parameters.
    attributes_in ms and_then (λ attributes.
    things_in ms (codes "connections") connection and_then (λ connections.
    Ok (record {
      name = name;
      hide = is_hidden ms;
      kind = kind;
      parameters = parameters;
      attributes = attributes;
      connections = connections;
    }))))))

abbrev pub named_net : List ℕ → Data → Result RawName Place
named_net name d =
    members_of d and_then (λ ms.
    needed_in ms (codes "bits") bits_of and_then (λ bits.
    attributes_in ms and_then (λ attributes.
    Ok (record { name = name; hide = is_hidden ms; bits = bits; attributes = attributes }))))

-- ---- a module

unfoldable pub module_of : List ℕ → Data → Result Raw Place
module_of name d =
    members_of d and_then (λ ms.
    attributes_in ms and_then (λ attributes.
    things_in ms (codes "ports") port and_then (λ ports.
    things_in ms (codes "cells") cell and_then (λ cells.
    things_in ms (codes "netnames") named_net and_then (λ names.
    Ok (record { «module» = name; attributes = attributes; ports = ports; cells = cells; names = names }))))))
