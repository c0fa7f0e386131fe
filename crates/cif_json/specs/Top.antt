-- Which module of a netlist file is read, and what the file stands for.
use Rattle.std.specs.Prelude.{ℕ, ◌==◌, Bool, true, false, not, List, [], ◌∷◌, ◌++◌, codes, Option, Some, None, option_and_then, ok_or, Result, Ok, Err, if◌then◌else◌}
use Rattle.serde_json.specs.Data.{Data, Members, no_members, member}
use Rattle.serde_json.specs.Find.{get, get_member, as_object}
use Rattle.cif_defs.specs.Words.{bit_value}
use Rattle.cif_defs.specs.WordText.{is_no_digit}
use Rattle.cif_defs.specs.RawModule.{needed_number}
use Rattle.cif_defs.specs.declared.raw_module.Raw.{Raw}
use Rattle.cif_json.specs.declared.fault.JsonFault.{JsonFault}
use Rattle.cif_json.specs.declared.fault.JsonFault.TheVariants.{NoModules, NoTop, BadShape}
use Rattle.cif_json.specs.WrongPlace.{Place, ◌and_then◌, within}
use Rattle.cif_json.specs.Shape.{value_of, module_of}

abbrev pub some_members : Members → Option Members
some_members no_members = None
some_members (member name d ms) = Some (member name d ms)

-- the modules of a file, at least one
abbrev pub modules_of : Data → Option Members
modules_of d = option_and_then some_members (option_and_then as_object (option_and_then (get_member (codes "modules")) (as_object d)))

-- the value of a binary digit
abbrev pub binary_digit : ℕ → Option ℕ
binary_digit b = if is_no_digit b then None else Some (bit_value (b == 49))

abbrev pub is_nonzero : Option ℕ → Bool
is_nonzero None = false
is_nonzero (Some n) = not (n == 0)

-- whether a module has an attribute `top` with a number other than 0
unfoldable pub is_top : Data → Bool
is_top d = is_nonzero (option_and_then needed_number (option_and_then value_of (option_and_then (get (codes "top")) (get (codes "attributes") d))))

abbrev pub with_module : Bool → List ℕ × Data → List (List ℕ × Data) → List (List ℕ × Data)
with_module false m tops = tops
with_module true m tops = m ∷ tops

-- the modules that are marked as top
abbrev pub tops_of : Members → List (List ℕ × Data)
tops_of no_members = []
tops_of (member name d ms) = with_module (is_top d) (name, d) (tops_of ms)

abbrev pub only_one : {A : Type 0} → List A → Option A
only_one [] = None
only_one (x ∷ []) = Some x
only_one (x ∷ y ∷ zs) = None

-- the module that is read: the only one, or the only one that is marked as top
abbrev pub chosen : Members → Option (List ℕ × Data)
chosen no_members = None
chosen (member name d no_members) = Some (name, d)
chosen (member name d (member other e ms)) = only_one (tops_of (member name d (member other e ms)))

-- a reading of a module, where a wrong place is named by the way from the file's value
abbrev pub from_file : {A : Type 0} → Result A Place → Result A JsonFault
from_file (Ok x) = Ok x
from_file (Err place) = Err (BadShape (codes "modules" ++ place))

-- what a file's value stands for, or else why not
unfoldable pub netlist_of : Data → Result Raw JsonFault
netlist_of d =
    ok_or (modules_of d) NoModules and_then (λ modules.
    ok_or (chosen modules) NoTop and_then (λ m.
    from_file (within m.0 (module_of m.0 m.1))))
