-- What code answers where a reading is defined: the same, but for want of memory.
use Rattle.std.specs.Prelude.{ℕ, ◌≡◌, List, ◌∷◌, ◌++◌, codes, Some, None, Result, Ok, Err, IsUtf8}
use Rattle.serde_json.specs.Data.{Data}
use Rattle.serde_json.specs.Read.{read}
use Rattle.cif_defs.specs.declared.raw_module.Raw.{Raw}
use Rattle.cif_json.specs.declared.misfit.Misfit.{Misfit}
use Rattle.cif_json.specs.declared.misfit.Misfit.TheVariants.{At, NoMemory}
use Rattle.cif_json.specs.declared.fault.JsonFault.{JsonFault}
use Rattle.cif_json.specs.declared.fault.JsonFault.TheVariants.{BadJson, NoModules, NoTop, BadShape, Memory}
use Rattle.cif_json.specs.WrongPlace.{Place, slash}
use Rattle.cif_json.specs.Top.{netlist_of}

-- the answer is the reading, or there was no memory
abbrev pub Answers : {A : Type 0} → Result A Misfit → Result A Place → Type 0
Answers (Ok x) reading = reading ≡ Ok x
Answers (Err (At place)) reading = reading ≡ Err place
Answers (Err NoMemory) reading = Unit {0}

-- a misfit of a value that has another under a name
abbrev pub IsBelow : List ℕ → Misfit → Misfit → Type 0
IsBelow name (At place) (At path) = path ≡ slash ∷ name ++ place
IsBelow name NoMemory (At path) = ⊥
IsBelow name misfit NoMemory = Unit {0}

-- the fault of a module with a misfit
abbrev pub IsFaultOf : Misfit → JsonFault → Type 0
IsFaultOf (At place) (BadShape path) = path ≡ codes "modules" ++ place
IsFaultOf misfit Memory = Unit {0}
IsFaultOf misfit fault = ⊥

-- the fault is what the value of a file comes to; want of memory says nothing of it
abbrev pub IsFirst : Result Raw JsonFault → JsonFault → Type 0
IsFirst outcome BadJson = ⊥
IsFirst outcome Memory = Unit {0}
IsFirst outcome fault = outcome ≡ Err fault

-- the bytes are UTF-8 and read as d
abbrev pub ReadsAs : List ℕ → Data → Type 0
ReadsAs bytes d = IsUtf8 bytes × (read bytes ≡ Some d)

-- the bytes have no reading
abbrev pub HasNoReading : List ℕ → Type 0
HasNoReading bytes = IsUtf8 bytes → read bytes ≡ None

-- why bytes aren't read as JSON
abbrev pub IsUnread : List ℕ → JsonFault → Type 0
IsUnread bytes BadJson = HasNoReading bytes
IsUnread bytes Memory = Unit {0}
IsUnread bytes fault = ⊥

-- the bytes are JSON, and what they say comes to this
abbrev pub ComesTo : List ℕ → Result Raw JsonFault → Type 0
ComesTo bytes outcome = (d : Data) × ReadsAs bytes d × (netlist_of d ≡ outcome)

-- the bytes are refused with this fault; want of memory says nothing of them
abbrev pub IsRefused : List ℕ → JsonFault → Type 0
IsRefused bytes BadJson = HasNoReading bytes
IsRefused bytes NoModules = ComesTo bytes (Err NoModules)
IsRefused bytes NoTop = ComesTo bytes (Err NoTop)
IsRefused bytes (BadShape path) = ComesTo bytes (Err (BadShape path))
IsRefused bytes Memory = Unit {0}
