-- The number and the words of each refusal.
use Rattle.std.specs.Prelude.{ℕ, List, [], ◌∷◌, codes, Option, Some, None}
use Rattle.std.specs.List.{flat_map}
use Rattle.std.specs.Fmt.{decimal}
use Rattle.cif_defs.specs.Text.{coded}
use Rattle.cif_defs.specs.Messages.{refusal_line}
use Rattle.cif_defs.specs.Netlist.{Netlist, cell_at}
use Rattle.cif_checks.specs.declared.fault.Spot.{Spot}
use Rattle.cif_checks.specs.declared.fault.Spot.TheVariants.{Port, CellPort}
use Rattle.cif_checks.specs.declared.fault.BuildFault.{BuildFault}
use Rattle.cif_checks.specs.declared.fault.BuildFault.TheVariants.{UnsupportedCell, MissingPort, WidthMismatch, WidthLimit, BadParameter, XOperand, MultiDriven, Undriven, ConstantOutput, TwoClocks, ClockAsData, InoutPort, InitConflict, MemoryForm, TooManyCells, TooManyBits, ZeroWidth, NoClockInput, PortClash, Memory}
use Rattle.cif_json.specs.declared.fault.JsonFault.{JsonFault}
use Rattle.cif_json.specs.declared.fault.JsonFault.TheVariants.{BadJson, NoModules, NoTop, BadShape, Memory as NoMemory}
use Rattle.cif_stimulus.specs.declared.fault.StimFault.{StimFault}
use Rattle.cif_stimulus.specs.declared.fault.StimFault.TheVariants.{BadLine, NoSuchName, WrongWidth, NoCycles, TooManyCycles, SetTwice, BadAddress, Memory as NoRoom}
use Rattle.cif_script.specs.declared.fault.ScriptFault.{ScriptFault}
use Rattle.cif_script.specs.declared.fault.ScriptFault.TheVariants as script

pub record Refusal : Type 0 where
  pub number : ℕ
  pub words : List ℕ

-- texts one after another
unfoldable pub joined : List (List ℕ) → List ℕ
joined texts = flat_map (λ text. text) texts

-- the refusal of that number, whose words are these texts one after another
abbrev pub refusal : ℕ → List (List ℕ) → Refusal
refusal number texts = record { number = number; words = joined texts }

-- `refused N: WORDS`
abbrev pub line_of : Refusal → List ℕ
line_of r = refusal_line r.number r.words

-- ---- files

abbrev pub too_long : List ℕ → Refusal
too_long name = refusal 5 (codes "file too long " ∷ coded name ∷ [])

-- want of memory is no refusal
abbrev pub json_refusal : JsonFault → Option Refusal
json_refusal BadJson = Some (refusal 1 (codes "not JSON" ∷ []))
json_refusal NoModules = Some (refusal 2 (codes "no modules" ∷ []))
json_refusal NoTop = Some (refusal 3 (codes "no top module" ∷ []))
json_refusal (BadShape path) = Some (refusal 4 (codes "shape at " ∷ coded path ∷ []))
json_refusal NoMemory = None

-- ---- netlists

-- a port of a cell, or one of the module
abbrev pub port_refusal : ℕ → List ℕ → Spot → Refusal
port_refusal number what (Port port) = refusal number (what ∷ codes " at port " ∷ coded port ∷ [])
port_refusal number what (CellPort cell port) = refusal number (what ∷ codes " at cell " ∷ coded cell ∷ codes " port " ∷ coded port ∷ [])

-- a bit of such a port, where side says which ports of the module it is
abbrev pub bit_refusal : ℕ → List ℕ → List ℕ → Spot → ℕ → Refusal
bit_refusal number what side (Port port) i = refusal number (what ∷ codes " at " ∷ side ∷ codes " port " ∷ coded port ∷ codes " bit " ∷ decimal i ∷ [])
bit_refusal number what side (CellPort cell port) i = refusal number (what ∷ codes " at cell " ∷ coded cell ∷ codes " port " ∷ coded port ∷ codes " bit " ∷ decimal i ∷ [])

-- want of memory is no refusal
abbrev pub build_refusal : BuildFault → Option Refusal
build_refusal (UnsupportedCell cell kind) = Some (refusal 10 (codes "cell " ∷ coded cell ∷ codes " kind " ∷ coded kind ∷ []))
build_refusal (MissingPort cell port) = Some (refusal 11 (codes "no port " ∷ coded port ∷ codes " at cell " ∷ coded cell ∷ []))
build_refusal (WidthMismatch cell port) = Some (refusal 12 (codes "width at cell " ∷ coded cell ∷ codes " port " ∷ coded port ∷ []))
build_refusal (WidthLimit spot) = Some (port_refusal 13 (codes "too wide") spot)
build_refusal (BadParameter cell parameter) = Some (refusal 14 (codes "parameter " ∷ coded parameter ∷ codes " at cell " ∷ coded cell ∷ []))
build_refusal (XOperand spot i) = Some (bit_refusal 15 (codes "x") (codes "output") spot i)
build_refusal (MultiDriven b) = Some (refusal 16 (codes "bit " ∷ decimal b ∷ codes " has two drivers" ∷ []))
build_refusal (Undriven b) = Some (refusal 17 (codes "bit " ∷ decimal b ∷ codes " has no driver" ∷ []))
build_refusal (ConstantOutput spot i) = Some (bit_refusal 18 (codes "constant") (codes "input") spot i)
build_refusal (TwoClocks cell) = Some (refusal 19 (codes "second clock at cell " ∷ coded cell ∷ []))
build_refusal (ClockAsData name) = Some (refusal 20 (codes "clock as data at " ∷ coded name ∷ []))
build_refusal (InoutPort port) = Some (refusal 21 (codes "inout port " ∷ coded port ∷ []))
build_refusal (InitConflict b) = Some (refusal 22 (codes "two initial values for bit " ∷ decimal b ∷ []))
build_refusal (MemoryForm cell) = Some (refusal 23 (codes "memory form at cell " ∷ coded cell ∷ []))
build_refusal (TooManyCells count) = Some (refusal 24 (decimal count ∷ codes " cells" ∷ []))
build_refusal (TooManyBits count) = Some (refusal 25 (decimal count ∷ codes " bits" ∷ []))
build_refusal (ZeroWidth spot) = Some (port_refusal 26 (codes "no bits") spot)
build_refusal (NoClockInput cell) = Some (refusal 27 (codes "no clock input at cell " ∷ coded cell ∷ []))
build_refusal (PortClash b) = Some (refusal 29 (codes "bit " ∷ decimal b ∷ codes " on two inputs" ∷ []))
build_refusal Memory = None

-- the names of some cells, a space before each
abbrev pub names_of : Netlist → List ℕ → List (List ℕ)
names_of n cells = flat_map (λ c. codes " " ∷ coded (cell_at n c).name ∷ []) cells

abbrev pub loop_refusal : Netlist → List ℕ → Refusal
loop_refusal n cells = refusal 30 (codes "loop" ∷ names_of n cells)

-- ---- stimuli

-- want of memory is no refusal
abbrev pub stim_refusal : StimFault → Option Refusal
stim_refusal (BadLine line) = Some (refusal 40 (codes "line " ∷ decimal line ∷ []))
stim_refusal (NoSuchName line) = Some (refusal 41 (codes "name at line " ∷ decimal line ∷ []))
stim_refusal (WrongWidth line) = Some (refusal 42 (codes "width at line " ∷ decimal line ∷ []))
stim_refusal NoCycles = Some (refusal 43 (codes "no cycles" ∷ []))
stim_refusal TooManyCycles = Some (refusal 44 (codes "too many cycles" ∷ []))
stim_refusal (SetTwice line) = Some (refusal 45 (codes "set again at line " ∷ decimal line ∷ []))
stim_refusal (BadAddress line) = Some (refusal 46 (codes "address at line " ∷ decimal line ∷ []))
stim_refusal NoRoom = None

-- ---- scripts of sessions

-- want of memory is no refusal
abbrev pub script_refusal : ScriptFault → Option Refusal
script_refusal (script.BadLine line) = Some (refusal 60 (codes "line " ∷ decimal line ∷ []))
script_refusal (script.NoSuchName line) = Some (refusal 61 (codes "name at line " ∷ decimal line ∷ []))
script_refusal (script.NotTwoValued line) = Some (refusal 62 (codes "no two-valued name at line " ∷ decimal line ∷ []))
script_refusal script.TooManySessions = Some (refusal 63 (codes "too many sessions" ∷ []))
script_refusal (script.SameName line) = Some (refusal 64 (codes "session again at line " ∷ decimal line ∷ []))
script_refusal script.ScriptTooLarge = Some (refusal 65 (codes "script too large" ∷ []))
script_refusal script.Memory = None
