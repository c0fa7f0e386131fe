-- What the types of the reader hold.
use Rattle.std.specs.Prelude.{ℕ, ◌≡◌, List, Option, Result, Err}
use Rattle.std.specs.BTreeMap.{get_by}
use Rattle.std.specs.Cmp.Lexicographic.{slice_cmp}
use Rattle.std.specs.Ordering.{nat_cmp}
use Rattle.cif_script.specs.Scripts.{ScriptData}
use Rattle.cif_script.specs.ScriptText.{place_of}
use Rattle.cif_script.specs.declared.fault.ScriptFault.{ScriptFault}
use Rattle.cif_script.specs.declared.fault.ScriptFault.TheVariants.{BadLine, NoSuchName, NotTwoValued, TooManySessions, SameName, ScriptTooLarge, Memory}
use Rattle.cif_script.specs.declared.reader.Reader.{Reader}
use Rattle.cif_script.specs.declared.wires.WireTable.{WireTable}

-- a fault is the one that is meant; nothing is said of want of memory
abbrev pub IsFirst : {A : Type 0} → Result A ScriptFault → ScriptFault → Type 0
IsFirst found (BadLine n) = found ≡ Err (BadLine n)
IsFirst found (NoSuchName n) = found ≡ Err (NoSuchName n)
IsFirst found (NotTwoValued n) = found ≡ Err (NotTwoValued n)
IsFirst found TooManySessions = found ≡ Err TooManySessions
IsFirst found (SameName n) = found ≡ Err (SameName n)
IsFirst found ScriptTooLarge = found ≡ Err ScriptTooLarge
IsFirst found Memory = Unit {0}

-- the number that a table has under a name
abbrev pub number_under : WireTable → List ℕ → Option ℕ
number_under table name = get_by (λ k. slice_cmp nat_cmp name k.now) table.numbers

-- each wire has its place as its number
abbrev pub IsTable : WireTable → Type 0
IsTable table = (name : List ℕ) → number_under table name ≡ place_of table.wires.items name

-- what a reader has read
abbrev pub so_far : Reader → ScriptData
so_far reader = record { sessions = reader.sessions.items; wires = reader.table.wires.items }
