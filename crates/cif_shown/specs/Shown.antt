-- Which net bits show what their drivers give, while the cells of a cycle are evaluated.
use Rattle.std.specs.Prelude.{ℕ, ◌<◌, ◌≤◌, ◌≡◌, ◌⊎◌, Bool, true, false, List, [], length, get_or, if◌then◌else◌}
use Rattle.cif_defs.specs.Words.{Word, bit}
use Rattle.cif_defs.specs.Evaluation.{is_of_cell}
use Rattle.cif_defs.specs.Loop.{counts, is_passing}
use Rattle.cif_defs.specs.Netlist.{Netlist, cell_at, driver_of, operand_at, role_at}
use Rattle.cif_defs.specs.declared.nets.Src.TheVariants.{Bit}
use Rattle.cif_defs.specs.Run.{driver_value, stored_by}
use Rattle.cif_defs.specs.TaintRun.{TaintState, driver_taint, flag_by, taint_stored_by}
use Rattle.cif_readers.specs.Reads.{Notes}
use Rattle.cif_defs.specs.declared.kinds.Role.{Role}
use Rattle.cif_defs.specs.declared.kinds.Role.TheVariants.{CarriedOver, Combinational, MemoryBlock, PlainRegister, ResetRegister}
use Rattle.cif_defs.specs.declared.nets.Driver.{Driver}
use Rattle.cif_defs.specs.declared.nets.Driver.TheVariants.{Input, Output, Register, Read, Clock}

-- what is given to the net bits in a cycle: what the cells store, with taints and flags, what the input ports hold, with its
-- taint, and which bits are released
pub record Given : Type 0 where
  pub stored : List Word
  pub state : TaintState
  pub input : ℕ → ℕ → Bool
  pub taint_input : ℕ → ℕ → Bool
  pub released : ℕ → Bool

-- what the driver of a net bit gives under values of the net bits
abbrev pub value_given : Netlist → Given → (ℕ → Bool) → ℕ → Bool
value_given n g v b = driver_value n g.stored g.input v (driver_of n b)

-- the taint of it, under values and taints
abbrev pub taint_given : Netlist → Given → (ℕ → Bool) → (ℕ → Bool) → ℕ → Bool
taint_given n g v t b = if g.released b then false else driver_taint n g.stored v g.state g.taint_input t (driver_of n b)

-- a net bit shows what its driver gives
pub record Shows (n : Netlist) (g : Given) (values taints : List Bool) (b : ℕ) : Type 0 where
  pub value : bit values b ≡ value_given n g (bit values) b
  pub taint : bit taints b ≡ taint_given n g (bit values) (bit taints) b

-- a net bit is driven by a marked cell that stands among the cells from a place on
pub record Waits (n : Netlist) (cells : List ℕ) (from : ℕ) (marks : List Bool) (b : ℕ) : Type 0 where
  pub place : ℕ
  pub not_passed : from ≤ place
  pub inside : place < length cells
  pub drives : is_of_cell (get_or cells place 0) (driver_of n b) ≡ true
  pub marked : bit marks (get_or cells place 0) ≡ true

-- each net bit that is covered shows what its driver gives, or is driven by a marked cell that is still to come
unfoldable pub AreShown : (ℕ → Bool) → Netlist → Given → List ℕ → ℕ → List Bool → List Bool → List Bool → Type 0
AreShown covered n g cells from marks values taints = (b : ℕ) → covered b ≡ true → Shows n g values taints b ⊎ Waits n cells from marks b

-- all net bits are covered
abbrev pub all_bits : ℕ → Bool
all_bits b = true

-- ---- the cells that are evaluated

-- cell c stands before cell d in an order
pub record StandsBefore (order : List ℕ) (c d : ℕ) : Type 0 where
  pub place : ℕ
  pub later : ℕ
  pub before : place < later
  pub inside : later < length order
  pub is : get_or order place 0 ≡ c
  pub other : get_or order later 0 ≡ d

-- passing cells that stand as in an order, and drive each covered bit that a passing cell drives
pub record CoverBits (n : Netlist) (order cells : List ℕ) (covered : ℕ → Bool) : Type 0 where
  pub passing : (i : ℕ) → i < length cells → is_passing (role_at n (get_or cells i 0)) ≡ true
  pub rising : (i j : ℕ) → i < j → j < length cells → StandsBefore order (get_or cells i 0) (get_or cells j 0)
  pub drive : (b c : ℕ) → covered b ≡ true → is_of_cell c (driver_of n b) ≡ true → is_passing (role_at n c) ≡ true → (i : ℕ) × (i < length cells) × (get_or cells i 0 ≡ c)

-- what is covered is worked out from what is covered: so is each operand bit that counts of a cell that drives a covered bit
unfoldable pub AreClosed : Netlist → (ℕ → Bool) → Type 0
AreClosed n covered = (b c q j x : ℕ) → covered b ≡ true → is_of_cell c (driver_of n b) ≡ true → counts (role_at n c) (cell_at n c) q ≡ true → operand_at (cell_at n c) q j ≡ Bit x → covered x ≡ true

-- two values, or two taints, of the net bits are the same at each operand bit that counts of a cell
unfoldable pub SameAtOperands : Netlist → ℕ → (ℕ → Bool) → (ℕ → Bool) → Type 0
SameAtOperands n c u v = (q j x : ℕ) → counts (role_at n c) (cell_at n c) q ≡ true → operand_at (cell_at n c) q j ≡ Bit x → u x ≡ v x

-- ---- the bits that no passing cell drives

abbrev pub is_plain : Role → Bool
is_plain PlainRegister = true
is_plain Combinational = false
is_plain ResetRegister = false
is_plain MemoryBlock = false
is_plain CarriedOver = false

abbrev pub is_source_by : Netlist → Driver → Bool
is_source_by n (Input p i) = true
is_source_by n (Register c i) = is_plain (role_at n c)
is_source_by n (Output c p i) = false
is_source_by n (Read c r i) = false
is_source_by n Clock = false

-- a net bit of an input port, or of a register without asynchronous reset
abbrev pub is_source : Netlist → ℕ → Bool
is_source n b = is_source_by n (driver_of n b)

-- a net bit stands in a list from a place on
pub record StandsFrom (bits : List ℕ) (from b : ℕ) : Type 0 where
  pub place : ℕ
  pub not_passed : from ≤ place
  pub inside : place < length bits
  pub here : get_or bits place 0 ≡ b

-- the sources of a netlist: each of them once or more, and no other bit
pub record AreSources (n : Netlist) (sources : List ℕ) : Type 0 where
  pub each : (b : ℕ) → is_source n b ≡ true → StandsFrom sources 0 b
  pub only : (i : ℕ) → i < length sources → is_source n (get_or sources i 0) ≡ true
  pub inside : (i : ℕ) → i < length sources → get_or sources i 0 < length n.drivers

-- the sources among the net bits below a number
pub record AreSourcesBelow (n : Netlist) (sources : List ℕ) (end : ℕ) : Type 0 where
  pub each : (b : ℕ) → b < end → is_source n b ≡ true → StandsFrom sources 0 b
  pub only : (i : ℕ) → i < length sources → is_source n (get_or sources i 0) ≡ true
  pub inside : (i : ℕ) → i < length sources → get_or sources i 0 < length n.drivers

-- what may give something else than in the cycle before, by marks of the cells: an input port, or a register that is marked
abbrev pub is_open_by : List Bool → Driver → Bool
is_open_by marks (Input p i) = true
is_open_by marks (Register c i) = bit marks c
is_open_by marks (Output c p i) = false
is_open_by marks (Read c r i) = false
is_open_by marks Clock = false

abbrev pub is_open : Netlist → List Bool → ℕ → Bool
is_open n marks b = is_open_by marks (driver_of n b)

-- a source that may change and is still to come
pub record IsToCome (n : Netlist) (sources : List ℕ) (from : ℕ) (marks : List Bool) (b : ℕ) : Type 0 where
  pub stands : StandsFrom sources from b
  pub is_open : is_open n marks b ≡ true

-- while the sources are set: a covered bit shows what its driver gives, is driven by a marked cell, or is a source to come
unfoldable pub AreBegun : (ℕ → Bool) → Netlist → Given → List ℕ → List ℕ → ℕ → List Bool → List Bool → List Bool → Type 0
AreBegun covered n g cells sources from marks values taints = (b : ℕ) → covered b ≡ true → Shows n g values taints b ⊎ (Waits n cells 0 marks b ⊎ IsToCome n sources from marks b)

-- a source that may change
pub record MayChange (n : Netlist) (marks : List Bool) (b : ℕ) : Type 0 where
  pub source : is_source n b ≡ true
  pub is_open : is_open n marks b ≡ true

-- before the sources are set: a covered bit shows what its driver gives, is driven by a marked cell, or is a source that may change
unfoldable pub MayBegin : (ℕ → Bool) → Netlist → Given → List ℕ → List Bool → List Bool → List Bool → Type 0
MayBegin covered n g cells marks values taints = (b : ℕ) → covered b ≡ true → Shows n g values taints b ⊎ (Waits n cells 0 marks b ⊎ MayChange n marks b)

-- ---- from cycle to cycle

-- what a cell stores next is what it stores
pub record Rests (n : Netlist) (g : Given) (values taints : List Bool) (c : ℕ) : Type 0 where
  pub value : stored_by (role_at n c) (cell_at n c) (bit values) (get_or g.stored c []) ≡ get_or g.stored c []
  pub taint : taint_stored_by (role_at n c) (cell_at n c) (bit values) (bit taints) (get_or g.stored c []) (get_or g.state.stored c []) ≡ get_or g.state.stored c []
  pub flag : flag_by (role_at n c) (cell_at n c) (bit values) (bit taints) (get_or g.state.flags c false) ≡ get_or g.state.flags c false

-- each cell that isn't marked rests
unfoldable pub AreResting : Netlist → Given → List Bool → List Bool → List Bool → Type 0
AreResting n g values taints marks = (c : ℕ) → bit marks c ≡ false → Rests n g values taints c

-- what a cell stores after a cycle with these values and taints is what it then stores next
pub record Follows (n : Netlist) (before after : Given) (values taints : List Bool) (c : ℕ) : Type 0 where
  pub value : get_or after.stored c [] ≡ stored_by (role_at n c) (cell_at n c) (bit values) (get_or before.stored c [])
  pub taint : get_or after.state.stored c [] ≡ taint_stored_by (role_at n c) (cell_at n c) (bit values) (bit taints) (get_or before.stored c []) (get_or before.state.stored c [])
  pub flag : get_or after.state.flags c false ≡ flag_by (role_at n c) (cell_at n c) (bit values) (bit taints) (get_or before.state.flags c false)

-- each cell that isn't marked stores what it stored before
pub record KeepsAt (before after : Given) (c : ℕ) : Type 0 where
  pub value : get_or after.stored c [] ≡ get_or before.stored c []
  pub taint : get_or after.state.stored c [] ≡ get_or before.state.stored c []
  pub flag : get_or after.state.flags c false ≡ get_or before.state.flags c false

unfoldable pub AreKept : Given → Given → List Bool → Type 0
AreKept before after marks = (c : ℕ) → bit marks c ≡ false → KeepsAt before after c

-- ---- what is kept, cell by cell

-- each cell that drives a covered bit, and isn't marked, stores what it stored before
unfoldable pub AreKeptWhere : (ℕ → Bool) → Netlist → Given → Given → List Bool → Type 0
AreKeptWhere covered n before after marks = (b c : ℕ) → covered b ≡ true → is_of_cell c (driver_of n b) ≡ true → bit marks c ≡ false → KeepsAt before after c

-- whatever changes from here, with each reader of a bit that changes marked: each cell that isn't marked then rests
unfoldable pub WillRest : Netlist → Given → List Bool → List Bool → List Bool → Type 0
WillRest n g values taints marks = (new_values new_taints new_marks : List Bool) → Notes n values taints new_values new_taints marks new_marks → AreResting n g new_values new_taints new_marks
