-- What a part begins a cycle with, and which net bits are right once it is run.
use Rattle.std.specs.Prelude.{ℕ, ◌+◌, ◌<◌, ◌≡◌, ◌==◌, ◌++◌, Bool, true, false, List, [], length, get_or, Option, Some, None}
use Rattle.std.specs.List.{list_any}
use Rattle.cif_defs.specs.Words.{Word, bit}
use Rattle.cif_defs.specs.Netlist.{Netlist, cell_at, driver_of, role_at}
use Rattle.cif_defs.specs.Run.{input_value, state, stored_by}
use Rattle.cif_defs.specs.Stimulus.{Stimulus, is_released}
use Rattle.cif_defs.specs.TaintRun.{flag_by, input_taint, taint_state, taint_stored_by}
use Rattle.cif_defs.specs.declared.nets.Driver.{Driver}
use Rattle.cif_defs.specs.declared.nets.Driver.TheVariants.{Input, Output, Register, Read, Clock}
use Rattle.cif_cycle.specs.declared.stored.StoredWords.{StoredWords}
use Rattle.cif_inputs.specs.declared.inputs.Inputs.{Inputs}
use Rattle.cif_readers.specs.Reads.{Notes}
use Rattle.cif_seq.specs.Cases.{CaseOf, FrameOf, net_of}
use Rattle.cif_seq.specs.GivenAt.{given_at}
use Rattle.cif_seq.specs.Inputs.{StandsAt}
use Rattle.cif_seq.specs.Stored.{given_of}
use Rattle.cif_seq.specs.declared.settle.NetBits.{NetBits}
use Rattle.cif_shown.specs.Shown.{CoverBits, Follows, Given, KeepsAt, MayBegin, Rests}
use Rattle.cif_pieces.specs.Parts.{stores}
use Rattle.cif_pieces.specs.Plans.{PlanOf}

-- the cycle after that of a frame; 0 where there is none
abbrev pub cycle_after : Option FrameOf → ℕ
cycle_after None = 0
cycle_after (Some frame) = frame.cycle + 1

-- ---- covered bits

-- a cell stands in a list
abbrev pub is_among : List ℕ → ℕ → Bool
is_among cells c = list_any (λ x. x == c) cells

abbrev pub covers_by : List ℕ → Driver → Bool
covers_by cells (Output c p i) = is_among cells c
covers_by cells (Register c i) = is_among cells c
covers_by cells (Read c r i) = is_among cells c
covers_by cells (Input p i) = true
covers_by cells Clock = true

-- a net bit is that of an input port, or the clock, or driven by a cell of a list
abbrev pub covers : Netlist → List ℕ → ℕ → Bool
covers n cells b = covers_by cells (driver_of n b)

-- ---- what cells store

-- what is given to the net bits in a cycle
abbrev pub given_in : Netlist → Stimulus → ℕ → Given
given_in n s k = record { stored = state n s k; state = taint_state n s k; input = input_value n s k; taint_input = input_taint n s k; released = is_released s.lines }

-- a list has cells of the netlist, each of which stores something
pub record AreStoring (n : Netlist) (cells : List ℕ) : Type 0 where
  pub inside : (i : ℕ) → i < length cells → get_or cells i 0 < length n.cells
  pub storing : (i : ℕ) → i < length cells → stores (role_at n (get_or cells i 0)) ≡ true

-- the cells that a part uses, by a plan: those that it evaluates, and those of which it needs what they store
abbrev pub used_cells : PlanOf → ℕ → List ℕ
used_cells p part = get_or p.evaluated part [] ++ get_or p.needed part []

-- tables of stored words have a place for each cell
pub record HavePlaces (n : Netlist) (stored : StoredWords) : Type 0 where
  pub values : length stored.values.items ≡ length n.cells
  pub taints : length stored.taints.items ≡ length n.cells
  pub flags : length stored.flags.items ≡ length n.cells

-- a cell has nothing in its places
pub record IsClear (stored : StoredWords) (c : ℕ) : Type 0 where
  pub value : get_or stored.values.items c [] ≡ []
  pub taint : get_or stored.taints.items c [] ≡ []
  pub flag : get_or stored.flags.items c false ≡ false

-- so have all cells that store nothing
abbrev pub AreClear : Netlist → StoredWords → Type 0
AreClear n stored = (c : ℕ) → stores (role_at n c) ≡ false → IsClear stored c

-- the first cells of a list, so many, store what they do in a cycle
abbrev pub AreIn : Netlist → Stimulus → ℕ → List ℕ → ℕ → StoredWords → Type 0
AreIn n s k cells end stored = (i : ℕ) → i < end → KeepsAt (given_in n s k) (given_of stored) (get_or cells i 0)

-- a word, its taint and a flag are what a cell stores after a cycle with these values and taints; where it isn't due, they are
-- what it stored
pub record IsNext (n : Netlist) (before : Given) (values taints : List Bool) (c : ℕ) (word word_taint : Word) (flag due : Bool) : Type 0 where
  pub value : word ≡ stored_by (role_at n c) (cell_at n c) (bit values) (get_or before.stored c [])
  pub taint : word_taint ≡ taint_stored_by (role_at n c) (cell_at n c) (bit values) (bit taints) (get_or before.stored c []) (get_or before.state.stored c [])
  pub flag_is : flag ≡ flag_by (role_at n c) (cell_at n c) (bit values) (bit taints) (get_or before.state.flags c false)
  pub same_value : due ≡ false → word ≡ get_or before.stored c []
  pub same_taint : due ≡ false → word_taint ≡ get_or before.state.stored c []
  pub same_flag : due ≡ false → flag ≡ get_or before.state.flags c false

-- a cell stores what it does after a cycle with these values and taints, and what it stored where it isn't marked
pub record IsMoved (n : Netlist) (before after : Given) (values taints marks : List Bool) (c : ℕ) : Type 0 where
  pub follows : Follows n before after values taints c
  pub kept : bit marks c ≡ false → KeepsAt before after c

-- so do the first cells of a list, so many
abbrev pub AreMoved : Netlist → Given → Given → List Bool → List Bool → List Bool → List ℕ → ℕ → Type 0
AreMoved n before after values taints marks cells end = (i : ℕ) → i < end → IsMoved n before after values taints marks (get_or cells i 0)

-- ---- what a part begins with

-- by the cells that it uses: these store what they do in the cycle, the inputs are those of the cycle, the bits that they cover
-- may begin it, and whatever then changes, with each reader of it marked, those that aren't marked rest
pub record BeginsPart (c : CaseOf) (k : ℕ) (used : List ℕ) (stored : StoredWords) (inputs : Inputs) (bits : NetBits) : Type 0 where
  pub places : HavePlaces (net_of c) stored
  pub words : AreIn (net_of c) c.stimulus k used (length used) stored
  pub at : StandsAt (net_of c) c.stimulus k inputs
  pub as_many_values : length bits.values.items ≡ length (net_of c).drivers
  pub as_many_taints : length bits.taints.items ≡ length (net_of c).drivers
  pub as_many_marks : length bits.marks.items ≡ length (net_of c).cells
  pub begins : (cells : List ℕ) → CoverBits (net_of c) c.order cells (covers (net_of c) used)
      → MayBegin (covers (net_of c) used) (net_of c) (given_at c stored inputs) cells bits.marks.items bits.values.items bits.taints.items
  pub resting : (values taints marks : List Bool) (i : ℕ) → Notes (net_of c) bits.values.items bits.taints.items values taints bits.marks.items marks
      → i < length used → bit marks (get_or used i 0) ≡ false → Rests (net_of c) (given_of stored) values taints (get_or used i 0)
