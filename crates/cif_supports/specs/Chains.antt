-- Chains: the way a taint took, from an input or a first state to a net bit.
use Rattle.std.specs.Prelude.{ℕ, zero, suc, ◌-◌, ◌<◌, ◌≡◌, Bool, true, false, ◌==◌, List, [], map, length, get_or, Contains, find, Some}
use Rattle.cif_defs.specs.Fitted.{IsFitted}
use Rattle.cif_defs.specs.Loop.{IsLevelled}
use Rattle.cif_defs.specs.Netlist.{IsWired, Netlist, cell_at, role_at, driver_of}
use Rattle.cif_defs.specs.Stimulus.{Stimulus}
use Rattle.cif_defs.specs.Run.{value}
use Rattle.cif_defs.specs.TaintRun.{taint}
use Rattle.cif_supports.specs.declared.places.Place.{Place}
use Rattle.cif_supports.specs.declared.places.Place.TheVariants.{Input, State, Word, Flag, Out}
use Rattle.cif_supports.specs.declared.places.Member.{Member}
use Rattle.cif_supports.specs.Places.{driving_place, is_tainted}
use Rattle.cif_supports.specs.Supports.{shown_support, stored_support}

-- what the laws of chains rest on: each driver names the place of its bit, each passing cell stands after those that drive it,
-- and ports have the widths of their table
pub record IsRunnable (n : Netlist) (order : List ℕ) : Type 0 where
  pub wired : IsWired n
  pub levelled : IsLevelled n order
  pub fitted : (c : ℕ) → c < length n.cells → IsFitted (cell_at n c)

-- ---- members: places in a cycle

abbrev pub at_cycle : ℕ → Place → Member
at_cycle k place = record { cycle = k; place = place }

-- stands for a member past the end
abbrev pub no_member : Member
no_member = at_cycle 0 (Input 0 0)

abbrev pub is_tainted_member : Netlist → Stimulus → Member → Bool
is_tainted_member n s m = is_tainted n s m.cycle m.place

-- a taint begins at an input bit, or at a bit that is stored at cycle 0
abbrev pub is_beginning : ℕ → Place → Bool
is_beginning k (Input p i) = true
is_beginning k (State c i) = k == 0
is_beginning k (Word c address i) = k == 0
is_beginning k (Flag c) = false
is_beginning k (Out c p i) = false

-- the support of a place at cycle k: of an output bit in the same cycle, of a stored bit or a flag in the cycle before
unfoldable pub support : Netlist → Stimulus → ℕ → Place → List Member
support n s k (Out c p i) = map (at_cycle k) (shown_support (role_at n c) n (value n s k) c i)
support n s zero place = []
support n s (suc k) place = map (at_cycle k) (stored_support n (value n s k) (taint n s k) place)

abbrev pub support_of : Netlist → Stimulus → Member → List Member
support_of n s m = support n s m.cycle m.place

-- ---- chains

-- a chain to net bit b at cycle k
pub record IsChain (n : Netlist) (s : Stimulus) (b k : ℕ) (chain : List Member) : Type 0 where
  pub not_empty : 0 < length chain
  pub tainted : (j : ℕ) → j < length chain → is_tainted_member n s (get_or chain j no_member) ≡ true
  pub begins : is_beginning (get_or chain 0 no_member).cycle (get_or chain 0 no_member).place ≡ true
  -- each member but the first follows a member of its support
  pub follows : (j : ℕ) → suc j < length chain → Contains (support_of n s (get_or chain (suc j) no_member)) (get_or chain j no_member)
  -- the last is what drives the bit
  pub ends_at : (get_or chain (length chain - 1) no_member).cycle ≡ k
  pub ends : driving_place n (driver_of n b) ≡ Some (get_or chain (length chain - 1) no_member).place

-- the chain that takes, going backward, the first tainted place of each support
pub record IsFirstChain (n : Netlist) (s : Stimulus) (b k : ℕ) (chain : List Member) : Type 0 where
  pub is_chain : IsChain n s b k chain
  pub takes_first : (j : ℕ) → suc j < length chain → find (is_tainted_member n s) (support_of n s (get_or chain (suc j) no_member)) ≡ Some (get_or chain j no_member)
