-- A module that is built to augment another: what stands in it, which bits hold the taints, and what its new cells read and
-- compute. That it augments the other is a law on what is said here.
use Rattle.std.specs.Prelude.{ℕ, ◌≡◌, Bool, true, false, ◌==◌, List, ◌++◌, map, get_or, Contains, IsPermutation, Some}
use Rattle.std.specs.List.{flat_map, list_all, list_any, zip, AllByRecursion, AllZip}
use Rattle.std.specs.List.Sorted.{IsSortedByKey}
use Rattle.std.specs.Ordering.{nat_cmp}
use Rattle.std.specs.Cmp.Lexicographic.{slice_cmp}
use Rattle.cif_defs.specs.Table.{kind_of}
use Rattle.cif_defs.specs.RawModule.{operand_bits, output_bits, net_numbers, is_net}
use Rattle.cif_defs.specs.Accepted.{is_clock, is_input, is_output, no_bit, place_of}
use Rattle.cif_defs.specs.declared.kinds.Kind.{Kind}
use Rattle.cif_defs.specs.declared.raw_module.RawBit.{RawBit}
use Rattle.cif_defs.specs.declared.raw_module.RawBit.TheVariants.{Net, Zero}
use Rattle.cif_defs.specs.declared.raw_module.RawPort.{RawPort}
use Rattle.cif_defs.specs.declared.raw_module.RawCell.{RawCell}
use Rattle.cif_defs.specs.declared.raw_module.RawName.{RawName}
use Rattle.cif_defs.specs.declared.raw_module.Raw.{Raw}
use Rattle.cif_augment.specs.Names.{data_ports}
use Rattle.cif_augment.specs.Additions.{IsTaintPort, IsBlock, block_cells, net_of_port, nets_of_block, new_numbers, standing_numbers}
use Rattle.cif_emit.specs.Emitted.{IsPlainCell, ReadInOrder, are_known, drives}
use Rattle.cif_emit.specs.Makers.{RiseBetween}
use Rattle.cif_built.specs.Makings.{Making, IsStateCell, block_of, known_for_showing, known_for_storing, state_cells, taint_bits}
use Rattle.cif_built.specs.Computing.{ShowsTaint, StoresTaint}

-- whether the net bit of a number is among the released ones
abbrev pub is_cleared : Raw → List ℕ → ℕ → Bool
is_cleared n released x = list_any (λ d. d == place_of (net_numbers n) x) released

-- ---- ports

-- q shows the taint of port p, as the table has it: at an input it is what the table has, at an output it takes it from there
pub record IsShadowPort (n : Raw) (released : List ℕ) (shadow : ℕ → RawBit) (p q : RawPort) : Type 0 where
  pub port : IsTaintPort p q
  pub nets : is_input p ≡ true → list_all is_net q.bits ≡ true
  pub input : (i x : ℕ) → is_input p ≡ true → get_or p.bits i no_bit ≡ Net x → is_cleared n released x ≡ false → shadow x ≡ get_or q.bits i no_bit
  pub output : is_output p ≡ true → q.bits ≡ taint_bits shadow p.bits

-- ---- cells

-- new cells of a cell of kind k: they read what they may, show and store the taint
pub record IsMakingAs (cleared : ℕ → Bool) (shadow : ℕ → RawBit) (c : RawCell) (k : Kind) (m : Making) : Type 0 where
  -- those that compute what is shown are before those that compute what is stored, each after those that it reads
  pub reads_for_showing : ReadInOrder (known_for_showing shadow c k m) m.showing
  pub reads_for_storing : ReadInOrder (known_for_storing shadow c m) m.storing
  pub stored : (d : RawCell) → Contains (state_cells m) d → are_known (known_for_storing shadow c m ++ flat_map drives m.storing) (operand_bits d) ≡ true
  pub shown : are_known (known_for_showing shadow c k m ++ flat_map drives m.showing) (taint_bits shadow (output_bits c)) ≡ true
  pub shows : ShowsTaint cleared shadow c k m
  pub stores : StoresTaint shadow c k m

pub record IsMaking (n : Raw) (released : List ℕ) (shadow : ℕ → RawBit) (c : RawCell) (m : Making) : Type 0 where
  pub block : IsBlock n c (block_of m)
  pub plain : AllByRecursion IsPlainCell (m.showing ++ m.storing)
  pub state : AllByRecursion IsStateCell (state_cells m)
  pub by_kind : (k : Kind) → kind_of c.kind ≡ Some k → IsMakingAs (is_cleared n released) shadow c k m

-- ---- the module

abbrev pub IsByName : {A : Type 0} → (A → List ℕ) → List A → Type 0
IsByName name_of xs = IsSortedByKey name_of (slice_cmp nat_cmp) xs

pub record IsBuilt (n : Raw) (released : List ℕ) (a : Raw) : Type 0 where
  -- the bit that holds the taint of each net number: none for the clock and for released bits
  pub shadow : ℕ → RawBit
  pub clock : (x : ℕ) → is_clock n x ≡ true → shadow x ≡ Zero
  pub cleared : (x : ℕ) → Contains (net_numbers n) x → is_cleared n released x ≡ true → shadow x ≡ Zero
  -- the ports of taint, and the new cells for each cell
  pub ports : List RawPort
  pub makings : List Making
  pub are_ports : AllZip (IsShadowPort n released shadow) (data_ports n) ports
  pub are_makings : AllZip (IsMaking n released shadow) n.cells makings
  -- what they drive are numbers that rise and that stand nowhere in n
  pub numbers : List ℕ
  pub last : ℕ
  pub rise : RiseBetween (standing_numbers n) 2 last numbers
  pub are_numbers : IsPermutation numbers (new_numbers ports (map block_of makings))
  -- all by name
  pub name : a.module ≡ n.module
  pub attributes : a.attributes ≡ n.attributes
  pub has_ports : IsPermutation (n.ports ++ ports) a.ports
  pub has_cells : IsPermutation (n.cells ++ flat_map block_cells (map block_of makings)) a.cells
  pub has_names : IsPermutation (n.names ++ map net_of_port ports ++ flat_map (nets_of_block n) (zip n.cells (map block_of makings))) a.names
  pub ports_by_name : IsByName (λ (p : RawPort). p.name) a.ports
  pub cells_by_name : IsByName (λ (c : RawCell). c.name) a.cells
  pub names_by_name : IsByName (λ (x : RawName). x.name) a.names
