-- When a module augments another: it has all of it, and beside it ports that show its taint, whatever the stimulus.
use Rattle.std.specs.Prelude.{ℕ, ◌≤◌, ◌≡◌, Bool, true, false, ◌==◌, List, ◌++◌, map, length, get_or, Contains, IsPermutation}
use Rattle.std.specs.List.{flat_map, list_any, zip, AllZip}
use Rattle.cif_defs.specs.Kinds.{is_register, is_memory}
use Rattle.cif_defs.specs.RawModule.{output_bits, net_numbers, is_net}
use Rattle.cif_defs.specs.Accepted.{netlist_of, no_bit, source, is_output}
use Rattle.cif_defs.specs.Order.{IsInOrder}
use Rattle.cif_defs.specs.Loop.{IsLoop}
use Rattle.cif_defs.specs.Stimulus.{Stimulus}
use Rattle.cif_defs.specs.declared.nets.Src.{Src}
use Rattle.cif_defs.specs.declared.nets.Src.TheVariants.{Bit, Zero, One}
use Rattle.cif_defs.specs.declared.raw_module.RawBit.TheVariants.{Net, Zero as ZeroText}
use Rattle.cif_defs.specs.declared.raw_module.RawPort.{RawPort}
use Rattle.cif_defs.specs.declared.raw_module.RawCell.{RawCell}
use Rattle.cif_defs.specs.declared.raw_module.Raw.{Raw}
use Rattle.cif_checks.specs.Checks.{IsWellFormed, cell_limit}
use Rattle.cif_stimulus.specs.Fitting.{fits_of}
use Rattle.cif_augment.specs.Names.{taint_name, flag_name, data_ports, has_role, has_flag}
use Rattle.cif_augment.specs.Stimuli.{augmented, ReleasesExactly}
use Rattle.cif_raw_runs.specs.Places.{value_at, taint_at, stored_at, stored_taint_at, flag_at}
use Rattle.cif_augment.specs.Additions.{IsTaintPort, net_of_port, Block, block_cells, IsBlock, nets_of_block, IsNewNet, new_numbers}

-- ---- what it holds

-- a has what n has, and beside it a port for the taint of each port but the clock, new cells for each cell, and their
-- netnames
pub record Adds (n a : Raw) : Type 0 where
  -- the ports of taint, one for each port but the clock, and the new cells, a block for each cell
  pub taint_ports : List RawPort
  pub blocks : List Block
  pub are_taint_ports : AllZip IsTaintPort (data_ports n) taint_ports
  pub are_blocks : AllZip (IsBlock n) n.cells blocks
  pub name : a.module ≡ n.module
  pub attributes : a.attributes ≡ n.attributes
  pub ports : IsPermutation (n.ports ++ taint_ports) a.ports
  pub cells : IsPermutation (n.cells ++ flat_map block_cells blocks) a.cells
  pub names : IsPermutation (n.names ++ map net_of_port taint_ports ++ flat_map (nets_of_block n) (zip n.cells blocks)) a.names
  pub in_order : IsInOrder a
  -- what new ports and new cells drive are new nets
  pub nets : (x : ℕ) → Contains (new_numbers taint_ports blocks) x → IsNewNet n x

-- it passes every check of a module but those of its net bits and memory bits, and has no loop
pub record PassesChecks (a : Raw) : Type 0 where
  pub form : IsWellFormed a
  pub few_cells : length a.cells ≤ cell_limit
  pub no_loop : (cells : List ℕ) → ¬ IsLoop (netlist_of a) cells

-- ---- what it shows

-- under stimulus t at cycle k, a shows the values and the taints that n has under s
pub record ShowsTaint (n a : Raw) (s t : Stimulus) (k : ℕ) : Type 0 where
  -- each net bit has its value
  pub values : (x : ℕ) → Contains (net_numbers n) x → value_at a t k (Net x) ≡ value_at n s k (Net x)
  -- the port of a port's name with __t has its taint, bit by bit
  pub taints : (p q : RawPort) → Contains (data_ports n) p → Contains a.ports q → q.name ≡ taint_name p.name
      → map (value_at a t k) q.bits ≡ map (taint_at n s k) p.bits
  -- a register's stored taint stands where its output is connected, and that of a memory everywhere
  pub registers : (c : RawCell) (i : ℕ) → Contains n.cells c → has_role is_register c ≡ true → is_net (get_or (output_bits c) i no_bit) ≡ true
      → stored_at a t k (taint_name c.name) i ≡ stored_taint_at n s k c.name i
  pub memories : (c : RawCell) (i : ℕ) → Contains n.cells c → has_role is_memory c ≡ true
      → stored_at a t k (taint_name c.name) i ≡ stored_taint_at n s k c.name i
  pub flags : (c : RawCell) → Contains n.cells c → has_flag c ≡ true → stored_at a t k (flag_name c.name) 0 ≡ flag_at n s k c.name

-- ---- both

-- a augments n where the net bits of a list are released
pub record Augments (n : Raw) (released : List ℕ) (a : Raw) : Type 0 where
  pub adds : Adds n a
  pub checks : PassesChecks a
  pub shows : (s : Stimulus) (k : ℕ) → fits_of n s ≡ true → ReleasesExactly released s → ShowsTaint n a s (augmented (netlist_of n) s) k

-- ---- besides

abbrev pub is_among_bits : List ℕ → Src → Bool
is_among_bits released (Bit b) = list_any (λ d. d == b) released
is_among_bits released Zero = false
is_among_bits released One = false

-- where an output shows a released bit, the port of its taint has the constant 0
pub record ClearsReleased (n : Raw) (released : List ℕ) (a : Raw) : Type 0 where
  pub constant : (p q : RawPort) (i : ℕ) → Contains (data_ports n) p → Contains a.ports q → q.name ≡ taint_name p.name → is_output p ≡ true
      → is_among_bits released (source (net_numbers n) (get_or p.bits i no_bit)) ≡ true → get_or q.bits i no_bit ≡ ZeroText
