-- Ranks of cells: where a netlist has no loop, its cells stand one above another.
use Rattle.std.specs.Prelude.{ℕ, ◌<◌, ◌≡◌, true, length}
use Rattle.cif_defs.specs.Order.{IsInOrder}
use Rattle.cif_defs.specs.Accepted.{netlist_of}
use Rattle.cif_defs.specs.Loop.{Drives, is_passing}
use Rattle.cif_defs.specs.Netlist.{Netlist, IsWired, role_at}
use Rattle.cif_defs.specs.declared.raw_module.Raw.{Raw}
use Rattle.cif_checks.specs.Checks.{IsWellFormed}

-- ranks that rise from a cell to each that it drives, below the number of cells
pub record AreRanks (n : Netlist) (r : ℕ → ℕ) : Type 0 where
  pub rise : (c d : ℕ) → Drives n c d → r c < r d
  pub low : (c : ℕ) → is_passing (role_at n c) ≡ true → r c < length n.cells

-- a module that has runs by net numbers and names: well formed, in order, wired, and without a loop
pub record IsRunnable (raw : Raw) (r : ℕ → ℕ) : Type 0 where
  pub form : IsWellFormed raw
  pub in_order : IsInOrder raw
  pub wired : IsWired (netlist_of raw)
  pub ranks : AreRanks (netlist_of raw) r
