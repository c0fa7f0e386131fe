-- Modules that have runs: an accepted one, and one that is well formed and whose cells have ranks.
use Rattle.std.specs.Prelude.{ℕ}
use Rattle.cif_defs.specs.Accepted.{netlist_of}
use Rattle.cif_defs.specs.Order.{IsInOrder}
use Rattle.cif_defs.specs.declared.raw_module.Raw.{Raw}
use Rattle.cif_checks.specs.Checks.{IsAccepted, IsWellFormed}
use Rattle.cif_cells.proofs.CountLaws.{accepted_apart}
use Rattle.cif_nets.proofs.Passed.{passes_form}
use Rattle.cif_nets.proofs.Wired.{wired_if_passed}
use Rattle.cif_raw_runs.specs.Ranks.{AreRanks, IsRunnable}

pub accepted_form : (n : Raw) → IsAccepted n → IsWellFormed n
accepted_form n accepted = ((accepted_apart n).0 accepted).1

pub runs_by_ranks : (a : Raw) (r : ℕ → ℕ) → IsWellFormed a → IsInOrder a → AreRanks (netlist_of a) r → IsRunnable a r
runs_by_ranks a r form in_order ranks = record { form = form; in_order = in_order; wired = wired_if_passed a (passes_form a form); ranks = ranks }
