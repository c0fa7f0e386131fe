-- A module that is built to augment an accepted one is well formed.
use Rattle.std.specs.Prelude.{ℕ, List}
use Rattle.cif_defs.specs.Accepted.{netlist_of}
use Rattle.cif_defs.specs.Loop.{IsLevelled}
use Rattle.cif_defs.specs.declared.raw_module.Raw.{Raw}
use Rattle.cif_checks.specs.Checks.{IsAccepted, IsWellFormed}
use Rattle.cif_built.specs.Built.{IsBuilt}
use Rattle.cif_built_form.proofs.Checked.{checked, well_formed}
use Rattle.cif_built_form.proofs.Ports.{ports_pass}
use Rattle.cif_built_form.proofs.Cells.{cells_pass}
use Rattle.cif_built_form.proofs.Drivers.{drivers_pass}
use Rattle.cif_built_form.proofs.ClockChecks.{clocks_pass}
use Rattle.cif_built_form.proofs.ReadBits.{operands_pass, shown_pass}
use Rattle.cif_built_form.proofs.Inits.{inits_pass}

pub built_form : (n a : Raw) (released order : List ℕ) → IsAccepted n → IsLevelled (netlist_of n) order → IsBuilt n released a → IsWellFormed a
built_form n a released order accepted levelled b =
    let h = checked n accepted in
    well_formed a (record {
      ports = ports_pass n released a b h.ports h.drivers;
      cells = cells_pass n released a b h.cells;
      drivers = drivers_pass n released a b h.drivers;
      clocks = clocks_pass n released a b h order levelled;
      operands = operands_pass n released a b h order levelled;
      shown = shown_pass n released a b h order levelled;
      inits = inits_pass n released a b h.inits;
    })
