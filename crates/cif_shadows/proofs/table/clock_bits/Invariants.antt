use Rattle.std.proofs.Common.{◌≡◌, map, take}
use Rattle.cif_defs.specs.Accepted.{netlist_of}
use Rattle.cif_stimulus.specs.Fitting.{is_clock_driver}
use Rattle.cif_shadows.proofs.table.clock_bits.Given as goal

abbrev pub invariant-loop-bit : goal.invariant-loop-bit
invariant-loop-bit l = l.clocks.items ≡ map is_clock_driver (take l.bit (netlist_of l.netlist).drivers)
