use Rattle.std.proofs.Common.{ℕ, List, ◌+◌, length}
use Rattle.cif_defs.specs.Accepted.{netlist_of}
use Rattle.cif_defs.specs.Loop.{IsLevelled}
use Rattle.cif_parts.specs.Listing.{IsListed}
use Rattle.cif_parts.proofs.list.push_others.Given as goal

abbrev pub invariant-loop-number : goal.invariant-loop-number
invariant-loop-number l = (order : List ℕ) → IsLevelled (netlist_of l.netlist) order → IsListed (netlist_of l.netlist) order l.marks l.fn.cells.items (length order) → IsListed (netlist_of l.netlist) order l.marks l.cells.items (length order + l.number)
