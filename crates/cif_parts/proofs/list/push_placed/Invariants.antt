use Rattle.cif_defs.specs.Loop.{IsLevelled}
use Rattle.cif_defs.specs.Netlist.{Netlist}
use Rattle.cif_parts.specs.Listing.{IsListed}
use Rattle.cif_parts.proofs.list.push_placed.Given as goal

abbrev pub invariant-loop-number : goal.invariant-loop-number
invariant-loop-number l = (n : Netlist) → IsLevelled n l.order → IsListed n l.order l.marks l.fn.cells.items 0 → IsListed n l.order l.marks l.cells.items l.number-index
