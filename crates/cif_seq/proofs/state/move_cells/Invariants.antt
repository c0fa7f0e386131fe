use Rattle.std.proofs.Common.{◌≡◌, length}
use Rattle.cif_defs.specs.Accepted.{netlist_of}
use Rattle.cif_seq.specs.Stored.{IsStored, given_of}
use Rattle.cif_seq.proofs.Moved.{MovedBelow}
use Rattle.cif_seq.proofs.state.move_cells.Given as goal

abbrev pub invariant-loop-number : goal.invariant-loop-number
invariant-loop-number l = record {
  stored : IsStored (netlist_of l.netlist) l.stored.values.items l.stored.taints.items l.stored.flags.items;
  moved : MovedBelow (netlist_of l.netlist) (given_of l.initial.stored) (given_of l.stored) l.values l.taints l.initial.marks l.marks l.number;
  as_many : length l.marks ≡ length l.initial.marks;
}
