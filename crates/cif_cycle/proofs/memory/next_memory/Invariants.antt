use Rattle.std.proofs.Common.{◌≡◌}
use Rattle.cif_defs.specs.Cells.{shape_of}
use Rattle.cif_defs.specs.Memory.{flag_after}
use Rattle.cif_cycle.specs.Memories.{values_after, taints_after}
use Rattle.cif_cycle.proofs.memory.next_memory.Given as goal

abbrev pub invariant-loop-number : goal.invariant-loop-number
invariant-loop-number l = record {
  value : l.value ≡ values_after (shape_of l.cell) l.values l.prior.value.now l.number;
  taint : l.taint ≡ taints_after (shape_of l.cell) l.values l.taints l.prior.taint.now l.number;
  flag : l.flag ≡ flag_after (shape_of l.cell) l.values l.taints l.number l.prior.flag;
}
