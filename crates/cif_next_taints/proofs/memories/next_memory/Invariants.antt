-- What was computed at the ports so far.
use Rattle.std.proofs.Common.{◌≡◌, ◌*◌, length}
use Rattle.cif_defs.specs.Cells.{width}
use Rattle.cif_next_taints.proofs.WriteLaws.{IsEmittedBelow}
use Rattle.cif_next_taints.proofs.memories.next_memory.Given as goal

abbrev pub invariant-loop-port : goal.invariant-loop-port
invariant-loop-port l = record {
  emitted : IsEmittedBelow l.fn.names l.names l.fn.cells.items l.cells.items l.cell l.writes l.fn.flag l.port l.next;
  enables : length l.next.enables.items ≡ l.port * width l.cell;
  words : length l.next.words.items ≡ l.port * width l.cell;
}
