use Rattle.std.proofs.Common.{◌+◌}
use Rattle.cif_defs.specs.Words.{bit}
use Rattle.cif_cycle.specs.Memories.{row_written}
use Rattle.cif_cycle.specs.Rows.{IsPutAt}
use Rattle.cif_cycle.proofs.memory.write_value.Given as goal

abbrev pub invariant-loop-i : goal.invariant-loop-i
invariant-loop-i l = IsPutAt l.at (row_written l.i l.port (λ i. bit l.fn.stored (l.at + i))) l.fn.stored l.stored
