use Rattle.cif_defs.specs.Words.{bit, word}
use Rattle.cif_cycle.specs.Rows.{IsPutAt}
use Rattle.cif_starts.proofs.starts.put_at.Given as goal

abbrev pub invariant-loop-i : goal.invariant-loop-i
invariant-loop-i l = IsPutAt l.at (word l.i (λ i. bit l.source i)) l.fn.bits l.bits
