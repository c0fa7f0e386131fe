use Rattle.std.proofs.Common.{◌≡◌}
use Rattle.cif_defs.specs.Cells.{next_word}
use Rattle.cif_defs.specs.Run.{operand_words}
use Rattle.cif_defs.specs.Taint.{next_register_taint}
use Rattle.cif_defs.specs.TaintRun.{operand_taints}
use Rattle.cif_defs.specs.Words.{bit, word}
use Rattle.cif_cycle.proofs.register.next_bits.Given as goal

abbrev pub invariant-loop-i : goal.invariant-loop-i
invariant-loop-i l = record {
  value : l.value.items ≡ word l.i (λ i. bit (next_word l.cell (operand_words (bit l.values) l.cell) l.prior.value.now) i);
  taint : l.taint.items ≡ word l.i (λ i. bit (next_register_taint l.cell (operand_words (bit l.values) l.cell) (operand_taints (bit l.taints) l.cell) l.prior.value.now l.prior.taint.now) i);
}
