use Rattle.std.proofs.Common.{◌≡◌}
use Rattle.cif_defs.specs.Words.{bit}
use Rattle.cif_defs.specs.Run.{operand_words}
use Rattle.cif_defs.specs.TaintRun.{operand_taints}
use Rattle.cif_cycle.specs.CellWords.{read_words, read_taints}
use Rattle.cif_cycle.proofs.memory.read_data.Given as goal

abbrev pub invariant-loop-port : goal.invariant-loop-port
invariant-loop-port l = record {
  value : l.value.items ≡ read_words l.cell l.port (operand_words (bit l.values) l.cell) l.stored;
  taint : l.taint.items ≡ read_taints l.cell l.port (operand_words (bit l.values) l.cell) (operand_taints (bit l.taints) l.cell) l.flag l.stored_taint;
}
