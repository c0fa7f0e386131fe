-- One more port at each turn.
use Rattle.std.proofs.Common.{◌∙◌, ◌++◌, ap, length, List, Bool}
use Rattle.cif_defs.specs.Words.{bit}
use Rattle.cif_defs.specs.Run.{operand_words}
use Rattle.cif_defs.specs.TaintRun.{operand_taints}
use Rattle.cif_defs.proofs.WordLaws.{length-word}
use Rattle.cif_cycle.proofs.MemoryReads.{at_address, at_addresses, reads_more, taints_more}
use Rattle.cif_cycle.proofs.memory.read_data.Goals as goal

pub read_port-requires-clause-address : goal.read_port-requires-clause-address
read_port-requires-clause-address c = ap length c.in_ok-address.ensures.value ∙ length-word _ _

pub loop-port-preserved : goal.loop-port-preserved
loop-port-preserved c = record {
  value = reads_more c.args.cell.now c.loop-port.port (operand_words (bit c.args.values.now) c.args.cell.now) c.args.stored.now _ _ c.in_ok-read.read.value c.loop-port.invariant.value
      (c.in_ok-extend_from_slice.ensures.items ∙ ap (λ (w : List Bool). c.loop-port.value.items ++ w) c.bits.ensures.value)
      (at_address c.args.cell.now c.args.stored.now c.in_ok-address.address.value _ c.in_ok-read.read.value c.in_ok-address.ensures.value c.in_ok-read.ensures.value);
  taint = taints_more c.args.cell.now c.loop-port.port (operand_words (bit c.args.values.now) c.args.cell.now) (operand_taints (bit c.args.taints.now) c.args.cell.now) c.args.flag c.args.stored_taint.now _ _ c.in_ok-read.read.taint c.loop-port.invariant.taint
      (c.in_ok-extend_from_slice-2.ensures.items ∙ ap (λ (w : List Bool). c.loop-port.taint.items ++ w) c.bits-in-loop-port.ensures.value)
      (at_addresses c.args.cell.now c.args.flag c.args.stored_taint.now c.in_ok-address.address.value _ c.in_ok-address.address.taint _ c.in_ok-read.read.taint c.in_ok-address.ensures.value c.in_ok-address.ensures.taint c.in_ok-read.ensures.taint);
}
