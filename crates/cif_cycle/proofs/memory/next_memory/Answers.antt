use Rattle.std.proofs.Common.{ap, ◌∙◌, refl, length}
use Rattle.cif_defs.specs.Cells.{shape_of}
use Rattle.cif_defs.proofs.WordLaws.{length-word}
use Rattle.rule_state.proofs.MemoryLaws.{port_widths}
use Rattle.cif_cycle.proofs.WrittenPorts.{none_written, none_tainted, flag_none, flag_more}
use Rattle.cif_cycle.proofs.memory.next_memory.Goals as goal

pub loop-number-init : goal.loop-number-init
loop-number-init c = record {
  value = c.in_ok-value.ensures ∙ none_written (shape_of c.args.cell.now) c.args.values.now c.args.prior.value.now c.requires.value;
  taint = c.in_ok-taint.ensures ∙ none_tainted (shape_of c.args.cell.now) c.args.values.now c.args.taints.now c.args.prior.taint.now c.requires.taint;
  flag = flag_none (shape_of c.args.cell.now) c.args.values.now c.args.taints.now c.args.prior.flag;
}

pub write_port-requires-clause-port : goal.write_port-requires-clause-port
write_port-requires-clause-port c = port_widths c.args.cell.now c.args.values.now c.args.taints.now c.loop-number.number c.in_ok-port.port c.in_ok-port.ensures

pub write_port-requires-clause-value : goal.write_port-requires-clause-value
write_port-requires-clause-value c = ap length c.loop-number.invariant.value ∙ length-word _ _

pub write_port-requires-clause-taint : goal.write_port-requires-clause-taint
write_port-requires-clause-taint c = ap length c.loop-number.invariant.taint ∙ length-word _ _

pub loop-number-preserved : goal.loop-number-preserved
loop-number-preserved c = record {
  value = c.in_ok-write_port.ensures.value c.args.values.now c.args.taints.now c.loop-number.number c.args.prior.value.now c.in_ok-port.ensures c.loop-number.invariant.value;
  taint = c.in_ok-write_port.ensures.taint c.args.values.now c.args.taints.now c.loop-number.number c.args.prior.taint.now c.in_ok-port.ensures c.loop-number.invariant.taint;
  flag = flag_more (shape_of c.args.cell.now) c.args.values.now c.args.taints.now c.loop-number.number _ c.loop-number.flag _ _ c.loop-number.invariant.flag
      (c.write_flag-flag.ensures.defined (shape_of c.args.cell.now) c.args.values.now c.args.taints.now c.loop-number.number c.in_ok-port.ensures) refl;
}
