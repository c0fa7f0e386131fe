use Rattle.std.proofs.Common.{sym, ap, ◌∙◌, drop, ◌+◌, length}
use Rattle.std.specs.List.{filter}
use Rattle.cif_defs.specs.Accepted.{driven_by_inputs, is_input}
use Rattle.cif_nets.specs.Told.{told_all}
use Rattle.cif_nets.specs.Drives.{driven_more}
use Rattle.cif_nets.proofs.DriveLaws.{filter_past, input_counted, input_recorded, inputs_done}
use Rattle.cif_nets.proofs.drives.record_inputs.Goals as goal
use Rattle.cif_nets.proofs.drives.record_inputs.Goals.{then-is_input, else-is_input}

pub loop-port-preserved : goal.loop-port-preserved
loop-port-preserved c = elim c.if-is_input.branch [
  | then-is_input w ↦ record {
    told = input_recorded driven_more c.args.numbers.now c.loop-port.drives c.if-is_input.drives c.args.ports.now c.loop-port.port-index c.port-item.result _ c.loop-port.inputs c.if-is_input.inputs w.items.result.now
        c.loop-port-test.true c.port-item.is (sym w.if-is_input.ensures) w.items.ensures w.inputs-is (w.drives-is ∙ w.record_bits.ensures) ∙ c.loop-port.invariant.told;
    counted = input_counted c.args.ports.now c.loop-port.port-index c.port-item.result _ c.loop-port.inputs c.if-is_input.inputs _ c.loop-port-test.true c.port-item.is (sym w.if-is_input.ensures) w.inputs-is c.loop-port.invariant.counted;
  }
  | else-is_input w ↦ (let past = filter_past is_input c.args.ports.now c.loop-port.port-index c.port-item.result _ c.loop-port-test.true c.port-item.is (sym w.if-is_input.ensures) in record {
    told = ap (λ ss. told_all driven_more c.args.numbers.now ss (driven_by_inputs c.if-is_input.inputs (filter is_input (drop (c.loop-port.port-index + 1) c.args.ports.now)))) w.drives-is
        ∙ ap (λ k. told_all driven_more c.args.numbers.now c.loop-port.drives (driven_by_inputs k (filter is_input (drop (c.loop-port.port-index + 1) c.args.ports.now)))) w.inputs-is
        ∙ ap (λ ps. told_all driven_more c.args.numbers.now c.loop-port.drives (driven_by_inputs c.loop-port.inputs ps)) (sym past) ∙ c.loop-port.invariant.told;
    counted = ap (λ k. k + length (filter is_input (drop (c.loop-port.port-index + 1) c.args.ports.now))) w.inputs-is ∙ ap (λ ps. c.loop-port.inputs + length ps) (sym past) ∙ c.loop-port.invariant.counted;
  })
]

pub returns : goal.returns
returns c = inputs_done driven_more c.args.numbers.now c.loop-port.drives _ c.args.ports.now c.loop-port.port-index c.loop-port.inputs c.loop-port-test.false (c.loop-port.auto.drives ∙ c.requires.same) c.loop-port.invariant.told
