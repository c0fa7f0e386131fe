use Rattle.std.proofs.Common.{◌<◌, ◌≤◌, ◌≡◌, ◌++◌, ◌∙◌, sym, ap, subst, List, length, get_or, arith}
use Rattle.std.specs.List.{flat_map}
use Rattle.cif_defs.specs.EvalText.{cycle_head, port_line, cycle_text}
use Rattle.cif_defs.specs.declared.nets.Wire.{Wire}
use Rattle.cif_desk.specs.Shown.{AreInside}
use Rattle.cif_seq.specs.Cases.{net_of}
use Rattle.cif_desk.proofs.TextLaws.{flat_map_done}
use Rattle.cif_desk.proofs.ShownBits.{outputs_inside}
use Rattle.cif_desk.proofs.evaluation.set_cycle.Goals as goal

pub push_port-requires : goal.push_port-requires
push_port-requires c =
    let same : c.outputs-port-items.result.now ≡ (net_of c.args.frame.now.case).outputs = cc in
    let below : c.loop-port.port-index < length (net_of c.args.frame.now.case).outputs = omega (arith, ap length same) in
    let InOutputs : List Wire → Type 0 = λ ports. AreInside (net_of c.args.frame.now.case) (get_or ports c.loop-port.port-index c.port-item.result).bits in
    let InPort : Wire → Type 0 = λ port. AreInside (net_of c.args.frame.now.case) port.bits in
    subst InPort (sym c.port-item.is) (subst InOutputs (sym same) (outputs_inside c.args.frame.now.case.raw c.loop-port.port-index c.port-item.result below))

pub returns : goal.returns
unfolding cycle_text
returns c =
    let same : c.outputs-port-items.result.now ≡ (net_of c.args.frame.now.case).outputs = cc in
    let done : length c.outputs-port-items.result.now ≤ c.loop-port.port-index = omega arith in
    flat_map_done (port_line (net_of c.args.frame.now.case) c.args.frame.now.case.stimulus c.args.frame.now.cycle) (cycle_head c.args.frame.now.cycle) c.outputs-port-items.result.now c.loop-port.port-index c.loop-port.text.items done c.loop-port.invariant
    ∙ ap (λ (ports : List Wire). cycle_head c.args.frame.now.cycle ++ flat_map (port_line (net_of c.args.frame.now.case) c.args.frame.now.case.stimulus c.args.frame.now.cycle) ports) same
