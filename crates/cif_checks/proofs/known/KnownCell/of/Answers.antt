use Rattle.std.proofs.Common.{arith}
use Rattle.cif_checks.proofs.KnownCells.{known_is}
use Rattle.cif_checks.proofs.known.KnownCell.of.Goals as goal

pub invariant_of-result : goal.invariant_of-result
invariant_of-result c =
    known_is c.args.raw.now c.items.result.now c.kind_of-kind.result _ _ _ _ _ _ _ _ _ _ _ _ _ _ _ c.kind_of-kind.ensures c.items.ensures
    c.parameters_by.ensures c.in_ok-values.ensures c.rows_of.ensures.operands c.rows_of.ensures.outputs c.rows_of.ensures.clocks
    c.new-ports.ensures.items c.new-connected.ensures.items
    (record { bits = c.in_ok-push_ports.ensures.bits; flags = c.in_ok-push_ports.ensures.connected })
    (record { bits = c.in_ok-push_ports-2.ensures.bits; flags = c.in_ok-push_ports-2.ensures.connected })
    (record { bits = c.in_ok-push_ports-3.ensures.bits; flags = c.in_ok-push_ports-3.ensures.connected })
    (omega (arith, c.len-operands_end.ensures, c.push_ports.new.ports.ok.0)) (omega (arith, c.len-outputs_end.ensures, c.push_ports-2.new.ports.ok.0))
