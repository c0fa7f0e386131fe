use Rattle.std.proofs.Common.{sym, ◌∙◌, refl}
use Rattle.cif_checks.proofs.InputLaws.{ports_step}
use Rattle.cif_checks.proofs.ports.check_ports.Goals as goal

pub loop-port-preserved : goal.loop-port-preserved
loop-port-preserved c =
    sym (ports_step _ _ _ _ _ c.loop-port-test.true c.port-item.is (c.in_ok-check_port.ensures.ok refl) (c.in_ok-check_port.ensures.after refl)) ∙ c.loop-port.invariant
