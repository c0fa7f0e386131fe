use Rattle.std.proofs.Common.{refl, arith}
use Rattle.cif_nets.proofs.NetLaws.{nets_hold}
use Rattle.cif_nets.proofs.nets.Nets.read.Goals as goal

pub invariant_of-result : goal.invariant_of-result
invariant_of-result c =
    nets_hold c.args.raw.now c.in_ok-known.known c.in_ok-numbers.numbers.items c.deref.result.now c.in_ok-drives.drives.items c.cells.result.now c.first_clock-clock.result c.len.result
    c.in_ok-known.ensures (c.in_ok-check_counts.ensures.ok refl) (c.in_ok-check_ports.ensures.ok refl) (c.in_ok-check_cells.ensures.ok refl) (c.in_ok-check_counts.ensures.few_cells refl) (c.in_ok-check_counts.ensures.few_bits refl) (omega (arith, c.len.ensures, c.in_ok-numbers.numbers.ok.0))
    c.in_ok-numbers.ensures c.deref.ensures.value c.in_ok-drives.ensures c.cells.ensures c.first_clock-clock.ensures
