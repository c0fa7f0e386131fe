use Rattle.cif_defs.specs.Order.{IsNetInOrder}
use Rattle.cif_defs.proofs.EachInOrder.{HoldsFrom}
use Rattle.cif_defs.proofs.named.are_nets_in_order.Given as goal

abbrev pub invariant-loop-net : goal.invariant-loop-net
invariant-loop-net l = HoldsFrom IsNetInOrder l.nets l.net-index
