use Rattle.cif_nets.proofs.NumberLaws.{both_pushed}
use Rattle.cif_nets.proofs.numbers.numbers_held.Goals as goal

pub returns : goal.returns
returns c = both_pushed c.args.known.now _ _ _ _ _ c.new-numbers.ensures.items c.ports.ensures c.in_ok-push_ports.ensures c.cells.ensures c.in_ok-push_cells.ensures
