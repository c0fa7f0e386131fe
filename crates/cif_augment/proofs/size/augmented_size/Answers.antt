use Rattle.cif_augment.proofs.Faults.{size_is}
use Rattle.cif_augment.proofs.size.augmented_size.Goals as goal

pub returns : goal.returns
returns c = size_is c.args.netlist.now c.cells-cells.result.now c.total_weight.result c.cells-cells.ensures.are c.total_weight.ensures.is
