use Rattle.cif_augment.proofs.Faults.{too_large, small_enough}
use Rattle.cif_augment.proofs.size.check_size.Goals as goal

pub returns-then-size-gt-SIZE_LIMIT-clause-err : goal.returns-then-size-gt-SIZE_LIMIT-clause-err
returns-then-size-gt-SIZE_LIMIT-clause-err c = too_large c.args.netlist.now c.augmented_size-size.result c.augmented_size-size.ensures c.if-size-gt-SIZE_LIMIT.true

pub returns-clause-ok : goal.returns-clause-ok
returns-clause-ok c = small_enough c.args.netlist.now c.augmented_size-size.result c.augmented_size-size.ensures c.if-size-gt-SIZE_LIMIT.false
