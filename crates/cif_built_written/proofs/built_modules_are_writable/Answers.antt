use Rattle.cif_built_written.proofs.Written.{written}
use Rattle.cif_built_written.proofs.built_modules_are_writable.Goals as goal

pub returns : goal.returns
returns c = λ n a released sorted accepted free built states h.
    written n a released built (c.built_modules_add.ensures.adds n a released sorted accepted free built).in_order states h
