use Rattle.std.proofs.Common.{arith, refl}
use Rattle.cif_readers.proofs.MarkLaws.{part_has}
use Rattle.cif_readers.proofs.readers.part.Goals as goal

pub returns-clause-has : goal.returns-clause-has
returns-clause-has c = λ place from to inside. part_has c.args.cells.now _ c.args.from c.min-start.result c.min-end.result place refl (omega arith) (omega arith) (omega arith) (omega arith) from
