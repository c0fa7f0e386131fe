use Rattle.cif_shapes.proofs.SameKind.{kinds_compared}
use Rattle.cif_shapes.proofs.shape.is_same_kind.Goals as goal

pub returns : goal.returns
returns c = kinds_compared c.args.first c.args.second c.eq.result c.eq.ensures
