use Rattle.cif_built_order.proofs.BuiltRanks.{built_ranks}
use Rattle.cif_built_order.proofs.built_modules_have_ranks.Goals as goal

pub returns : goal.returns
returns c = λ n a released order sorted accepted levelled adds built form. built_ranks n a released order accepted levelled adds.in_order built form
