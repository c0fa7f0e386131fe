use Rattle.cif_supports.proofs.Dependent.{output_same}
use Rattle.cif_supports.proofs.outputs_depend_on_what_they_read.Goals as goal

pub returns : goal.returns
returns c = output_same
