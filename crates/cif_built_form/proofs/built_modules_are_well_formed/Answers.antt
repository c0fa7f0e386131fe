use Rattle.cif_built_form.proofs.Form.{built_form}
use Rattle.cif_built_form.proofs.built_modules_are_well_formed.Goals as goal

pub returns : goal.returns
returns c = built_form
