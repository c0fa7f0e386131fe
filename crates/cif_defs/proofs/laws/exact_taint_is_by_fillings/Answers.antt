use Rattle.cif_defs.proofs.FillingLaws.{output_is_fillings, test_is_fillings}
use Rattle.cif_defs.proofs.laws.exact_taint_is_by_fillings.Goals as goal

pub returns : goal.returns
returns c = record { test = test_is_fillings; outputs = output_is_fillings }
