use Rattle.cif_json.proofs.NonzeroNumbers.{nonzero_float}
use Rattle.cif_json.proofs.scalar.is_other_than_zero.Goals as goal

pub returns-in-Some-as_f64 : goal.returns-in-Some-as_f64
returns-in-Some-as_f64 c = nonzero_float _ _ c.in-None.ensures c.in-Some-as_f64.ensures
