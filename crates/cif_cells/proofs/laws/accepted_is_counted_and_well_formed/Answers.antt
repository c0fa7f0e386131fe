use Rattle.cif_cells.proofs.CountLaws.{accepted_apart}
use Rattle.cif_cells.proofs.laws.accepted_is_counted_and_well_formed.Goals as goal

pub returns : goal.returns
returns c = accepted_apart
