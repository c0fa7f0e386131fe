use Rattle.std.proofs.Common.{◌∙◌}
use Rattle.cif_stimulus.proofs.Fits.{same_sources}
use Rattle.cif_stimulus.proofs.fitting.are_same_sources.Goals as goal

pub returns : goal.returns
returns c = c.eq.ensures ∙ same_sources c.args.first.now c.args.second.now
