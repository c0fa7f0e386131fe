use Rattle.std.proofs.Common.{◌∙◌}
use Rattle.cif_stimulus.proofs.LineOrder.{released_seen}
use Rattle.cif_stimulus.proofs.stimulus.Stimulus.released.Goals as goal

pub returns : goal.returns
returns c = c.are_released.ensures ∙ released_seen c.self.inside c.args.self.now c.deref.result.now c.args.bit c.self.view_is c.deref.ensures.value
