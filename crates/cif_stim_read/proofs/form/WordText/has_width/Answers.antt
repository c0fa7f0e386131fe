use Rattle.cif_stim_read.proofs.LineForms.{width_none}
use Rattle.cif_stim_read.proofs.form.WordText.has_width.Goals as goal

pub returns-in-None : goal.returns-in-None
returns-in-None c = width_none c.args.self.now c.args.width c.in-None.is
