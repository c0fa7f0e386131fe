use Rattle.cif_stim_read.proofs.LineForms.{set_none}
use Rattle.cif_stim_read.proofs.form.set_form.Goals as goal

pub returns-in_default-word_form : goal.returns-in_default-word_form
returns-in_default-word_form c = λ raw. set_none _ _ _ _ c.in-Some.ensures.some c.word_form.ensures c.in_default-word_form.is
