use Rattle.cif_stim_read.proofs.LineForms.{reg_none}
use Rattle.cif_stim_read.proofs.form.reg_form.Goals as goal

pub returns-in_default-word_form : goal.returns-in_default-word_form
returns-in_default-word_form c = λ raw. reg_none _ _ _ _ c.in-Some.ensures.some c.word_form.ensures c.in_default-word_form.is
