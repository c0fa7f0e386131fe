use Rattle.cif_stim_read.proofs.LineForms.{mem_none, mem_bad_address}
use Rattle.cif_stim_read.proofs.form.mem_form.Goals as goal

pub returns-in_default-word_form : goal.returns-in_default-word_form
returns-in_default-word_form c = λ raw. mem_none _ _ _ _ _ _ c.in-Some.ensures.some c.in-Some-first_word.ensures.some c.word_form.ensures c.in_default-word_form.is

pub returns-in_default-read_number : goal.returns-in_default-read_number
returns-in_default-read_number c = λ raw. mem_bad_address _ _ _ _ _ _ c.in-Some.ensures.some c.in-Some-first_word.ensures.some c.read_number.ensures c.in_default-read_number.is
