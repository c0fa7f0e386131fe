use Rattle.cif_meanings.proofs.MeaningLaws.{flag_set}
use Rattle.cif_meanings.proofs.meanings.flags.answer_word.Goals as goal

pub returns : goal.returns
returns c = flag_set _ _ _ _ c.in_ok-word.ensures c.set.ensures
