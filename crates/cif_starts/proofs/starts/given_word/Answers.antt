use Rattle.cif_defs.proofs.WordLaws.{word_push}
use Rattle.cif_starts.proofs.starts.given_word.Goals as goal

pub loop-index-preserved : goal.loop-index-preserved
loop-index-preserved c = word_push _ _ _ _ _ c.loop-index.invariant c.in_ok-push.ensures.items c.initial.ensures
