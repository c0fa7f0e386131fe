use Rattle.std.proofs.Common.{arith}
use Rattle.cif_defs.proofs.WordLaws.{word_push, words}
use Rattle.cif_augment.proofs.released.unmarked.Goals as goal

pub loop-i-preserved : goal.loop-i-preserved
loop-i-preserved c = word_push _ _ _ _ _ c.loop-i.invariant c.in_ok-push.ensures.items (cc)

pub of-requires : goal.of-requires
of-requires c = simp (c.loop-i.invariant, words) (omega arith)
