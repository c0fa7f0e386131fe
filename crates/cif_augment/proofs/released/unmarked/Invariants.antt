use Rattle.std.proofs.Common.{◌≡◌, ◌&&◌, not, get_or}
use Rattle.cif_defs.specs.Words.{bit, word}
use Rattle.cif_defs.specs.declared.nets.Src.TheVariants.{Zero}
use Rattle.cif_augment.specs.Stimuli.{is_marked}
use Rattle.cif_augment.proofs.released.unmarked.Given as goal

abbrev pub invariant-loop-i : goal.invariant-loop-i
invariant-loop-i l = l.kept.items ≡ word l.i (λ i. bit l.bits i && not (is_marked l.marks (get_or l.sources i Zero)))
