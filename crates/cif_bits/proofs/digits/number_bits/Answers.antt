use Rattle.std.proofs.Common.{ap, ◌==◌}
use Rattle.std.proofs.lemmas.Nat.Bits.{shr_and_one}
use Rattle.cif_defs.proofs.WordLaws.{word_push}
use Rattle.cif_bits.proofs.digits.number_bits.Goals as goal

pub loop-i-preserved : goal.loop-i-preserved
loop-i-preserved c = word_push _ _ _ _ _ c.loop-i.invariant c.in_ok-push.ensures.items (ap (λ k. k == 1) (shr_and_one c.args.number c.loop-i.i))
