use Rattle.std.proofs.Common.{arith, ap, ◌∙◌, ◌≡◌, length}
use Rattle.cif_defs.proofs.WordLaws.{length-word, word_push}
use Rattle.cif_registers.proofs.registers.reset_word.Goals as goal

pub of-requires : goal.of-requires
of-requires c =
    let same : length c.loop-i.bits.items ≡ c.loop-i.i = ap length c.loop-i.invariant ∙ length-word c.loop-i.i _ in
    omega (arith, c.register_width-width.ensures, c.requires)

pub loop-i-preserved : goal.loop-i-preserved
loop-i-preserved c = word_push _ _ _ _ _ c.loop-i.invariant c.in_ok-push.ensures.items c.digit.ensures
