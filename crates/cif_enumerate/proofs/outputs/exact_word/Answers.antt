use Rattle.std.proofs.Common.{◌≡◌, length, ap, arith, ◌∙◌}
use Rattle.cif_defs.proofs.WordLaws.{length-word, word_push}
use Rattle.cif_enumerate.proofs.outputs.exact_word.Goals as goal

pub loop-index-preserved : goal.loop-index-preserved
loop-index-preserved c = word_push _ _ _ _ _ c.loop-index.invariant c.in_ok-push.ensures.items c.in_ok-can_differ.ensures

pub of-requires : goal.of-requires
of-requires c =
    let long : length c.loop-index.bits.items ≡ c.loop-index.index = ap length c.loop-index.invariant ∙ length-word _ _ in
    omega arith
