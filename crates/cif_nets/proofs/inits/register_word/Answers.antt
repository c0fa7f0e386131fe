use Rattle.std.proofs.Common.{get_or}
use Rattle.cif_defs.specs.Accepted.{no_bit}
use Rattle.cif_defs.proofs.WordLaws.{word_push}
use Rattle.cif_nets.specs.Inits.{start_bit}
use Rattle.cif_nets.proofs.inits.register_word.Goals as goal

pub loop-index-preserved : goal.loop-index-preserved
loop-index-preserved c =
    word_push (λ i. start_bit c.args.numbers.now c.args.inits.now (get_or c.args.bits.now i no_bit)) c.loop-index.index c.loop-index.started.items _ c.start_at.result c.loop-index.invariant c.in_ok-push.ensures.items c.start_at.ensures
