use Rattle.std.proofs.Common.{◌≡◌, get_or}
use Rattle.cif_defs.specs.Words.{word}
use Rattle.cif_defs.specs.Accepted.{no_bit}
use Rattle.cif_nets.specs.Inits.{start_bit}
use Rattle.cif_nets.proofs.inits.register_word.Given as goal

abbrev pub invariant-loop-index : goal.invariant-loop-index
invariant-loop-index l = l.started.items ≡ word l.index (λ i. start_bit l.numbers l.inits (get_or l.bits i no_bit))
