use Rattle.std.proofs.Common.{◌≡◌, take}
use Rattle.cif_defs.specs.Words.{bit}
use Rattle.cif_defs.specs.Run.{src_word}
use Rattle.cif_cycle.proofs.gather.value_bits.Given as goal

abbrev pub invariant-loop-source : goal.invariant-loop-source
invariant-loop-source l = l.word.items ≡ src_word (bit l.values) (take l.source-index l.sources)
