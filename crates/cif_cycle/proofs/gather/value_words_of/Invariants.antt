use Rattle.std.proofs.Common.{◌≡◌, take}
use Rattle.cif_defs.specs.Words.{bit}
use Rattle.cif_defs.specs.Run.{words_under}
use Rattle.cif_cycle.proofs.gather.value_words_of.Given as goal

abbrev pub invariant-loop-sources : goal.invariant-loop-sources
invariant-loop-sources l = l.words.items ≡ words_under (bit l.values) (take l.sources-index l.operands)
