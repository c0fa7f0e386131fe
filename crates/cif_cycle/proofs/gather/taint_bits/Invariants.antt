use Rattle.std.proofs.Common.{◌≡◌, take}
use Rattle.cif_defs.specs.Words.{bit}
use Rattle.cif_defs.specs.TaintRun.{taint_word}
use Rattle.cif_cycle.proofs.gather.taint_bits.Given as goal

abbrev pub invariant-loop-source : goal.invariant-loop-source
invariant-loop-source l = l.word.items ≡ taint_word (bit l.taints) (take l.source-index l.sources)
