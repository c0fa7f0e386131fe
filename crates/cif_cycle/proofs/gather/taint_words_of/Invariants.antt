use Rattle.std.proofs.Common.{◌≡◌, take}
use Rattle.cif_defs.specs.Words.{bit}
use Rattle.cif_defs.specs.TaintRun.{taints_under}
use Rattle.cif_cycle.proofs.gather.taint_words_of.Given as goal

abbrev pub invariant-loop-sources : goal.invariant-loop-sources
invariant-loop-sources l = l.words.items ≡ taints_under (bit l.taints) (take l.sources-index l.operands)
