use Rattle.std.proofs.Common.{◌≡◌}
use Rattle.cif_enumerate.specs.ExactWords.{exact_bits}
use Rattle.cif_enumerate.proofs.outputs.exact_word.Given as goal

abbrev pub invariant-loop-index : goal.invariant-loop-index
invariant-loop-index l = l.bits.items ≡ exact_bits l.cell l.port l.index l.values l.taints
