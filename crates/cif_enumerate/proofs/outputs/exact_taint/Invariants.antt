use Rattle.std.proofs.Common.{◌≡◌, map, length}
use Rattle.std.specs.List.{range_with_len}
use Rattle.cif_defs.specs.Cells.{meaning}
use Rattle.cif_defs.specs.Words.{operand}
use Rattle.cif_enumerate.specs.ExactWords.{exact_bits}
use Rattle.cif_enumerate.proofs.outputs.exact_taint.Given as goal

abbrev pub invariant-loop-port : goal.invariant-loop-port
invariant-loop-port l = l.words.items ≡ map (λ p. exact_bits l.cell p (length (operand (meaning l.cell l.values) p)) l.values l.taints) (range_with_len 0 l.port)
