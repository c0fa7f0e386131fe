use Rattle.std.proofs.Common.{◌≡◌, ◌++◌}
use Rattle.cif_term.specs.declared.ops.Op1.TheVariants.{ReduceAnd}
use Rattle.cif_raw_runs.specs.Assigned.{raw_word}
use Rattle.cif_emit.specs.Emitted.{IsEmitted}
use Rattle.cif_emit.specs.Pieces.{are_same, reduced}
use Rattle.cif_emit.proofs.PieceLaws.{front}
use Rattle.cif_emit.proofs.pieces.compared_pieces.Given as goal

abbrev pub invariant-loop-index : goal.invariant-loop-index
invariant-loop-index l = IsEmitted l.fn.names l.names l.fn.cells.items l.cells.items (l.a ++ l.b) (λ v w. reduced ReduceAnd w ≡ are_same (raw_word v (front l.a l.index)) (raw_word v (front l.b l.index))) l.index l.index l.bits.items
