use Rattle.std.proofs.Common.{◌≡◌}
use Rattle.cif_raw_runs.specs.Assigned.{raw_word}
use Rattle.cif_emit.specs.Emitted.{IsEmitted}
use Rattle.cif_emit.specs.Pieces.{reduced}
use Rattle.cif_emit.proofs.PieceLaws.{front}
use Rattle.cif_emit.proofs.pieces.reduced_pieces.Given as goal

abbrev pub invariant-loop-index : goal.invariant-loop-index
invariant-loop-index l = IsEmitted l.fn.names l.names l.fn.cells.items l.cells.items l.a (λ v w. reduced l.op w ≡ reduced l.op (raw_word v (front l.a l.index))) l.index l.index l.bits.items
