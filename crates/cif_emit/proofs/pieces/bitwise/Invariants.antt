use Rattle.std.proofs.Common.{◌≡◌, length, ◌++◌}
use Rattle.cif_term.specs.Formulas.{two_word}
use Rattle.cif_raw_runs.specs.Assigned.{raw_word}
use Rattle.cif_emit.specs.Emitted.{IsEmitted}
use Rattle.cif_emit.proofs.PieceLaws.{front}
use Rattle.cif_emit.proofs.pieces.bitwise.Given as goal

abbrev pub invariant-loop-index : goal.invariant-loop-index
invariant-loop-index l = IsEmitted l.fn.names l.names l.fn.cells.items l.cells.items (l.a ++ l.b) (λ v w. w ≡ two_word l.op (raw_word v (front l.a l.index)) (raw_word v (front l.b l.index))) l.index (length (front l.a l.index)) l.bits.items
