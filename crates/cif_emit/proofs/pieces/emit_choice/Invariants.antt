use Rattle.std.proofs.Common.{◌≡◌, length, if◌then◌else◌, ◌++◌}
use Rattle.cif_defs.specs.Words.{bit}
use Rattle.cif_raw_runs.specs.Assigned.{raw_word}
use Rattle.cif_emit.specs.Emitted.{IsEmitted}
use Rattle.cif_emit.proofs.PieceLaws.{front}
use Rattle.cif_emit.proofs.pieces.emit_choice.Given as goal

abbrev pub invariant-loop-index : goal.invariant-loop-index
invariant-loop-index l = IsEmitted l.fn.names l.names l.fn.cells.items l.cells.items (l.select ++ (l.zero ++ l.one)) (λ v w. w ≡ (if bit (raw_word v l.select) 0 then raw_word v (front l.one l.index) else raw_word v (front l.zero l.index))) l.index (length (front l.zero l.index)) l.bits.items
