use Rattle.cif_parts.specs.Joining.{IsTaking}
use Rattle.cif_parts.proofs.join.take_over.Given as goal

abbrev pub invariant-loop-number : goal.invariant-loop-number
invariant-loop-number l = IsTaking l.case l.fn.piece.cycle l.fn.piece.parts l.fn.piece.part l.owned l.number-index l.from l.joined
