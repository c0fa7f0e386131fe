use Rattle.std.proofs.Common.{arith}
use Rattle.std.proofs.lemmas.Result.{IfOk-weaker}
use Rattle.cif_emit.proofs.PieceLaws.{reduction_joined, reduction_of_one}
use Rattle.cif_emit.proofs.pieces.reduction.Goals as goal

pub returns-clause-ok : goal.returns-clause-ok
returns-clause-ok c = IfOk-weaker c.one_cell-2.result _ _
    (λ y h. reduction_joined c.args.op c.args.a.now c.requires.reduction (omega (arith, c.if-a-le-PIECE.false)) c.in_ok-bits.ensures.ok c.deref.result.now c.deref.ensures.value h) c.one_cell-2.ensures.ok

pub returns-then-a-le-PIECE-clause-ok : goal.returns-then-a-le-PIECE-clause-ok
returns-then-a-le-PIECE-clause-ok c = IfOk-weaker c.one_cell.result _ _ (λ y h. reduction_of_one c.args.op c.args.a.now c.requires.reduction c.requires.some c.if-a-le-PIECE.true h) c.one_cell.ensures.ok
