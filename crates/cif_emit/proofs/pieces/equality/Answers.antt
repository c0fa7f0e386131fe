use Rattle.std.proofs.Common.{arith}
use Rattle.std.proofs.lemmas.Result.{IfOk-weaker}
use Rattle.cif_emit.proofs.PieceLaws.{equality_joined}
use Rattle.cif_emit.proofs.pieces.equality.Goals as goal

pub returns-clause-ok : goal.returns-clause-ok
returns-clause-ok c = IfOk-weaker c.one_cell.result _ _
    (λ y h. equality_joined c.args.a.now c.args.b.now (omega (arith, c.if-a-le-PIECE.false)) c.in_ok-bits.ensures.ok c.deref.result.now c.deref.ensures.value h) c.one_cell.ensures.ok
