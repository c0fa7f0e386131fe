use Rattle.std.proofs.lemmas.Result.{IfOk-weaker}
use Rattle.cif_emit.proofs.CellLaws.{one_made, one_of}
use Rattle.cif_emit.proofs.cells.one_cell.Goals as goal

pub returns-clause-ok : goal.returns-clause-ok
returns-clause-ok c = IfOk-weaker c.add_cell.result _ _
    (λ y h. one_made _ _ _ _ c.args.op _ _ _ _ c.args.a.now y.items c.requires.some c.requires.limit c.one_width-width.ensures c.one_kind.ensures c.in_ok-parameters.ensures (one_of c.in_ok-connections.ensures.items c.in_ok-operand.ensures) h)
    c.add_cell.ensures.ok
