use Rattle.std.proofs.lemmas.Result.{IfOk-weaker}
use Rattle.cif_emit.proofs.CellLaws.{choice_made, one_of, three_of}
use Rattle.cif_emit.proofs.cells.choice_cell.Goals as goal

pub returns-clause-ok : goal.returns-clause-ok
returns-clause-ok c = IfOk-weaker c.add_cell.result _ _
    (λ y h. choice_made _ _ _ _ _ _ c.args.select.now c.args.zero.now c.args.one.now y.items c.requires.select c.requires.same c.requires.some c.requires.limit (one_of c.in_ok-parameters.ensures.items c.in_ok-width.ensures) (three_of c.in_ok-connections.ensures.items c.in_ok-first.ensures c.in_ok-second.ensures c.in_ok-third.ensures) h)
    c.add_cell.ensures.ok
