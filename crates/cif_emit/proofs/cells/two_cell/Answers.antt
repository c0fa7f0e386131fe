use Rattle.std.proofs.Common.{◌∙◌, ap, length}
use Rattle.std.proofs.lemmas.Result.{IfOk-weaker}
use Rattle.cif_emit.specs.CellForms.{binary_numbers}
use Rattle.cif_emit.proofs.CellLaws.{two_made, two_of}
use Rattle.cif_emit.proofs.cells.two_cell.Goals as goal

pub returns-clause-ok : goal.returns-clause-ok
returns-clause-ok c = IfOk-weaker c.add_cell.result _ _
    (λ y h. two_made _ _ _ _ c.args.op _ _ _ _ c.args.a.now c.args.b.now y.items c.requires.same c.requires.some c.requires.limit c.requires.numbers c.two_width-width.ensures c.two_kind.ensures
    (c.in_ok-parameters.ensures ∙ ap (λ b. binary_numbers b (length c.args.a.now) c.two_width-width.result) c.is_signed.ensures) (two_of c.in_ok-connections.ensures.items c.in_ok-first.ensures c.in_ok-second.ensures) h)
    c.add_cell.ensures.ok
