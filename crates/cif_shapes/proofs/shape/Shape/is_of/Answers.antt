use Rattle.std.proofs.Common.{◌∙◌}
use Rattle.cif_shapes.proofs.Tables.{by_table}
use Rattle.cif_shapes.proofs.shape.Shape.is_of.Goals as goal

pub returns : goal.returns
returns c = by_table c.args.self.now c.args.cell.now c.has_table.result (c.is_same_kind.ensures.0 c.if-not-is_same_kind.false ∙ c.kind.ensures) (c.has_numbers.ensures.0 c.if-not-has_numbers.false)
    (rw c.items.ensures at c.has_table.ensures)
