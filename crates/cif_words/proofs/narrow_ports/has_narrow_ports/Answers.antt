use Rattle.std.proofs.Common.{◌∙◌, ap, nat_le, length}
use Rattle.std.specs.List.{list_all}
use Rattle.cif_words.proofs.NarrowPorts.{by_operands, by_outputs}
use Rattle.cif_words.proofs.narrow_ports.has_narrow_ports.Goals as goal

pub returns-then-have_narrow_operands : goal.returns-then-have_narrow_operands
returns-then-have_narrow_operands c =
    by_outputs c.args.cell.now c.have_narrow_operands.result c.have_narrow_outputs.result c.requires (c.have_narrow_operands.ensures ∙ ap (λ xs. list_all (λ bits. nat_le (length bits) 128) xs) c.operands.ensures)
    (c.have_narrow_outputs.ensures ∙ ap (λ xs. list_all (λ bits. nat_le (length bits) 128) xs) c.outputs.ensures) c.if-have_narrow_operands.true

pub returns-else-have_narrow_operands : goal.returns-else-have_narrow_operands
returns-else-have_narrow_operands c = by_operands c.args.cell.now c.have_narrow_operands.result (c.have_narrow_operands.ensures ∙ ap (λ xs. list_all (λ bits. nat_le (length bits) 128) xs) c.operands.ensures) c.if-have_narrow_operands.false
