use Rattle.std.proofs.Common.{ap, map, ◌∙◌}
use Rattle.cif_defs.specs.Table.{operands_of, outputs_of}
use Rattle.cif_defs.specs.Accepted.{numbers_of, source, tables_of, target}
use Rattle.cif_cells.proofs.AssembleLaws.{cell_made, ports_mapped}
use Rattle.cif_cells.proofs.assemble.known_cell.Goals as goal

pub returns : goal.returns
returns c =
    c.of.ensures
    ∙ cell_made c.args.numbers.now c.args.cell.now c.args.kind _ _ _ _ _ (c.in_ok-name.ensures ∙ c.name.ensures)
    (c.in_ok-given.ensures ∙ ap (numbers_of c.args.cell.now) c.parameters.ensures) (c.in_ok-digits.ensures ∙ ap (tables_of c.args.cell.now) c.parameters-2.ensures)
    (c.in_ok-read.ensures ∙ ports_mapped (map (source c.args.numbers.now)) operands_of c.args.cell.now c.args.kind c.operands.result.now c.operands.ensures c.requires.known)
    (c.in_ok-driven.ensures ∙ ports_mapped (map (target c.args.numbers.now)) outputs_of c.args.cell.now c.args.kind c.outputs.result.now c.outputs.ensures c.requires.known)
