use Rattle.cif_augment.proofs.WantedNames.{gathered}
use Rattle.cif_augment.proofs.wanted.wanted_names.Goals as goal

pub returns-clause-same : goal.returns-clause-same
returns-clause-same c = gathered c.args.netlist.now _ _ _ _ _ _ _ _ c.cells-cells.ensures.accepted c.inputs-inputs.ensures.are c.outputs-outputs.ensures.are c.cells-cells.ensures.are c.new-names.ensures.items c.in_ok-push_for_wires.ensures c.in_ok-push_for_wires-2.ensures c.in_ok-push_for_cells.ensures c.sort_names.ensures.same
