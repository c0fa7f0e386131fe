use Rattle.std.proofs.Common.{◌∙◌}
use Rattle.cif_cells.proofs.OrderedNetlist.{inputs_in_order}
use Rattle.cif_cells.proofs.netlist.Netlist.inputs.Goals as goal

pub returns-clause-in_order : goal.returns-clause-in_order
returns-clause-in_order c = inputs_in_order c.self.inside.raw c.deref.result.now (c.deref.ensures.value ∙ c.self.invariant.same_inputs) c.self.invariant.in_order
