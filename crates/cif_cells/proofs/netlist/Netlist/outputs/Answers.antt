use Rattle.std.proofs.Common.{◌∙◌}
use Rattle.cif_cells.proofs.OrderedNetlist.{outputs_in_order}
use Rattle.cif_cells.proofs.netlist.Netlist.outputs.Goals as goal

pub returns-clause-in_order : goal.returns-clause-in_order
returns-clause-in_order c = outputs_in_order c.self.inside.raw c.deref.result.now (c.deref.ensures.value ∙ c.self.invariant.same_outputs) c.self.invariant.in_order
