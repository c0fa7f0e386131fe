use Rattle.std.proofs.Common.{◌∙◌}
use Rattle.cif_cells.proofs.FittedCells.{all_fitted}
use Rattle.cif_cells.proofs.MemoryCells.{all_memory_numbers}
use Rattle.cif_cells.proofs.OrderedNetlist.{cells_in_order}
use Rattle.cif_cells.proofs.netlist.Netlist.cells.Goals as goal

pub returns-clause-fitted : goal.returns-clause-fitted
returns-clause-fitted c = all_fitted c.self.inside.raw c.deref.result.now (c.deref.ensures.value ∙ c.self.invariant.same_cells) c.self.invariant.accepted

pub returns-clause-memories : goal.returns-clause-memories
returns-clause-memories c = all_memory_numbers c.self.inside.raw c.deref.result.now (c.deref.ensures.value ∙ c.self.invariant.same_cells) c.self.invariant.accepted

pub returns-clause-in_order : goal.returns-clause-in_order
returns-clause-in_order c = cells_in_order c.self.inside.raw c.deref.result.now (c.deref.ensures.value ∙ c.self.invariant.same_cells) c.self.invariant.accepted c.self.invariant.in_order
