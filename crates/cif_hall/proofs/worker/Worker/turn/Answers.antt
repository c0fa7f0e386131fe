use Rattle.std.proofs.Common.{rules}
use Rattle.cif_pieces.specs.Filled.{AllHere}
use Rattle.cif_hall.proofs.worker.Worker.turn.Goals as goal

pub join_up-requires-clause-here : goal.join_up-requires-clause-here
join_up-requires-clause-here g c =
    let here : AllHere g.N.Run.case c.deref_mut.result.now.core.done g.N.Run.plan.parts c.in-Ok-Work-Assemble.slots = search rules in
    (c.deref_mut.result.now.core.done, here)
