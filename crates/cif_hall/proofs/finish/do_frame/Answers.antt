use Rattle.cif_pieces.specs.Filled.{AllHere}
use Rattle.cif_hall.proofs.finish.do_frame.Goals as goal

pub joined-requires-clause-here : goal.joined-requires-clause-here
joined-requires-clause-here g c =
    let here : AllHere c.case.result.now.value c.args.kept.now.core.done c.plan.result.now.value.parts c.args.slots = rw (c.case.ensures.is, c.plan.ensures.is) c.requires.here in
    (c.args.kept.now.core.done, here)
