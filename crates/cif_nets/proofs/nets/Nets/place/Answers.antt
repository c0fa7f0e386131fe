use Rattle.std.proofs.Common.{◌∙◌}
use Rattle.cif_nets.proofs.NetLaws.{numbers_increase}
use Rattle.cif_nets.proofs.nets.Nets.place.Goals as goal

pub place_of-requires : goal.place_of-requires
place_of-requires c = numbers_increase c.self.inside.known c.deref.result.now (c.deref.ensures.value ∙ c.self.invariant.same_numbers)
