use Rattle.std.proofs.Common.{◌∙◌}
use Rattle.cif_nets.proofs.NumberLaws.{searched_place}
use Rattle.cif_nets.proofs.numbers.place_of.Goals as goal

pub returns : goal.returns
returns c = c.ok.ensures.value ∙ searched_place c.args.numbers.now c.args.number c.binary_search.result c.requires c.binary_search.ensures.position
