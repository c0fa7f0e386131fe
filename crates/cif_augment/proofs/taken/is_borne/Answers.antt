use Rattle.std.proofs.Common.{ap, ◌∙◌}
use Rattle.std.specs.Prelude.{is_some}
use Rattle.cif_augment.proofs.Places.{borne}
use Rattle.cif_augment.proofs.taken.is_borne.Goals as goal

pub returns : goal.returns
returns g c = c.is_some.ensures ∙ ap is_some c.place_in_order.ensures ∙ borne g.T.Named.name_of c.args.things.now c.args.name.now
