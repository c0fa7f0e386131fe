use Rattle.std.proofs.Common.{arith, refl, ◌∙◌}
use Rattle.std.proofs.lemmas.Option.{slice_get_read}
use Rattle.cif_shapes.proofs.RulePlaces.{place_within, placed, read_place}
use Rattle.cif_shapes.proofs.rules.Rules.of_cell.Goals as goal

pub index-requires-in-Some : goal.index-requires-in-Some
index-requires-in-Some c = omega (arith, c.self.inside.rules.ok.0, place_within c.self.inside.rules.items c.self.inside.places.items c.args.self.now c.args.number c.in-Some.place c.self.view_is (read_place c.self.inside.rules.items c.self.inside.places.items c.args.self.now c.args.number _ c.in-Some.place c.self.view_is c.requires c.index.ensures c.in-Some.is) c.requires)

pub returns : goal.returns
returns c =
    let is = read_place c.self.inside.rules.items c.self.inside.places.items c.args.self.now c.args.number _ c.in-Some.place c.self.view_is c.requires c.index.ensures c.in-Some.is in
    placed c.self.inside.rules.items c.self.inside.places.items c.args.self.now c.args.number c.in-Some.place c.self.view_is is
    ∙ slice_get_read c.self.inside.rules.items _ c.in-Some.place c.index-in-Some.result.now refl (place_within c.self.inside.rules.items c.self.inside.places.items c.args.self.now c.args.number c.in-Some.place c.self.view_is is c.requires) c.index-in-Some.ensures
