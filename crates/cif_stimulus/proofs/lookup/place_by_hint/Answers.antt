use Rattle.std.proofs.Common.{List, ℕ, bytes_eq, ap, sym, ◌∙◌}
use Rattle.cif_stimulus.proofs.NamePlaces.{hinted}
use Rattle.cif_stimulus.proofs.lookup.place_by_hint.Goals as goal

pub returns : goal.returns
returns g c =
    hinted g.T.Named.name_of c.args.things.now c.args.name.now c.in-Some.place c.index-things-place.result c.requires c.if-place-things.true c.index-things-place.is
    (ap (λ (q : List ℕ). bytes_eq q c.args.name.now) (sym c.name_bytes.ensures) ∙ sym c.if-eq.ensures)
