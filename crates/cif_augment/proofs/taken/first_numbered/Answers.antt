use Rattle.std.specs.Prelude.{Some}
use Rattle.std.specs.List.{list_any}
use Rattle.std.proofs.Common.{ap, sym, ◌∙◌, List, ℕ}
use Rattle.cif_augment.specs.Refusals.{is_numbered_for}
use Rattle.cif_augment.proofs.FirstNames.{first_named, none_named}
use Rattle.cif_augment.proofs.taken.first_numbered.Goals as goal

pub returns-then-is_numbered : goal.returns-then-is_numbered
returns-then-is_numbered g c =
    ap (λ (n : List ℕ). Some n) c.name_bytes-then-is_numbered.ensures
    ∙ first_named g.T.Named.name_of (λ name. list_any (is_numbered_for name) c.args.cells.now) c.args.things.now c.loop-thing.thing-index c.thing-item.result c.requires.things c.loop-thing-test.true c.thing-item.is c.loop-thing.invariant
    (ap (λ (n : List ℕ). list_any (is_numbered_for n) c.args.cells.now) (sym c.name_bytes.ensures) ∙ sym c.is_numbered.ensures ∙ c.if-is_numbered.true)

pub returns : goal.returns
returns g c = none_named g.T.Named.name_of (λ name. list_any (is_numbered_for name) c.args.cells.now) c.args.things.now c.loop-thing.thing-index c.loop-thing-test.false c.loop-thing.invariant
