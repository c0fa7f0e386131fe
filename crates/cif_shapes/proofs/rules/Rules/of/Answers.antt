use Rattle.std.proofs.Common.{refl, ◌∙◌}
use Rattle.cif_shapes.proofs.RulePlaces.{stands_all, stands_more}
use Rattle.cif_shapes.proofs.rules.Rules.of.Goals as goal

pub loop-i-preserved : goal.loop-i-preserved
loop-i-preserved c = stands_more c.args.cells.now c.loop-i.i c.index-cells-i.result c.loop-i.making.rules.items c.place.new.self.rules.items c.loop-i.places.items c.push.new.self.items c.in_ok-place.place c.loop-i-test.true c.loop-i.invariant
    c.in_ok-place.ensures.place (c.in_ok-place.ensures.kept refl) c.in_ok-push.ensures.items c.index-cells-i.is

pub returns : goal.returns
returns c = c.finished.ensures ∙ stands_all c.args.cells.now c.loop-i.i c.loop-i.making.rules.items c.loop-i.places.items c.loop-i-test.false c.loop-i.invariant
