use Rattle.std.proofs.Common.{refl}
use Rattle.cif_shadows.proofs.SetLaws.{each_more}
use Rattle.cif_shadows.proofs.table.Shadows.set_each.Goals as goal

pub loop-place-preserved : goal.loop-place-preserved
loop-place-preserved c =
    each_more _ c.loop-place.place c.args.targets.now c.args.bits.now _ _ _ _ _ c.requires.targets c.requires.as_many c.loop-place-test.true refl c.loop-place.invariant c.set.ensures
