use Rattle.std.proofs.Common.{arith, sym, ◌∙◌, ◌<◌, ◌≡◌, length}
use Rattle.cif_shadows.specs.Tables.{input_targets}
use Rattle.cif_shadows.proofs.SetLaws.{as_many_targets, each_more, source_below, source_target}
use Rattle.cif_shadows.proofs.table.Shadows.set_input.Goals as goal

pub set-requires : goal.set-requires
set-requires c b e =
    let below : b < length c.args.self.now.bits = source_below _ c.loop-place.place c.args.port.now _ _ c.requires.targets c.loop-place-test.true c.target_of.ensures b e in
    omega (arith, c.loop-place.invariant.as_many)

pub loop-place-preserved : goal.loop-place-preserved
loop-place-preserved c =
    let wide : length (input_targets c.args.port.now) ≡ length c.args.port.now = as_many_targets c.args.port.now in
    each_more _ c.loop-place.place (input_targets c.args.port.now) c.args.bits.now _ _ _ _ _ c.requires.targets (c.requires.as_many ∙ sym wide) (omega (arith, c.loop-place-test.true))
    (source_target c.args.port.now c.loop-place.place _ _ c.loop-place-test.true c.target_of.ensures) c.loop-place.invariant c.set.ensures
