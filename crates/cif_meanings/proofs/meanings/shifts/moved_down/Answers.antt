use Rattle.std.proofs.Common.{length, min, arith, ap, ◌∙◌}
use Rattle.cif_defs.proofs.WordLaws.{length-word}
use Rattle.cif_meanings.proofs.MeaningLaws.{answered}
use Rattle.cif_meanings.proofs.ShiftLaws.{down_is}
use Rattle.cif_meanings.proofs.meanings.shifts.moved_down.Goals as goal

pub slice-requires : goal.slice-requires
slice-requires c = omega (arith, ap length c.in_ok-moved.ensures ∙ length-word _ _)

pub returns : goal.returns
returns c = answered _ _ _ (down_is _ _ _ _ _ _ c.requires (c.capped-by.ensures ∙ ap (min c.args.places) c.width.ensures.value) c.in_ok-moved.ensures) c.slice.ensures
