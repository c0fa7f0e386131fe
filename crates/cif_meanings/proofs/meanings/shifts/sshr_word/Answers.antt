use Rattle.cif_meanings.proofs.MeaningLaws.{answered}
use Rattle.cif_meanings.proofs.ShiftLaws.{sshr_is}
use Rattle.cif_meanings.proofs.meanings.shifts.sshr_word.Goals as goal

pub returns : goal.returns
returns c = answered _ _ _ (sshr_is _ _ _ _ _ _ _ c.in_ok-wide.ensures c.to_u128.ensures.value c.is_negative-fill.ensures) c.moved_down.ensures
