use Rattle.cif_meanings.proofs.MeaningLaws.{answered}
use Rattle.cif_meanings.proofs.ShiftLaws.{shl_is}
use Rattle.cif_meanings.proofs.meanings.shifts.shl_word.Goals as goal

pub returns : goal.returns
returns c = answered _ _ _ (shl_is _ _ _ _ _ _ c.in_ok-extended.ensures c.to_u128.ensures.value) c.moved_up.ensures
