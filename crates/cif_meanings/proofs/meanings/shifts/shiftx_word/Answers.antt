use Rattle.cif_meanings.proofs.MeaningLaws.{answered}
use Rattle.cif_meanings.proofs.ShiftLaws.{shiftx_is}
use Rattle.cif_meanings.proofs.meanings.shifts.shiftx_word.Goals as goal

pub returns : goal.returns
returns c = answered _ _ _ (shiftx_is c.args.width c.args.b_signed c.args.a.now c.args.b.now) c.shift_word.ensures
