use Rattle.std.proofs.Common.{not}
use Rattle.cif_meanings.proofs.MeaningLaws.{answered, each_bit}
use Rattle.cif_meanings.proofs.meanings.bitwise.xnor_word.Goals as goal

pub returns : goal.returns
returns c = answered _ _ _ (each_bit not _ _ _ c.in_ok-different.ensures) c.not.ensures
