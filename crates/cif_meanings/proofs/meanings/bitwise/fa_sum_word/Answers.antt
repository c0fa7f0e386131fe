use Rattle.cif_meanings.proofs.MeaningLaws.{answered, fa_sum_is}
use Rattle.cif_meanings.proofs.meanings.bitwise.fa_sum_word.Goals as goal

pub returns : goal.returns
returns c = answered _ _ _ (fa_sum_is _ _ _ _ _ c.requires.a_width c.requires.b_width c.requires.c_width c.in_ok-of_both.ensures) c.xor-2.ensures
