use Rattle.cif_meanings.proofs.MeaningLaws.{answered, fa_majority_is}
use Rattle.cif_meanings.proofs.meanings.bitwise.fa_majority_word.Goals as goal

pub returns : goal.returns
returns c =
    answered _ _ _
    (fa_majority_is _ _ _ _ _ _ _ _ c.requires.a_width c.requires.b_width c.requires.c_width c.in_ok-a_and_b.ensures c.in_ok-a_and_c.ensures c.in_ok-b_and_c.ensures c.in_ok-with_a.ensures)
    c.or-2.ensures
