use Rattle.cif_defs.specs.Words.{xor}
use Rattle.cif_meanings.proofs.MeaningLaws.{answered, each_two}
use Rattle.cif_meanings.proofs.meanings.bitwise.xor_word.Goals as goal

pub returns : goal.returns
returns c = answered _ _ _ (each_two xor _ _ _ _ _ c.in_ok-a.ensures c.in_ok-b.ensures) c.xor.ensures
