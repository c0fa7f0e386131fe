use Rattle.std.proofs.Common.{◌&&◌}
use Rattle.cif_meanings.proofs.MeaningLaws.{answered, each_two}
use Rattle.cif_meanings.proofs.meanings.bitwise.and_word.Goals as goal

pub returns : goal.returns
returns c = answered _ _ _ (each_two (λ x y. x && y) _ _ _ _ _ c.in_ok-a.ensures c.in_ok-b.ensures) c.and.ensures
