use Rattle.std.proofs.Common.{arith}
use Rattle.cif_arith.proofs.Meanings.{compared-less}
use Rattle.cif_term.proofs.Widened.{number_extended}
use Rattle.cif_term.proofs.apply.is_less.Goals as goal

pub returns : goal.returns
returns c = compared-less c.width.result _ _ _ _ _ _ (omega arith) (omega arith)
    (number_extended _ _ _ _ (omega arith) c.to_u128.ensures.value) (number_extended _ _ _ _ (omega arith) c.to_u128-2.ensures.value) c.less.ensures
