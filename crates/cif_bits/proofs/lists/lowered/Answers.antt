use Rattle.std.proofs.Common.{◌≡◌, IfOk, length, subst}
use Rattle.cif_defs.specs.Words.{Word}
use Rattle.cif_bits.proofs.WordForms.{lowered_is}
use Rattle.cif_bits.proofs.lists.lowered.Goals as goal

pub returns : goal.returns
returns c =
    subst (λ (w : Word). IfOk c.filled.result (λ v. v.items ≡ w))
    (lowered_is c.args.bits.now c.args.by _ (length c.args.bits.now) c.args.fill c.min-lost.ensures)
    c.filled.ensures
