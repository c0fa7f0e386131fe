use Rattle.std.proofs.Common.{◌≡◌, IfOk, subst}
use Rattle.cif_defs.specs.Words.{Word}
use Rattle.cif_bits.proofs.WordForms.{extended_is}
use Rattle.cif_bits.proofs.lists.extended.Goals as goal

pub returns : goal.returns
returns c =
    subst (λ (w : Word). IfOk c.filled.result (λ v. v.items ≡ w)) (extended_is c.args.bits.now c.args.width _ _ c.min-kept.ensures) c.filled.ensures
