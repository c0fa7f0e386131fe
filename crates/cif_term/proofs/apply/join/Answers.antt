use Rattle.std.proofs.Common.{◌≡◌, IfOk, subst, sym}
use Rattle.cif_bits.proofs.WordForms.{joined_is}
use Rattle.cif_defs.specs.Words.{Word}
use Rattle.cif_term.proofs.apply.join.Goals as goal

pub returns : goal.returns
returns c = subst (λ (x : Word). IfOk c.concat.result (λ w. w ≡ x)) (sym (joined_is c.args.low.now c.args.high.now)) c.concat.ensures
