use Rattle.std.proofs.Common.{◌≡◌, ◌+◌, ◌-◌, ◌∙◌, IfOk, take, drop, arith, ap, subst}
use Rattle.cif_defs.specs.Words.{Word}
use Rattle.cif_bits.proofs.WordForms.{slice_is}
use Rattle.cif_bits.proofs.lists.part.Goals as goal

pub returns : goal.returns
returns c =
    let long : c.args.at + c.args.width - c.args.at ≡ c.args.width = omega arith in
    subst (λ (w : Word). IfOk c.from_slice.result (λ v. v.items ≡ w))
    (ap (λ n. take n (drop c.args.at c.args.bits.now)) long ∙ slice_is c.args.bits.now c.args.at c.args.width c.requires)
    c.from_slice.ensures.items
