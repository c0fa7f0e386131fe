use Rattle.std.proofs.Common.{◌≡◌, ◌∙◌, false, IfOk, ap, subst, arith}
use Rattle.cif_defs.specs.Words.{Word}
use Rattle.cif_defs.specs.Meanings.{add_word}
use Rattle.cif_arith.proofs.Meanings.{word_of-add}
use Rattle.cif_term.proofs.Widened.{number_extended}
use Rattle.cif_term.proofs.apply.sum.Goals as goal

pub returns : goal.returns
returns c =
    let a = c.args.a.now in
    let b = c.args.b.now in
    subst (λ (x : Word). IfOk c.from_u128.result (λ w. w ≡ x))
    (word_of-add c.width-width.result false a b _ _ _ (number_extended _ false _ _ (omega arith) c.to_u128.ensures.value)
    (number_extended _ false _ _ (omega arith) c.to_u128-2.ensures.value) c.add.ensures ∙ ap (λ n. add_word n false a b) c.width-width.ensures.value)
    c.from_u128.ensures
