use Rattle.std.proofs.Common.{◌≤◌, subst, sym}
use Rattle.word_choices.proofs.NarrowWidths.{narrow_shift}
use Rattle.word_choices.proofs.read.shift_of.Goals as goal

pub narrow_number-a-requires : goal.narrow_number-a-requires
narrow_number-a-requires c = (narrow_shift c.args.cell.now c.requires.fitted c.requires.narrow c.requires.kind).a_few

pub narrow_number-b-requires : goal.narrow_number-b-requires
narrow_number-b-requires c = (narrow_shift c.args.cell.now c.requires.fitted c.requires.narrow c.requires.kind).b_few

pub narrow_number-y-requires : goal.narrow_number-y-requires
narrow_number-y-requires c = (narrow_shift c.args.cell.now c.requires.fitted c.requires.narrow c.requires.kind).y_few

pub invariant_of-result : goal.invariant_of-result
invariant_of-result c =
    let cell = narrow_shift c.args.cell.now c.requires.fitted c.requires.narrow c.requires.kind in
    record {
      some_a = subst (λ n. 1 ≤ n) (sym c.narrow_number-a.ensures) cell.a_some;
      some_b = subst (λ n. 1 ≤ n) (sym c.narrow_number-b.ensures) cell.b_some;
      some_y = subst (λ n. 1 ≤ n) (sym c.narrow_number-y.ensures) cell.y_some;
      limit_a = subst (λ n. n ≤ 128) (sym c.narrow_number-a.ensures) cell.a_few;
      limit_b = subst (λ n. n ≤ 128) (sym c.narrow_number-b.ensures) cell.b_few;
      limit_y = subst (λ n. n ≤ 128) (sym c.narrow_number-y.ensures) cell.y_few;
    }
