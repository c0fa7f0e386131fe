use Rattle.std.proofs.Common.{arith, ◌≤◌}
use Rattle.cif_defs.specs.Cells.{number_of, y_width}
use Rattle.cif_defs.specs.declared.kinds.Param.TheVariants.{AWidth}
use Rattle.word_sums.proofs.FormLaws.{HasFew, HasSome, has_few, has_some}
use Rattle.word_sums.proofs.form.SumForm.of.Goals as goal

pub narrow_number-a-requires : goal.narrow_number-a-requires
narrow_number-a-requires c = let few : HasFew c.args.cell.now = has_few c.args.cell.now c.requires.covered c.requires.fitted c.requires.narrow in few.a

pub narrow_number-y-requires : goal.narrow_number-y-requires
narrow_number-y-requires c = let few : HasFew c.args.cell.now = has_few c.args.cell.now c.requires.covered c.requires.fitted c.requires.narrow in few.y

pub invariant_of-result : goal.invariant_of-result
invariant_of-result c =
    let some : HasSome c.args.cell.now = has_some c.args.cell.now c.requires.covered c.requires.fitted in
    let few : HasFew c.args.cell.now = has_few c.args.cell.now c.requires.covered c.requires.fitted c.requires.narrow in
    let a : 1 ≤ number_of c.args.cell.now AWidth = some.a in
    let y : 1 ≤ y_width c.args.cell.now = some.y in
    let a_limit : number_of c.args.cell.now AWidth ≤ 128 = few.a in
    let y_limit : y_width c.args.cell.now ≤ 128 = few.y in
    record {
      some_a = omega (arith, c.narrow_number-a.ensures);
      some_b = c.second_width-b.ensures.some;
      some_y = omega (arith, c.narrow_number-y.ensures);
      limit_a = omega (arith, c.narrow_number-a.ensures);
      limit_b = c.second_width-b.ensures.limit;
      limit_y = omega (arith, c.narrow_number-y.ensures);
    }
