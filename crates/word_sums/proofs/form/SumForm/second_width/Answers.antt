use Rattle.std.proofs.Common.{arith, sym, ap, ◌∙◌, ◌≤◌}
use Rattle.cif_defs.specs.Cells.{number_of}
use Rattle.cif_defs.specs.declared.kinds.Param.TheVariants.{BWidth}
use Rattle.word_sums.specs.Covered.{is_neg}
use Rattle.word_sums.proofs.FormLaws.{HasFew, HasSome, has_few, has_some}
use Rattle.word_sums.proofs.form.SumForm.second_width.Goals as goal

pub narrow_number-requires : goal.narrow_number-requires
narrow_number-requires c =
    let few : HasFew c.args.cell.now = has_few c.args.cell.now c.requires.covered c.requires.fitted c.requires.narrow in
    few.b (sym (ap is_neg c.kind.ensures) ∙ sym c.is_neg.ensures ∙ c.if-is_neg.false)

pub returns-else-is_neg-clause-some : goal.returns-else-is_neg-clause-some
returns-else-is_neg-clause-some c =
    let some : HasSome c.args.cell.now = has_some c.args.cell.now c.requires.covered c.requires.fitted in
    let b : 1 ≤ number_of c.args.cell.now BWidth = some.b (sym (ap is_neg c.kind.ensures) ∙ sym c.is_neg.ensures ∙ c.if-is_neg.false) in
    omega (arith, c.narrow_number.ensures)

pub returns-else-is_neg-clause-limit : goal.returns-else-is_neg-clause-limit
returns-else-is_neg-clause-limit c =
    let few : HasFew c.args.cell.now = has_few c.args.cell.now c.requires.covered c.requires.fitted c.requires.narrow in
    let b : number_of c.args.cell.now BWidth ≤ 128 = few.b (sym (ap is_neg c.kind.ensures) ∙ sym c.is_neg.ensures ∙ c.if-is_neg.false) in
    omega (arith, c.narrow_number.ensures)
