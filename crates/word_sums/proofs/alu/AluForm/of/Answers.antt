use Rattle.std.proofs.Common.{arith, ◌≤◌}
use Rattle.cif_defs.specs.Cells.{number_of, y_width}
use Rattle.cif_defs.specs.declared.kinds.Param.TheVariants.{AWidth, BWidth}
use Rattle.word_sums.proofs.AluLaws.{HasAluWidths, alu_widths}
use Rattle.word_sums.proofs.alu.AluForm.of.Goals as goal

pub narrow_number-a-requires : goal.narrow_number-a-requires
narrow_number-a-requires c = let w : HasAluWidths c.args.cell.now = alu_widths c.args.cell.now c.requires.kind c.requires.fitted in w.few_a

pub narrow_number-b-requires : goal.narrow_number-b-requires
narrow_number-b-requires c = let w : HasAluWidths c.args.cell.now = alu_widths c.args.cell.now c.requires.kind c.requires.fitted in w.few_b

pub narrow_number-y-requires : goal.narrow_number-y-requires
narrow_number-y-requires c = let w : HasAluWidths c.args.cell.now = alu_widths c.args.cell.now c.requires.kind c.requires.fitted in w.few_y

pub invariant_of-result : goal.invariant_of-result
invariant_of-result c =
    let w : HasAluWidths c.args.cell.now = alu_widths c.args.cell.now c.requires.kind c.requires.fitted in
    let a : 1 ≤ number_of c.args.cell.now AWidth = w.some_a in
    let b : 1 ≤ number_of c.args.cell.now BWidth = w.some_b in
    let y : 1 ≤ y_width c.args.cell.now = w.some_y in
    let a_limit : number_of c.args.cell.now AWidth ≤ 128 = w.few_a in
    let b_limit : number_of c.args.cell.now BWidth ≤ 128 = w.few_b in
    let y_limit : y_width c.args.cell.now ≤ 128 = w.few_y in
    record {
      some_a = omega (arith, c.narrow_number-a.ensures);
      some_b = omega (arith, c.narrow_number-b.ensures);
      some_y = omega (arith, c.narrow_number-y.ensures);
      limit_a = omega (arith, c.narrow_number-a.ensures);
      limit_b = omega (arith, c.narrow_number-b.ensures);
      limit_y = omega (arith, c.narrow_number-y.ensures);
    }
