use Rattle.std.proofs.Common.{refl}
use Rattle.cif_defs.specs.Cells.{words_by}
use Rattle.cif_defs.specs.Meanings.{add_word, sub_word, mul_word, div_word, mod_word, divfloor_word, modfloor_word, lt_word, le_word, ge_word, gt_word}
use Rattle.cif_defs.specs.declared.kinds.Kind.TheVariants.{Add, Sub, Mul, Div, Mod, DivFloor, ModFloor, Lt, Le, Ge, Gt}
use Rattle.cif_meanings.proofs.NumberCells.{pair_row}
use Rattle.cif_meanings.proofs.meanings.numbers.arithmetic_word.Goals as goal

pub returns-in-Add : goal.returns-in-Add
unfolding words_by
returns-in-Add c =
    pair_row c.args.cell.now Add c.output_width-width.result c.both_signed-signed.result add_word c.args.a.now c.args.b.now c.add_word.result
    c.in-Add.ensures c.output_width-width.ensures c.both_signed-signed.ensures refl c.add_word.ensures

pub returns-in-Sub : goal.returns-in-Sub
unfolding words_by
returns-in-Sub c =
    pair_row c.args.cell.now Sub c.output_width-width.result c.both_signed-signed.result sub_word c.args.a.now c.args.b.now c.sub_word.result
    c.in-Sub.ensures c.output_width-width.ensures c.both_signed-signed.ensures refl c.sub_word.ensures

pub returns-in-Mul : goal.returns-in-Mul
unfolding words_by
returns-in-Mul c =
    pair_row c.args.cell.now Mul c.output_width-width.result c.both_signed-signed.result mul_word c.args.a.now c.args.b.now c.mul_word.result
    c.in-Mul.ensures c.output_width-width.ensures c.both_signed-signed.ensures refl c.mul_word.ensures

pub returns-in-Div : goal.returns-in-Div
unfolding words_by
returns-in-Div c =
    pair_row c.args.cell.now Div c.output_width-width.result c.both_signed-signed.result div_word c.args.a.now c.args.b.now c.div_word.result
    c.in-Div.ensures c.output_width-width.ensures c.both_signed-signed.ensures refl c.div_word.ensures

pub returns-in-Mod : goal.returns-in-Mod
unfolding words_by
returns-in-Mod c =
    pair_row c.args.cell.now Mod c.output_width-width.result c.both_signed-signed.result mod_word c.args.a.now c.args.b.now c.mod_word.result
    c.in-Mod.ensures c.output_width-width.ensures c.both_signed-signed.ensures refl c.mod_word.ensures

pub returns-in-DivFloor : goal.returns-in-DivFloor
unfolding words_by
returns-in-DivFloor c =
    pair_row c.args.cell.now DivFloor c.output_width-width.result c.both_signed-signed.result divfloor_word c.args.a.now c.args.b.now c.divfloor_word.result
    c.in-DivFloor.ensures c.output_width-width.ensures c.both_signed-signed.ensures refl c.divfloor_word.ensures

pub returns-in-ModFloor : goal.returns-in-ModFloor
unfolding words_by
returns-in-ModFloor c =
    pair_row c.args.cell.now ModFloor c.output_width-width.result c.both_signed-signed.result modfloor_word c.args.a.now c.args.b.now c.modfloor_word.result
    c.in-ModFloor.ensures c.output_width-width.ensures c.both_signed-signed.ensures refl c.modfloor_word.ensures

pub returns-in-Lt : goal.returns-in-Lt
unfolding words_by
returns-in-Lt c =
    pair_row c.args.cell.now Lt c.output_width-width.result c.both_signed-signed.result lt_word c.args.a.now c.args.b.now c.lt_word.result
    c.in-Lt.ensures c.output_width-width.ensures c.both_signed-signed.ensures refl c.lt_word.ensures

pub returns-in-Le : goal.returns-in-Le
unfolding words_by
returns-in-Le c =
    pair_row c.args.cell.now Le c.output_width-width.result c.both_signed-signed.result le_word c.args.a.now c.args.b.now c.le_word.result
    c.in-Le.ensures c.output_width-width.ensures c.both_signed-signed.ensures refl c.le_word.ensures

pub returns-in-Ge : goal.returns-in-Ge
unfolding words_by
returns-in-Ge c =
    pair_row c.args.cell.now Ge c.output_width-width.result c.both_signed-signed.result ge_word c.args.a.now c.args.b.now c.ge_word.result
    c.in-Ge.ensures c.output_width-width.ensures c.both_signed-signed.ensures refl c.ge_word.ensures

pub returns-in-Gt : goal.returns-in-Gt
unfolding words_by
returns-in-Gt c =
    pair_row c.args.cell.now Gt c.output_width-width.result c.both_signed-signed.result gt_word c.args.a.now c.args.b.now c.gt_word.result
    c.in-Gt.ensures c.output_width-width.ensures c.both_signed-signed.ensures refl c.gt_word.ensures
