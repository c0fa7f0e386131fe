use Rattle.std.proofs.Common.{arith, ap, ◌∙◌, ◌≡◌, List, length}
use Rattle.cif_defs.specs.Words.{Word, bit, operand}
use Rattle.cif_meanings.proofs.NumberCells.{IsAluFit, alu_fits, alu_row, gives_items, list_of_three}
use Rattle.cif_meanings.proofs.meanings.numbers.alu_outputs.Goals as goal

pub output_width-width-requires : goal.output_width-width-requires
output_width-width-requires c = let fits : IsAluFit c.args.cell.now c.args.operands.now = alu_fits c.args.cell.now c.args.operands.now c.requires.kind c.requires.fitted c.requires.operands in omega (arith, fits.limit)

pub operand-a-requires : goal.operand-a-requires
operand-a-requires c = let fits : IsAluFit c.args.cell.now c.args.operands.now = alu_fits c.args.cell.now c.args.operands.now c.requires.kind c.requires.fitted c.requires.operands in omega (arith, fits.four)

pub operand-b-requires : goal.operand-b-requires
operand-b-requires c = let fits : IsAluFit c.args.cell.now c.args.operands.now = alu_fits c.args.cell.now c.args.operands.now c.requires.kind c.requires.fitted c.requires.operands in omega (arith, fits.four)

pub operand-ci-requires : goal.operand-ci-requires
operand-ci-requires c = let fits : IsAluFit c.args.cell.now c.args.operands.now = alu_fits c.args.cell.now c.args.operands.now c.requires.kind c.requires.fitted c.requires.operands in omega (arith, fits.four)

pub operand-bi-requires : goal.operand-bi-requires
operand-bi-requires c = let fits : IsAluFit c.args.cell.now c.args.operands.now = alu_fits c.args.cell.now c.args.operands.now c.requires.kind c.requires.fitted c.requires.operands in omega (arith, fits.four)

pub get-carry-requires : goal.get-carry-requires
get-carry-requires c =
    let fits : IsAluFit c.args.cell.now c.args.operands.now = alu_fits c.args.cell.now c.args.operands.now c.requires.kind c.requires.fitted c.requires.operands in
    let same : length c.operand-ci.result.now ≡ length (operand c.args.operands.now 2) = ap length c.operand-ci.ensures in
    omega (arith, fits.carry)

pub get-invert-requires : goal.get-invert-requires
get-invert-requires c =
    let fits : IsAluFit c.args.cell.now c.args.operands.now = alu_fits c.args.cell.now c.args.operands.now c.requires.kind c.requires.fitted c.requires.operands in
    let same : length c.operand-bi.result.now ≡ length (operand c.args.operands.now 3) = ap length c.operand-bi.ensures in
    omega (arith, fits.invert)

pub alu_words-requires-clause-some : goal.alu_words-requires-clause-some
alu_words-requires-clause-some c = let fits : IsAluFit c.args.cell.now c.args.operands.now = alu_fits c.args.cell.now c.args.operands.now c.requires.kind c.requires.fitted c.requires.operands in omega (arith, fits.some, c.output_width-width.ensures)

pub alu_words-requires-clause-limit : goal.alu_words-requires-clause-limit
alu_words-requires-clause-limit c = let fits : IsAluFit c.args.cell.now c.args.operands.now = alu_fits c.args.cell.now c.args.operands.now c.requires.kind c.requires.fitted c.requires.operands in omega (arith, fits.limit, c.output_width-width.ensures)

pub alu_words-requires-clause-a : goal.alu_words-requires-clause-a
alu_words-requires-clause-a c =
    let fits : IsAluFit c.args.cell.now c.args.operands.now = alu_fits c.args.cell.now c.args.operands.now c.requires.kind c.requires.fitted c.requires.operands in
    let same : length c.operand-a.result.now ≡ length (operand c.args.operands.now 0) = ap length c.operand-a.ensures in
    omega (arith, fits.a)

pub alu_words-requires-clause-b : goal.alu_words-requires-clause-b
alu_words-requires-clause-b c =
    let fits : IsAluFit c.args.cell.now c.args.operands.now = alu_fits c.args.cell.now c.args.operands.now c.requires.kind c.requires.fitted c.requires.operands in
    let same : length c.operand-b.result.now ≡ length (operand c.args.operands.now 1) = ap length c.operand-b.ensures in
    omega (arith, fits.b)

pub returns : goal.returns
returns c =
    let us : List Word = c.args.operands.now in
    gives_items c.three.result _ _ c.three.ensures
    (list_of_three c.in_ok-words.ensures.x c.in_ok-words.ensures.y c.in_ok-words.ensures.co
    ∙ alu_row c.args.cell.now us c.output_width-width.result c.both_signed-signed.result c.get-carry.result c.get-invert.result c.operand-a.result.now c.operand-b.result.now
    c.requires.kind c.output_width-width.ensures c.both_signed-signed.ensures
    (c.get-carry.ensures ∙ ap (λ (w : Word). bit w 0) c.operand-ci.ensures) (c.get-invert.ensures ∙ ap (λ (w : Word). bit w 0) c.operand-bi.ensures)
    c.operand-a.ensures c.operand-b.ensures)
