use Rattle.std.proofs.Common.{arith, ap, ◌∙◌, ◌≡◌, length}
use Rattle.cif_defs.specs.Words.{operand}
use Rattle.cif_defs.specs.Meanings.{neg_word}
use Rattle.cif_meanings.proofs.NumberCells.{IsNegFit, gives_items, neg_fits, neg_row}
use Rattle.cif_meanings.proofs.meanings.numbers.neg_output.Goals as goal

pub output_width-width-requires : goal.output_width-width-requires
output_width-width-requires c = let fits : IsNegFit c.args.cell.now c.args.operands.now = neg_fits c.args.cell.now c.args.operands.now c.requires.kind c.requires.fitted c.requires.operands in omega (arith, fits.limit)

pub operand-a-requires : goal.operand-a-requires
operand-a-requires c = (neg_fits c.args.cell.now c.args.operands.now c.requires.kind c.requires.fitted c.requires.operands).one

pub neg_word-requires-clause-some : goal.neg_word-requires-clause-some
neg_word-requires-clause-some c = let fits : IsNegFit c.args.cell.now c.args.operands.now = neg_fits c.args.cell.now c.args.operands.now c.requires.kind c.requires.fitted c.requires.operands in omega (arith, fits.some, c.output_width-width.ensures)

pub neg_word-requires-clause-limit : goal.neg_word-requires-clause-limit
neg_word-requires-clause-limit c = let fits : IsNegFit c.args.cell.now c.args.operands.now = neg_fits c.args.cell.now c.args.operands.now c.requires.kind c.requires.fitted c.requires.operands in omega (arith, fits.limit, c.output_width-width.ensures)

pub neg_word-requires-clause-a : goal.neg_word-requires-clause-a
neg_word-requires-clause-a c =
    let fits : IsNegFit c.args.cell.now c.args.operands.now = neg_fits c.args.cell.now c.args.operands.now c.requires.kind c.requires.fitted c.requires.operands in
    let same : length c.operand-a.result.now ≡ length (operand c.args.operands.now 0) = ap length c.operand-a.ensures in
    omega (arith, fits.a)

pub returns : goal.returns
returns c =
    let made : c.in_ok-word.word ≡ neg_word c.output_width-width.result c.is_one-signed.result (operand c.args.operands.now 0) =
    c.in_ok-word.ensures ∙ ap (neg_word c.output_width-width.result c.is_one-signed.result) c.operand-a.ensures in
    gives_items c.single.result _ _ c.single.ensures
    (neg_row c.args.cell.now c.args.operands.now c.output_width-width.result c.is_one-signed.result c.in_ok-word.word c.requires.kind c.output_width-width.ensures c.is_one-signed.ensures made)
