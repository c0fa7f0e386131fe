use Rattle.std.proofs.Common.{arith, sym, ap, ◌∙◌, ◌≡◌, length}
use Rattle.cif_defs.specs.Words.{operand}
use Rattle.cif_defs.specs.Cells.{meaning}
use Rattle.cif_meanings.proofs.NumberCells.{IsPair, arithmetic_kind, gives_items, list_of_two, pair_fits}
use Rattle.cif_meanings.proofs.meanings.numbers.arithmetic_output.Goals as goal

pub operand-a-requires : goal.operand-a-requires
operand-a-requires c = let fits : IsPair 128 c.args.cell.now c.args.operands.now = pair_fits 128 c.args.cell.now c.args.operands.now (arithmetic_kind c.args.cell.now.kind c.requires.kind c.requires.no_neg c.requires.no_alu) c.requires.fitted c.requires.operands in omega (arith, fits.two)

pub operand-b-requires : goal.operand-b-requires
operand-b-requires c = let fits : IsPair 128 c.args.cell.now c.args.operands.now = pair_fits 128 c.args.cell.now c.args.operands.now (arithmetic_kind c.args.cell.now.kind c.requires.kind c.requires.no_neg c.requires.no_alu) c.requires.fitted c.requires.operands in omega (arith, fits.two)

pub arithmetic_word-requires-clause-some : goal.arithmetic_word-requires-clause-some
arithmetic_word-requires-clause-some c = (pair_fits 128 c.args.cell.now c.args.operands.now (arithmetic_kind c.args.cell.now.kind c.requires.kind c.requires.no_neg c.requires.no_alu) c.requires.fitted c.requires.operands).some

pub arithmetic_word-requires-clause-limit : goal.arithmetic_word-requires-clause-limit
arithmetic_word-requires-clause-limit c = (pair_fits 128 c.args.cell.now c.args.operands.now (arithmetic_kind c.args.cell.now.kind c.requires.kind c.requires.no_neg c.requires.no_alu) c.requires.fitted c.requires.operands).limit

pub arithmetic_word-requires-clause-a : goal.arithmetic_word-requires-clause-a
arithmetic_word-requires-clause-a c =
    let fits : IsPair 128 c.args.cell.now c.args.operands.now = pair_fits 128 c.args.cell.now c.args.operands.now (arithmetic_kind c.args.cell.now.kind c.requires.kind c.requires.no_neg c.requires.no_alu) c.requires.fitted c.requires.operands in
    let same : length c.operand-a.result.now ≡ length (operand c.args.operands.now 0) = ap length c.operand-a.ensures in
    omega (arith, fits.a)

pub arithmetic_word-requires-clause-b : goal.arithmetic_word-requires-clause-b
arithmetic_word-requires-clause-b c =
    let fits : IsPair 128 c.args.cell.now c.args.operands.now = pair_fits 128 c.args.cell.now c.args.operands.now (arithmetic_kind c.args.cell.now.kind c.requires.kind c.requires.no_neg c.requires.no_alu) c.requires.fitted c.requires.operands in
    let same : length c.operand-b.result.now ≡ length (operand c.args.operands.now 1) = ap length c.operand-b.ensures in
    omega (arith, fits.b)

pub arithmetic_word-requires-clause-a_limit : goal.arithmetic_word-requires-clause-a_limit
arithmetic_word-requires-clause-a_limit c =
    let fits : IsPair 128 c.args.cell.now c.args.operands.now = pair_fits 128 c.args.cell.now c.args.operands.now (arithmetic_kind c.args.cell.now.kind c.requires.kind c.requires.no_neg c.requires.no_alu) c.requires.fitted c.requires.operands in
    let same : length c.operand-a.result.now ≡ length (operand c.args.operands.now 0) = ap length c.operand-a.ensures in
    omega (arith, fits.a_limit)

pub arithmetic_word-requires-clause-b_limit : goal.arithmetic_word-requires-clause-b_limit
arithmetic_word-requires-clause-b_limit c =
    let fits : IsPair 128 c.args.cell.now c.args.operands.now = pair_fits 128 c.args.cell.now c.args.operands.now (arithmetic_kind c.args.cell.now.kind c.requires.kind c.requires.no_neg c.requires.no_alu) c.requires.fitted c.requires.operands in
    let same : length c.operand-b.result.now ≡ length (operand c.args.operands.now 1) = ap length c.operand-b.ensures in
    omega (arith, fits.b_limit)

pub returns : goal.returns
returns c =
    let fits : IsPair 128 c.args.cell.now c.args.operands.now = pair_fits 128 c.args.cell.now c.args.operands.now (arithmetic_kind c.args.cell.now.kind c.requires.kind c.requires.no_neg c.requires.no_alu) c.requires.fitted c.requires.operands in
    gives_items c.single.result _ _ c.single.ensures
    (c.in_ok-word.ensures ∙ ap (meaning c.args.cell.now) (list_of_two c.operand-a.ensures c.operand-b.ensures ∙ sym fits.is))
