use Rattle.std.proofs.Common.{arith, sym, ap, ◌∙◌, ◌≡◌, length}
use Rattle.cif_defs.specs.Words.{operand}
use Rattle.cif_defs.specs.Cells.{meaning}
use Rattle.cif_meanings.proofs.NumberCells.{IsPair, equality_kind, gives_items, list_of_two, pair_fits}
use Rattle.cif_meanings.proofs.meanings.numbers.equality_output.Goals as goal

pub operand-a-requires : goal.operand-a-requires
operand-a-requires c = let fits : IsPair 4096 c.args.cell.now c.args.operands.now = pair_fits 4096 c.args.cell.now c.args.operands.now (equality_kind c.args.cell.now.kind c.requires.kind) c.requires.fitted c.requires.operands in omega (arith, fits.two)

pub operand-b-requires : goal.operand-b-requires
operand-b-requires c = let fits : IsPair 4096 c.args.cell.now c.args.operands.now = pair_fits 4096 c.args.cell.now c.args.operands.now (equality_kind c.args.cell.now.kind c.requires.kind) c.requires.fitted c.requires.operands in omega (arith, fits.two)

pub equality_word-requires-clause-some : goal.equality_word-requires-clause-some
equality_word-requires-clause-some c = (pair_fits 4096 c.args.cell.now c.args.operands.now (equality_kind c.args.cell.now.kind c.requires.kind) c.requires.fitted c.requires.operands).some

pub equality_word-requires-clause-limit : goal.equality_word-requires-clause-limit
equality_word-requires-clause-limit c = (pair_fits 4096 c.args.cell.now c.args.operands.now (equality_kind c.args.cell.now.kind c.requires.kind) c.requires.fitted c.requires.operands).limit

pub equality_word-requires-clause-a : goal.equality_word-requires-clause-a
equality_word-requires-clause-a c =
    let fits : IsPair 4096 c.args.cell.now c.args.operands.now = pair_fits 4096 c.args.cell.now c.args.operands.now (equality_kind c.args.cell.now.kind c.requires.kind) c.requires.fitted c.requires.operands in
    let same : length c.operand-a.result.now ≡ length (operand c.args.operands.now 0) = ap length c.operand-a.ensures in
    omega (arith, fits.a)

pub equality_word-requires-clause-b : goal.equality_word-requires-clause-b
equality_word-requires-clause-b c =
    let fits : IsPair 4096 c.args.cell.now c.args.operands.now = pair_fits 4096 c.args.cell.now c.args.operands.now (equality_kind c.args.cell.now.kind c.requires.kind) c.requires.fitted c.requires.operands in
    let same : length c.operand-b.result.now ≡ length (operand c.args.operands.now 1) = ap length c.operand-b.ensures in
    omega (arith, fits.b)

pub returns : goal.returns
returns c =
    let fits : IsPair 4096 c.args.cell.now c.args.operands.now = pair_fits 4096 c.args.cell.now c.args.operands.now (equality_kind c.args.cell.now.kind c.requires.kind) c.requires.fitted c.requires.operands in
    gives_items c.single.result _ _ c.single.ensures
    (c.in_ok-word.ensures ∙ ap (meaning c.args.cell.now) (list_of_two c.operand-a.ensures c.operand-b.ensures ∙ sym fits.is))
