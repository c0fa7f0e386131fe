use Rattle.cif_defs.specs.Cells.{words_by}
use Rattle.cif_defs.specs.Meanings.{not_word, pos_word, reduce_and_word, reduce_or_word, reduce_xor_word, reduce_xnor_word, logic_not_word}
use Rattle.cif_defs.specs.declared.kinds.Kind.TheVariants.{Not, Pos, ReduceAnd, ReduceXor, ReduceXnor, LogicNot}
use Rattle.std.proofs.Common.{refl, ap, ◌∙◌}
use Rattle.cif_meanings.specs.CellPorts.{is_unary}
use Rattle.cif_meanings.proofs.RowLaws.{alone, by_kind, row_2, row_3, last_unary}
use Rattle.cif_meanings.proofs.meanings.rows.unary_word.Goals as goal

pub returns-in-Not : goal.returns-in-Not
unfolding words_by
returns-in-Not c =
    alone _ _ _ (row_3 not_word _ _ _ _ _ _ _ c.small_number-width.ensures c.is_signed-signed.ensures c.operand-a.ensures (by_kind c.args.cell.now c.args.operands.now _ Not _ c.kind.ensures c.in-Not.is refl))
    c.not_word.ensures

pub returns-in-Pos : goal.returns-in-Pos
unfolding words_by
returns-in-Pos c =
    alone _ _ _ (row_3 pos_word _ _ _ _ _ _ _ c.small_number-width.ensures c.is_signed-signed.ensures c.operand-a.ensures (by_kind c.args.cell.now c.args.operands.now _ Pos _ c.kind.ensures c.in-Pos.is refl))
    c.pos_word.ensures

pub returns-in-ReduceAnd : goal.returns-in-ReduceAnd
unfolding words_by
returns-in-ReduceAnd c =
    alone _ _ _ (row_2 reduce_and_word _ _ _ _ _ c.small_number-width.ensures c.operand-a.ensures (by_kind c.args.cell.now c.args.operands.now _ ReduceAnd _ c.kind.ensures c.in-ReduceAnd.is refl))
    c.reduce_and_word.ensures

pub returns-in-ReduceXor : goal.returns-in-ReduceXor
unfolding words_by
returns-in-ReduceXor c =
    alone _ _ _ (row_2 reduce_xor_word _ _ _ _ _ c.small_number-width.ensures c.operand-a.ensures (by_kind c.args.cell.now c.args.operands.now _ ReduceXor _ c.kind.ensures c.in-ReduceXor.is refl))
    c.reduce_xor_word.ensures

pub returns-in-ReduceXnor : goal.returns-in-ReduceXnor
unfolding words_by
returns-in-ReduceXnor c =
    alone _ _ _ (row_2 reduce_xnor_word _ _ _ _ _ c.small_number-width.ensures c.operand-a.ensures (by_kind c.args.cell.now c.args.operands.now _ ReduceXnor _ c.kind.ensures c.in-ReduceXnor.is refl))
    c.reduce_xnor_word.ensures

pub returns-in-LogicNot : goal.returns-in-LogicNot
unfolding words_by
returns-in-LogicNot c =
    alone _ _ _ (row_2 logic_not_word _ _ _ _ _ c.small_number-width.ensures c.operand-a.ensures (by_kind c.args.cell.now c.args.operands.now _ LogicNot _ c.kind.ensures c.in-LogicNot.is refl))
    c.logic_not_word.ensures

pub returns-in_default : goal.returns-in_default
returns-in_default c =
    let d = c.in_default in
    alone _ _ _
    (row_2 reduce_or_word _ _ _ _ _ c.small_number-width.ensures c.operand-a.ensures (by_kind c.args.cell.now c.args.operands.now _ _ _ c.kind.ensures refl
    (last_unary _ c.args.cell.now c.args.operands.now (ap is_unary c.kind.ensures ∙ c.requires.kind) d.not-Not d.not-Pos d.not-ReduceAnd d.not-ReduceXor d.not-ReduceXnor d.not-LogicNot)))
    c.reduce_or_word.ensures
