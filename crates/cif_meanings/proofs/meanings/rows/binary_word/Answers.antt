use Rattle.cif_defs.specs.Cells.{words_by}
use Rattle.cif_defs.specs.Meanings.{and_word, or_word, xor_word, xnor_word, logic_and_word, logic_or_word}
use Rattle.cif_defs.specs.declared.kinds.Kind.TheVariants.{And, Or, Xor, Xnor, LogicAnd, LogicOr}
use Rattle.std.proofs.Common.{refl, ap, ◌∙◌}
use Rattle.cif_meanings.specs.CellPorts.{is_binary}
use Rattle.cif_meanings.proofs.RowLaws.{alone, by_kind, row_3, row_4, last_binary}
use Rattle.cif_meanings.proofs.meanings.rows.binary_word.Goals as goal

pub returns-in-And : goal.returns-in-And
unfolding words_by
returns-in-And c =
    alone _ _ _ (row_4 and_word _ _ _ _ _ _ _ _ _ c.small_number-width.ensures c.are_signed-signed.ensures c.operand-a.ensures c.operand-b.ensures (by_kind c.args.cell.now c.args.operands.now _ And _ c.kind.ensures c.in-And.is refl))
    c.and_word.ensures

pub returns-in-Or : goal.returns-in-Or
unfolding words_by
returns-in-Or c =
    alone _ _ _ (row_4 or_word _ _ _ _ _ _ _ _ _ c.small_number-width.ensures c.are_signed-signed.ensures c.operand-a.ensures c.operand-b.ensures (by_kind c.args.cell.now c.args.operands.now _ Or _ c.kind.ensures c.in-Or.is refl))
    c.or_word.ensures

pub returns-in-Xor : goal.returns-in-Xor
unfolding words_by
returns-in-Xor c =
    alone _ _ _ (row_4 xor_word _ _ _ _ _ _ _ _ _ c.small_number-width.ensures c.are_signed-signed.ensures c.operand-a.ensures c.operand-b.ensures (by_kind c.args.cell.now c.args.operands.now _ Xor _ c.kind.ensures c.in-Xor.is refl))
    c.xor_word.ensures

pub returns-in-Xnor : goal.returns-in-Xnor
unfolding words_by
returns-in-Xnor c =
    alone _ _ _ (row_4 xnor_word _ _ _ _ _ _ _ _ _ c.small_number-width.ensures c.are_signed-signed.ensures c.operand-a.ensures c.operand-b.ensures (by_kind c.args.cell.now c.args.operands.now _ Xnor _ c.kind.ensures c.in-Xnor.is refl))
    c.xnor_word.ensures

pub returns-in-LogicAnd : goal.returns-in-LogicAnd
unfolding words_by
returns-in-LogicAnd c =
    alone _ _ _ (row_3 logic_and_word _ _ _ _ _ _ _ c.small_number-width.ensures c.operand-a.ensures c.operand-b.ensures (by_kind c.args.cell.now c.args.operands.now _ LogicAnd _ c.kind.ensures c.in-LogicAnd.is refl))
    c.logic_and_word.ensures

pub returns-in_default : goal.returns-in_default
unfolding words_by
returns-in_default c =
    let d = c.in_default in
    alone _ _ _
    (row_3 logic_or_word _ _ _ _ _ _ _ c.small_number-width.ensures c.operand-a.ensures c.operand-b.ensures (by_kind c.args.cell.now c.args.operands.now _ LogicOr _ c.kind.ensures
    (last_binary _ (ap is_binary c.kind.ensures ∙ c.requires.kind) d.not-And d.not-Or d.not-Xor d.not-Xnor d.not-LogicAnd) refl))
    c.logic_or_word.ensures
