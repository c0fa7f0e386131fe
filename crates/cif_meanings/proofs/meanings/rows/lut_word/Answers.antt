use Rattle.std.proofs.Common.{refl, ap, ◌∙◌}
use Rattle.cif_defs.specs.Words.{bit, number, flag_word}
use Rattle.cif_defs.specs.Cells.{words_by, digits_of}
use Rattle.cif_defs.specs.declared.kinds.Kind.TheVariants.{Lut as LutKind}
use Rattle.cif_defs.specs.declared.kinds.Param.TheVariants.{Lut}
use Rattle.cif_meanings.proofs.RowLaws.{alone, by_kind, row_2}
use Rattle.cif_meanings.proofs.meanings.rows.lut_word.Goals as goal

pub returns : goal.returns
unfolding words_by
returns c =
    alone _ _ _
    (row_2 flag_word 1 1 _ _ _ refl (c.digit.ensures ∙ ap (bit (digits_of c.args.cell.now Lut)) (c.to_u128-place.ensures.value ∙ ap number c.operand-a.ensures)) (by_kind c.args.cell.now c.args.operands.now _ LutKind _ refl c.requires.kind refl))
    c.answer_word.ensures
