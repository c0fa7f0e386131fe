use Rattle.std.proofs.Common.{refl}
use Rattle.cif_defs.specs.Cells.{words_by}
use Rattle.cif_defs.specs.Meanings.{concat_word}
use Rattle.cif_defs.specs.declared.kinds.Kind.TheVariants.{Concat}
use Rattle.cif_meanings.proofs.RowLaws.{alone, by_kind, row_4}
use Rattle.cif_meanings.proofs.meanings.rows.concat_word.Goals as goal

pub returns : goal.returns
unfolding words_by
returns c =
    alone _ _ _ (row_4 concat_word _ _ _ _ _ _ _ _ _ c.small_number-a_width.ensures c.small_number-b_width.ensures c.operand-a.ensures c.operand-b.ensures (by_kind c.args.cell.now c.args.operands.now _ Concat _ refl c.requires.kind refl))
    c.concat_word.ensures
