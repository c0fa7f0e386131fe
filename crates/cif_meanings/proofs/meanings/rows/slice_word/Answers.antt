use Rattle.std.proofs.Common.{refl}
use Rattle.cif_defs.specs.Cells.{words_by}
use Rattle.cif_defs.specs.Meanings.{slice_word}
use Rattle.cif_defs.specs.declared.kinds.Kind.TheVariants.{Slice}
use Rattle.cif_meanings.proofs.RowLaws.{alone, by_kind, row_3}
use Rattle.cif_meanings.proofs.meanings.rows.slice_word.Goals as goal

pub returns : goal.returns
unfolding words_by
returns c =
    alone _ _ _ (row_3 slice_word _ _ _ _ _ _ _ c.small_number-width.ensures c.small_number-offset.ensures c.operand.ensures (by_kind c.args.cell.now c.args.operands.now _ Slice _ refl c.requires.kind refl))
    c.slice_word.ensures
