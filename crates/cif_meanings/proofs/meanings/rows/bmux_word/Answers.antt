use Rattle.std.proofs.Common.{refl}
use Rattle.cif_defs.specs.Cells.{words_by}
use Rattle.cif_defs.specs.Meanings.{bmux_word}
use Rattle.cif_defs.specs.declared.kinds.Kind.TheVariants.{Bmux}
use Rattle.cif_meanings.proofs.RowLaws.{alone, by_kind, row_3}
use Rattle.cif_meanings.proofs.meanings.rows.bmux_word.Goals as goal

pub returns : goal.returns
unfolding words_by
returns c =
    alone _ _ _ (row_3 bmux_word _ _ _ _ _ _ _ c.small_number-width.ensures c.operand-a.ensures c.operand-s.ensures (by_kind c.args.cell.now c.args.operands.now _ Bmux _ refl c.requires.kind refl))
    c.bmux_word.ensures
