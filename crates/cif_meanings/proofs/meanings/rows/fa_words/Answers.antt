use Rattle.std.proofs.Common.{refl}
use Rattle.cif_defs.specs.Meanings.{fa_majority_word, fa_sum_word}
use Rattle.cif_defs.specs.Cells.{words_by}
use Rattle.cif_defs.specs.declared.kinds.Kind.TheVariants.{Fa}
use Rattle.cif_meanings.proofs.RowLaws.{all_words, by_kind, both_words}
use Rattle.cif_meanings.proofs.meanings.rows.fa_words.Goals as goal

pub returns : goal.returns
unfolding words_by
returns c =
    all_words _ _ _
    (both_words fa_majority_word fa_sum_word _ _ _ _ _ _ _ _ _ _ _ c.small_number-width.ensures c.operand-a.ensures c.operand-b.ensures c.operand-c.ensures c.in_ok-majority.ensures c.in_ok-sum.ensures (by_kind c.args.cell.now c.args.operands.now _ Fa _ refl c.requires.kind refl))
    c.two.ensures
