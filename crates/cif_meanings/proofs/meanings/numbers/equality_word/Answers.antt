use Rattle.std.proofs.Common.{refl}
use Rattle.cif_defs.specs.Cells.{words_by}
use Rattle.cif_defs.specs.Meanings.{eq_word, ne_word}
use Rattle.cif_defs.specs.declared.kinds.Kind.TheVariants.{Eq, Eqx, Ne, Nex}
use Rattle.cif_meanings.proofs.NumberCells.{pair_row}
use Rattle.cif_meanings.proofs.meanings.numbers.equality_word.Goals as goal

pub returns-in-Eq : goal.returns-in-Eq
unfolding words_by
returns-in-Eq c =
    pair_row c.args.cell.now Eq c.output_width-width.result c.both_signed-signed.result eq_word c.args.a.now c.args.b.now c.eq_word.result
    c.in-Eq.ensures c.output_width-width.ensures c.both_signed-signed.ensures refl c.eq_word.ensures

pub returns-in-Eqx : goal.returns-in-Eqx
unfolding words_by
returns-in-Eqx c =
    pair_row c.args.cell.now Eqx c.output_width-width.result c.both_signed-signed.result eq_word c.args.a.now c.args.b.now c.eq_word-in-Eqx.result
    c.in-Eqx.ensures c.output_width-width.ensures c.both_signed-signed.ensures refl c.eq_word-in-Eqx.ensures

pub returns-in-Ne : goal.returns-in-Ne
unfolding words_by
returns-in-Ne c =
    pair_row c.args.cell.now Ne c.output_width-width.result c.both_signed-signed.result ne_word c.args.a.now c.args.b.now c.ne_word.result
    c.in-Ne.ensures c.output_width-width.ensures c.both_signed-signed.ensures refl c.ne_word.ensures

pub returns-in-Nex : goal.returns-in-Nex
unfolding words_by
returns-in-Nex c =
    pair_row c.args.cell.now Nex c.output_width-width.result c.both_signed-signed.result ne_word c.args.a.now c.args.b.now c.ne_word-in-Nex.result
    c.in-Nex.ensures c.output_width-width.ensures c.both_signed-signed.ensures refl c.ne_word-in-Nex.ensures
