use Rattle.word_choices.proofs.TableLaws.{lut_exact}
use Rattle.word_choices.proofs.tables.lut_taint.Goals as goal

pub returns-clause-word : goal.returns-clause-word
returns-clause-word c =
    lut_exact c.digit_blocks.result.width c.digit_blocks.result.selects c.args.table.address c.args.table.digits c.bmux_taint.result c.untainted.result c.args.a
    c.digit_blocks.ensures.width c.digit_blocks.ensures.selects c.untainted.ensures c.bmux_taint.ensures.word
