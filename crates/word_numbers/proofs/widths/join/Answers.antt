use Rattle.word_numbers.proofs.MoveLaws.{joined, joined-fits, joined-sum}
use Rattle.word_numbers.proofs.widths.join.Goals as goal

pub returns-clause-word : goal.returns-clause-word
returns-clause-word c n h = joined c.args.low_width n c.args.low c.args.high _ c.requires.low_fits h
    (joined-sum c.args.low_width c.args.low c.args.high c.requires.room c.requires.low_fits c.requires.high_fits)

pub returns-clause-fits : goal.returns-clause-fits
returns-clause-fits c n h = joined-fits c.args.low_width n c.args.low c.args.high _ c.requires.low_fits h
    (joined-sum c.args.low_width c.args.low c.args.high c.requires.room c.requires.low_fits c.requires.high_fits)
