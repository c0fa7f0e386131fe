use Rattle.word_numbers.proofs.Digits.{number-held}
use Rattle.word_choices.proofs.ShiftValues.{left_word}
use Rattle.word_choices.proofs.shifts.left_value.Goals as goal

pub returns-clause-word : goal.returns-clause-word
returns-clause-word c =
    left_word c.args.shift.y c.args.values.b c.extend.result c.raised.result c.args.shift.a_signed _ _ (number-held c.args.shift.b c.args.values.b c.requires.b_fits) c.extend.ensures.word c.raised.ensures.word
