use Rattle.std.specs.Prelude.{max}
use Rattle.std.proofs.Common.{sym, ap, ◌∙◌}
use Rattle.cif_defs.specs.Words.{digit, word_of}
use Rattle.cif_defs.proofs.WordLaws.{length-word}
use Rattle.word_numbers.proofs.Digits.{number-held}
use Rattle.word_choices.proofs.ShiftValues.{right_word}
use Rattle.word_choices.proofs.shifts.right_value.Goals as goal

pub returns-clause-word : goal.returns-clause-word
returns-clause-word c =
    right_word c.args.shift.y c.args.values.b c.shown_width-width.result c.extend-shown.result c.lowered.result c.lowest.result c.args.shift.a_signed (word_of c.args.shift.a c.args.values.a) _
    (c.shown_width-width.ensures.value ∙ sym (ap (λ k. max k c.args.shift.y) (length-word c.args.shift.a (digit c.args.values.a))))
    (number-held c.args.shift.b c.args.values.b c.requires.b_fits) c.extend-shown.ensures.word c.lowered.ensures.word c.lowest.ensures.word
