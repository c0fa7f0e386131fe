use Rattle.std.specs.Prelude.{◌^◌, ◌+◌, ◌&&◌}
use Rattle.std.proofs.Common.{sym, ap, ◌∙◌}
use Rattle.cif_defs.specs.Words.{digit, top, word_of}
use Rattle.cif_defs.proofs.WordLaws.{length-word}
use Rattle.word_numbers.proofs.Digits.{number-held}
use Rattle.word_choices.proofs.ShiftValues.{left_offset}
use Rattle.word_choices.proofs.shifts.left_by.Goals as goal

pub returns-clause-word : goal.returns-clause-word
returns-clause-word c =
    left_offset c.args.shift.y c.magnitude-by.result c.extend.result c.raised.result c.args.shift.a_signed c.args.shift.b_signed _ (word_of c.args.shift.b c.args.values.b)
    (ap (λ s. s && top (word_of c.args.shift.b c.args.values.b)) c.requires.signed ∙ c.requires.negative)
    (ap (λ k. c.magnitude-by.result + k) (number-held c.args.shift.b c.args.values.b c.requires.b_fits) ∙ c.magnitude-by.ensures ∙ sym (ap (λ k. 2 ^ k) (length-word c.args.shift.b (digit c.args.values.b))))
    c.extend.ensures.word c.raised.ensures.word
