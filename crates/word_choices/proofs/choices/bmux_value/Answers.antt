use Rattle.std.specs.Prelude.{◌*◌, ◌^◌}
use Rattle.std.proofs.Common.{sym, ap}
use Rattle.word_numbers.proofs.Digits.{number-held}
use Rattle.word_choices.proofs.ChoiceValues.{bmux_by}
use Rattle.word_choices.proofs.choices.bmux_value.Goals as goal

pub returns-clause-word : goal.returns-clause-word
returns-clause-word c =
    bmux_by c.args.blocks.width (c.args.values.b * c.args.blocks.width) c.slice.result _ _
    (sym (ap (λ k. k * c.args.blocks.width) (number-held c.args.blocks.selects c.args.values.b c.requires.s_fits)))
    (c.slice.ensures.word (c.args.blocks.width * 2 ^ c.args.blocks.selects) c.requires.a_fits)
