use Rattle.std.specs.Prelude.{◌≡◌, ◌*◌}
use Rattle.std.proofs.Common.{sym, ap, subst}
use Rattle.cif_defs.specs.Words.{word_of}
use Rattle.word_numbers.specs.HeldWords.{raised_word}
use Rattle.word_numbers.proofs.Digits.{number-held}
use Rattle.word_choices.proofs.ChoiceValues.{demux_by}
use Rattle.word_choices.proofs.choices.demux_value.Goals as goal

pub returns-clause-word : goal.returns-clause-word
returns-clause-word c =
    demux_by c.args.blocks.width c.args.blocks.selects (c.args.values.b * c.args.blocks.width) c.args.values.a c.raised.result _ c.args.blocks.some c.requires.a_fits
    (sym (ap (λ k. k * c.args.blocks.width) (number-held c.args.blocks.selects c.args.values.b c.requires.s_fits)))
    (subst (λ n. word_of n c.raised.result ≡ raised_word (c.args.values.b * c.args.blocks.width) (word_of n c.args.values.a)) c.all_bits.ensures.value c.raised.ensures.word)
