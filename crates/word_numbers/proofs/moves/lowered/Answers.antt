use Rattle.std.proofs.Common.{arith, ap, sym, ◌∙◌, ◌<◌, ◌/◌, ◌^◌}
use Rattle.std.proofs.lemmas.Nat.{or_lt, shr_le}
use Rattle.cif_defs.specs.Words.{word_of}
use Rattle.word_numbers.specs.HeldWords.{lowered_word}
use Rattle.word_numbers.proofs.Digits.{and_lt}
use Rattle.word_numbers.proofs.MoveLaws.{all_lowered, none_lowered, word_of-lowered}
use Rattle.word_numbers.proofs.moves.lowered.Goals as goal

pub returns-then-by-eq0-clause-word : goal.returns-then-by-eq0-clause-word
returns-then-by-eq0-clause-word c = none_lowered c.args.width c.args.number c.args.fill
    ∙ ap (λ k. lowered_word k c.args.fill (word_of c.args.width c.args.number)) (sym c.if-by-eq0.true)

pub returns-then-by-width-clause-word : goal.returns-then-by-width-clause-word
returns-then-by-width-clause-word c =
    word_of-lowered c.args.width c.args.by c.args.number c.mask.result c.repeated.result c.complement.result c.args.fill
    c.if-by-width.true c.requires.fits c.mask.ensures.value c.repeated.ensures.word c.complement.ensures.word

pub returns-then-by-width-clause-fits : goal.returns-then-by-width-clause-fits
returns-then-by-width-clause-fits c =
    let down : c.args.number / 2 ^ c.args.by < 2 ^ c.args.width = omega (arith, shr_le c.args.number c.args.by) in
    or_lt c.args.width _ _ down (and_lt c.args.width c.repeated.result c.complement.result c.repeated.ensures.fits)

pub returns-else-by-width-clause-word : goal.returns-else-by-width-clause-word
returns-else-by-width-clause-word c =
    all_lowered c.args.width c.args.by c.args.number c.repeated-else-by-width.result c.args.fill c.if-by-width.false c.repeated-else-by-width.ensures.word
