use Rattle.std.proofs.Common.{◌≡◌, Bool, true, false, refl}
use Rattle.cif_defs.specs.Words.{bit_value}
use Rattle.word_numbers.proofs.FlagLaws.{flag_below, word_of-flag}
use Rattle.word_numbers.proofs.flags.flag.Goals as goal
use mir.Val.{bool_byte}

value : (b : Bool) → bool_byte b ≡ bit_value b
value true = refl
value false = refl

pub returns-clause-word : goal.returns-clause-word
returns-clause-word c n h = word_of-flag n _ c.args.bit (value c.args.bit)

pub returns-clause-fits : goal.returns-clause-fits
returns-clause-fits c n h = flag_below n _ c.args.bit (value c.args.bit) h
