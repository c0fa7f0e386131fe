use Rattle.std.proofs.Common.{ap, ◌∙◌, slice_set}
use Rattle.cif_defs.specs.Words.{Word}
use Rattle.cif_meanings.proofs.NumberMeanings.{flag_is}
use Rattle.cif_meanings.proofs.meanings.numbers.flag_bits.Goals as goal

pub returns : goal.returns
returns c = c.set.ensures ∙ ap (λ (w : Word). slice_set w 0 c.args.flag) c.in_ok-bits.ensures ∙ flag_is c.args.width c.args.flag
