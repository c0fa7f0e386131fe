use Rattle.std.proofs.Common.{sym, ◌∙◌}
use Rattle.cif_arith.proofs.Integers.{negative-integer}
use Rattle.cif_arith.proofs.integer.Integer.new.Goals as goal

pub returns-then-is_negative : goal.returns-then-is_negative
returns-then-is_negative c =
    negative-integer c.args.width c.args.number c.neg.result c.args.signed c.requires.fits (sym c.is_negative.ensures ∙ c.if-is_negative.true) c.neg.ensures
