use Rattle.std.proofs.Common.{ap, bit_and, ◌∙◌}
use Rattle.std.proofs.lemmas.Nat.{and_mask}
use Rattle.cif_arith.proofs.sums.lowest.Goals as goal

pub returns : goal.returns
returns c = ap (bit_and c.args.number) c.mask.ensures ∙ and_mask c.args.number c.args.width
