use Rattle.std.proofs.Common.{arith, ◌∙◌}
use Rattle.cif_arith.proofs.Residues.{residue-difference}
use Rattle.cif_arith.proofs.sums.sub.Goals as goal

pub returns : goal.returns
returns c = c.lowest.ensures ∙ residue-difference 128 c.args.width c.args.a c.args.b c.requires.limit (omega arith) (omega arith)
