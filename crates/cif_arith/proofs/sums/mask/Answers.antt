use Rattle.cif_arith.proofs.Residues.{mask-shr}
use Rattle.cif_arith.proofs.sums.mask.Goals as goal

pub returns : goal.returns
returns c = mask-shr 128 c.args.width c.requires.limit
