use Rattle.std.proofs.Common.{◌∙◌, ◌+◌}
use Rattle.cif_arith.proofs.Residues.{mod-mod_power}
use Rattle.cif_arith.proofs.sums.add.Goals as goal

pub returns : goal.returns
returns c = c.lowest.ensures ∙ mod-mod_power 128 c.args.width (c.args.a + c.args.b) c.requires.limit
