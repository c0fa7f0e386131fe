use Rattle.std.proofs.Common.{◌∙◌, rules}
use Rattle.cif_bits.proofs.WordForms.{zeros_from_replicate}
use Rattle.cif_bits.proofs.Bits.zeros.Goals as goal

pub returns : goal.returns
returns c = (search rules) ∙ zeros_from_replicate c.args.width
