use Rattle.std.proofs.Common.{◌∙◌, arith}
use Rattle.cif_nets.proofs.Kept.{first_output, has_output}
use Rattle.cif_nets.proofs.drives.kept_bits.Goals as goal

pub returns-in-len1-up : goal.returns-in-len1-up
returns-in-len1-up c k known kept = c.items.ensures ∙ c.bits-item.is ∙ first_output c.args.cell.now k c.outputs.result.now _ known kept c.outputs.ensures

pub returns-in-empty : goal.returns-in-empty
returns-in-empty c k known kept = has_output c.args.cell.now k c.outputs.result.now known kept c.outputs.ensures (omega arith)
