use Rattle.std.proofs.Common.{◌∙◌, arith}
use Rattle.cif_nets.proofs.ClockLaws.{first_clock_port, no_clock_port}
use Rattle.cif_nets.proofs.clock.clock_bits.Goals as goal

pub returns-in-len1-up : goal.returns-in-len1-up
returns-in-len1-up c = c.items.ensures ∙ c.bits-item.is ∙ first_clock_port c.args.cell.now c.clocks.result.now _ c.clocks.ensures (omega arith)

pub returns-in-empty : goal.returns-in-empty
returns-in-empty c = no_clock_port c.args.cell.now c.clocks.result.now c.clocks.ensures (omega arith)
