use Rattle.std.proofs.Common.{arith}
use Rattle.cif_stim_write.proofs.WrittenParts.{all_written, all_in_range}
use Rattle.cif_stim_write.proofs.write.push_lines.Goals as goal

pub returns-clause-text : goal.returns-clause-text
returns-clause-text c = all_written c.args.text.now.items c.loop-line.text.items c.args.lines.now c.loop-line.line-index (omega arith) c.loop-line.invariant.text

pub returns-clause-range : goal.returns-clause-range
returns-clause-range c = all_in_range c.args.lines.now c.loop-line.line-index (omega arith) c.loop-line.invariant.range
