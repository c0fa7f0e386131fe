-- An output is narrow, and its word is one of zeros.
use Rattle.std.proofs.Common.{arith}
use Rattle.cif_shapes.proofs.OutputWidths.{all_zeros, narrow_read, zeros_are_taints}
use Rattle.cif_shapes.proofs.untainted.untainted_words.Goals as goal

pub overflow_cast-width : goal.overflow_cast-width
overflow_cast-width c = omega (arith, narrow_read c.args.cell.now c.outputs-outputs.result.now c.loop-i.i c.index-outputs-i.result c.items.result.now c.requires.role c.requires.fitted c.outputs-outputs.ensures c.loop-i-test.true c.index-outputs-i.is c.items.ensures)

pub zeros-requires : goal.zeros-requires
zeros-requires c = narrow_read c.args.cell.now c.outputs-outputs.result.now c.loop-i.i c.index-outputs-i.result c.items.result.now c.requires.role c.requires.fitted c.outputs-outputs.ensures c.loop-i-test.true c.index-outputs-i.is c.items.ensures

pub returns-clause-zeros : goal.returns-clause-zeros
returns-clause-zeros c = all_zeros c.args.cell.now c.outputs-outputs.result.now c.loop-i.i c.loop-i.words.items c.requires.fitted c.outputs-outputs.ensures c.loop-i-test.false c.loop-i.invariant

pub returns-clause-taints : goal.returns-clause-taints
returns-clause-taints c = zeros_are_taints c.args.cell.now c.loop-i.words.items (all_zeros c.args.cell.now c.outputs-outputs.result.now c.loop-i.i c.loop-i.words.items c.requires.fitted c.outputs-outputs.ensures c.loop-i-test.false c.loop-i.invariant)
