use Rattle.std.proofs.Common.{arith}
use Rattle.cif_defs.specs.Accepted.{netlist_of}
use Rattle.cif_stimulus.proofs.LinesRead.{line_read}
use Rattle.cif_augment.proofs.Lines.{may_stand, is_one, made_more, made_all, seen_inside, seen_past}
use Rattle.cif_augment.proofs.stimulus.Lines.augmented.Goals as goal

pub add-requires-clause-place : goal.add-requires-clause-place
add-requires-clause-place c =
    let inside = seen_inside c.lines-lines.result.now c.args.self.now.stimulus.now.lines c.loop-line.line-index c.lines-lines.ensures.value c.loop-line-test.true in
    may_stand (netlist_of c.args.self.now.netlist.now) c.args.self.now.stimulus.now _ c.loop-line.line-index _ c.lines-lines.ensures.ordered c.loop-line.invariant inside
    (line_read c.lines-lines.result.now c.args.self.now.stimulus.now.lines c.loop-line.line-index c.line-item.result c.lines-lines.ensures.value inside c.line-item.is)

pub add-requires-clause-written : goal.add-requires-clause-written
add-requires-clause-written c =
    let inside = seen_inside c.lines-lines.result.now c.args.self.now.stimulus.now.lines c.loop-line.line-index c.lines-lines.ensures.value c.loop-line-test.true in
    is_one (netlist_of c.args.self.now.netlist.now) c.args.self.now.stimulus.now _ c.loop-line.line-index _ c.lines-lines.ensures.ordered c.loop-line.invariant inside
    (line_read c.lines-lines.result.now c.args.self.now.stimulus.now.lines c.loop-line.line-index c.line-item.result c.lines-lines.ensures.value inside c.line-item.is)

pub loop-line-preserved : goal.loop-line-preserved
loop-line-preserved c =
    let inside = seen_inside c.lines-lines.result.now c.args.self.now.stimulus.now.lines c.loop-line.line-index c.lines-lines.ensures.value c.loop-line-test.true in
    made_more (netlist_of c.args.self.now.netlist.now) c.args.self.now.stimulus.now _ c.loop-line.line-index _ c.lines-lines.ensures.ordered c.loop-line.invariant inside
    (line_read c.lines-lines.result.now c.args.self.now.stimulus.now.lines c.loop-line.line-index c.line-item.result c.lines-lines.ensures.value inside c.line-item.is) _ c.in_ok-add.ensures

pub returns : goal.returns
returns c = made_all (netlist_of c.args.self.now.netlist.now) c.args.self.now.stimulus.now _ c.loop-line.line-index c.loop-line.invariant
    (seen_past c.lines-lines.result.now c.args.self.now.stimulus.now.lines c.loop-line.line-index c.lines-lines.ensures.value (omega (arith, c.loop-line-test.false)))
