use Rattle.std.proofs.Common.{refl, arith}
use Rattle.cif_level.proofs.Outputs.{one_output}
use Rattle.cif_parts.proofs.Taking.{taking_first, taking_last}
use Rattle.cif_parts.proofs.TakingOver.{driven_case, lists_planned, piece_of_case, taking_step}
use Rattle.cif_parts.proofs.join.take_over.Goals as goal

pub loop-number-init : goal.loop-number-init
loop-number-init c = taking_first c.args.case.now c.args.piece.cycle c.args.piece.parts c.args.piece.part c.owned-owned.result.now c.into_bits-from.result c.args.joined.now
    (lists_planned c.args.case.now c.args.plan.now c.args.piece.parts c.args.piece.part c.part.result c.owned-owned.result.now c.requires.plan c.part.ensures.piece.part c.requires.parts c.part.ensures.is c.owned-owned.ensures)
    (piece_of_case c.args.case.now c.args.piece c.into_bits-from.result c.requires.case c.into_bits-from.ensures) c.requires.before

pub loop-number-preserved : goal.loop-number-preserved
loop-number-preserved c = taking_step c.args.case.now c.netlist-netlist.result.now c.args.piece.cycle c.args.piece.parts c.args.piece.part c.loop-number.number-index _ c.owned-owned.result.now c.loop-number.from c.take_cell.new.from c.loop-number.joined c.take_cell.new.joined c.netlist-netlist.ensures
    (driven_case c.args.case.now c.netlist-netlist.result.now c.cells-accepted.result.now c.netlist-netlist.ensures (one_output c.netlist-netlist.result.now c.cells-accepted.ensures.accepted) c.cells-accepted.ensures.wired c.cells-accepted.ensures.are c.cells-accepted.ensures.fitted)
    (lists_planned c.args.case.now c.args.plan.now c.args.piece.parts c.args.piece.part c.part.result c.owned-owned.result.now c.requires.plan c.part.ensures.piece.part c.requires.parts c.part.ensures.is c.owned-owned.ensures)
    c.loop-number-test.true refl c.take_cell.ensures c.loop-number.invariant

pub returns : goal.returns
returns c = taking_last c.args.case.now c.args.piece.cycle c.args.piece.parts c.args.piece.part c.loop-number.number-index c.owned-owned.result.now c.loop-number.from c.loop-number.joined
    (driven_case c.args.case.now c.netlist-netlist.result.now c.cells-accepted.result.now c.netlist-netlist.ensures (one_output c.netlist-netlist.result.now c.cells-accepted.ensures.accepted) c.cells-accepted.ensures.wired c.cells-accepted.ensures.are c.cells-accepted.ensures.fitted).wired
    (lists_planned c.args.case.now c.args.plan.now c.args.piece.parts c.args.piece.part c.part.result c.owned-owned.result.now c.requires.plan c.part.ensures.piece.part c.requires.parts c.part.ensures.is c.owned-owned.ensures)
    c.requires.some (omega arith) c.loop-number.invariant
