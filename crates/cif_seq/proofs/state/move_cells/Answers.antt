use Rattle.std.proofs.Common.{arith, ap, length, ◌≡◌, ◌∙◌, List}
use Rattle.cif_defs.specs.Accepted.{netlist_of}
use Rattle.cif_defs.specs.Cells.{Cell}
use Rattle.cif_seq.specs.Stored.{given_of}
use Rattle.cif_seq.proofs.Moved.{all_flags, all_kept, all_taints, all_values, one_moved, rests_still}
use Rattle.cif_seq.proofs.state.move_cells.Goals as goal

pub move_cell-requires-clause-rests : goal.move_cell-requires-clause-rests
move_cell-requires-clause-rests c = λ e. rests_still (netlist_of c.args.netlist.now) (given_of c.args.stored.now) (given_of c.loop-number.stored) c.args.values.now c.args.taints.now c.args.marks.now c.loop-number.marks c.loop-number.number c.requires.resting c.loop-number.invariant.moved e

pub loop-number-preserved : goal.loop-number-preserved
loop-number-preserved c = record {
  stored = c.in_ok-move_cell.ensures.stored;
  moved = one_moved (netlist_of c.args.netlist.now) (given_of c.args.stored.now) (given_of c.loop-number.stored) (given_of c.move_cell.new.stored) c.args.values.now c.args.taints.now c.args.marks.now c.loop-number.marks _ c.loop-number.number c.loop-number.invariant.moved c.in_ok-move_cell.ensures.moves;
  as_many = c.move_cell.ensures.as_many ∙ c.loop-number.invariant.as_many;
}

pub returns-clause-values : goal.returns-clause-values
returns-clause-values c =
    let e : length c.cells.result.now ≡ length (netlist_of c.args.netlist.now).cells = ap (λ (xs : List Cell). length xs) c.cells.ensures.are in
    all_values (netlist_of c.args.netlist.now) c.args.stored.now.values.items c.args.stored.now.taints.items c.args.stored.now.flags.items c.loop-number.stored.values.items c.loop-number.stored.taints.items c.loop-number.stored.flags.items c.args.values.now c.args.taints.now c.args.marks.now c.loop-number.marks c.loop-number.number
    c.loop-number.invariant.stored (omega arith) c.loop-number.invariant.moved

pub returns-clause-taints : goal.returns-clause-taints
returns-clause-taints c =
    let e : length c.cells.result.now ≡ length (netlist_of c.args.netlist.now).cells = ap (λ (xs : List Cell). length xs) c.cells.ensures.are in
    all_taints (netlist_of c.args.netlist.now) c.args.stored.now.values.items c.args.stored.now.taints.items c.args.stored.now.flags.items c.loop-number.stored.values.items c.loop-number.stored.taints.items c.loop-number.stored.flags.items c.args.values.now c.args.taints.now c.args.marks.now c.loop-number.marks c.loop-number.number
    c.loop-number.invariant.stored (omega arith) c.loop-number.invariant.moved

pub returns-clause-flags : goal.returns-clause-flags
returns-clause-flags c =
    let e : length c.cells.result.now ≡ length (netlist_of c.args.netlist.now).cells = ap (λ (xs : List Cell). length xs) c.cells.ensures.are in
    all_flags (netlist_of c.args.netlist.now) c.args.stored.now.values.items c.args.stored.now.taints.items c.args.stored.now.flags.items c.loop-number.stored.values.items c.loop-number.stored.taints.items c.loop-number.stored.flags.items c.args.values.now c.args.taints.now c.args.marks.now c.loop-number.marks c.loop-number.number
    c.loop-number.invariant.stored (omega arith) c.loop-number.invariant.moved

pub returns-clause-kept : goal.returns-clause-kept
returns-clause-kept c = all_kept (netlist_of c.args.netlist.now) (given_of c.args.stored.now) (given_of c.loop-number.stored) c.args.values.now c.args.taints.now c.args.marks.now c.loop-number.marks c.loop-number.number c.loop-number.invariant.moved
