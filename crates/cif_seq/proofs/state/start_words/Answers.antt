use Rattle.std.proofs.Common.{arith, ap, ◌≡◌, List, length}
use Rattle.cif_defs.specs.Accepted.{netlist_of}
use Rattle.cif_defs.specs.Cells.{Cell}
use Rattle.cif_seq.proofs.CellStates.{list_more, start_state, start_stored, start_off}
use Rattle.cif_seq.proofs.StateWidths.{is_stored}
use Rattle.cif_seq.proofs.state.start_words.Goals as goal

pub loop-number-preserved : goal.loop-number-preserved
loop-number-preserved c = record {
  values = list_more _ _ _ _ _ c.loop-number.invariant.values c.in_ok-push.ensures.items c.in_ok-start.ensures.value;
  taints = list_more _ _ _ _ _ c.loop-number.invariant.taints c.in_ok-push-2.ensures.items c.in_ok-start.ensures.taint;
  flags = list_more _ _ _ _ _ c.loop-number.invariant.flags c.in_ok-push-3.ensures.items c.in_ok-start.ensures.flag;
}

pub returns-clause-values : goal.returns-clause-values
returns-clause-values c =
    let e : length c.cells.result.now ≡ length (netlist_of c.args.netlist.now).cells = ap (λ (xs : List Cell). length xs) c.cells.ensures.are in
    start_state (netlist_of c.args.netlist.now) c.args.stimulus.now c.loop-number.number _ c.loop-number.invariant.values (omega arith)

pub returns-clause-taints : goal.returns-clause-taints
returns-clause-taints c =
    let e : length c.cells.result.now ≡ length (netlist_of c.args.netlist.now).cells = ap (λ (xs : List Cell). length xs) c.cells.ensures.are in
    start_stored (netlist_of c.args.netlist.now) c.args.stimulus.now c.loop-number.number _ c.loop-number.invariant.taints (omega arith)

pub returns-clause-flags : goal.returns-clause-flags
returns-clause-flags c =
    let e : length c.cells.result.now ≡ length (netlist_of c.args.netlist.now).cells = ap (λ (xs : List Cell). length xs) c.cells.ensures.are in
    start_off (netlist_of c.args.netlist.now) c.args.stimulus.now c.loop-number.number _ c.loop-number.invariant.flags (omega arith)

pub returns-clause-stored : goal.returns-clause-stored
returns-clause-stored c =
    let e : length c.cells.result.now ≡ length (netlist_of c.args.netlist.now).cells = ap (λ (xs : List Cell). length xs) c.cells.ensures.are in
    is_stored (netlist_of c.args.netlist.now) c.args.stimulus.now 0 _ _ _
    (start_state (netlist_of c.args.netlist.now) c.args.stimulus.now c.loop-number.number _ c.loop-number.invariant.values (omega arith))
    (start_stored (netlist_of c.args.netlist.now) c.args.stimulus.now c.loop-number.number _ c.loop-number.invariant.taints (omega arith))
    (start_off (netlist_of c.args.netlist.now) c.args.stimulus.now c.loop-number.number _ c.loop-number.invariant.flags (omega arith))
