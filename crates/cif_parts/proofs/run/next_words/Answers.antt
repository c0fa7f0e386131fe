use Rattle.std.proofs.Common.{arith, length, refl, ◌∙◌, ◌≡◌, get_or}
use Rattle.std.proofs.lemmas.List.{length-set}
use Rattle.cif_defs.specs.Accepted.{netlist_of}
use Rattle.cif_seq.specs.Stored.{given_of}
use Rattle.cif_parts.proofs.Placing.{is_put, more_moved, resting_at, still_clear, still_places}
use Rattle.cif_parts.proofs.run.next_words.Goals as goal

pub state_after-requires-clause-rests : goal.state_after-requires-clause-rests
state_after-requires-clause-rests c = λ e. resting_at (netlist_of c.args.netlist.now) (given_of c.args.held.stored.now) c.args.held.values.now c.args.held.taints.now c.args.held.due.now (get_or c.args.needed.now c.loop-place.place 0) c.requires.resting e

pub loop-place-preserved : goal.loop-place-preserved
loop-place-preserved c =
    let inside = c.requires.cells.inside c.loop-place.place c.loop-place-test.true in
    let marked : length c.loop-place.marks.items ≡ length (netlist_of c.args.netlist.now).cells = c.loop-place.invariant.marks in
    let put = is_put (netlist_of c.args.netlist.now) c.loop-place.stored c.put.new.stored _ _ _ _ c.loop-place.invariant.places inside c.put.ensures.values c.put.ensures.taints c.put.ensures.flags in
    record {
      places = still_places (netlist_of c.args.netlist.now) c.loop-place.stored c.put.new.stored _ _ _ _ c.loop-place.invariant.places c.put.ensures.values c.put.ensures.taints c.put.ensures.flags;
      clear = still_clear (netlist_of c.args.netlist.now) c.loop-place.stored c.put.new.stored _ _ _ _ put (c.requires.cells.storing c.loop-place.place c.loop-place-test.true) c.loop-place.invariant.clear;
      marks = length-set c.loop-place.marks.items _ _ ∙ marked;
      moved = more_moved (netlist_of c.args.netlist.now) (given_of c.args.held.stored.now) c.loop-place.stored c.put.new.stored c.args.held.values.now c.args.held.taints.now c.loop-place.marks.items c.args.needed.now c.loop-place.place _ _ _ _ _
          put c.in_ok-state.ensures (omega arith) refl c.loop-place.invariant.moved;
    }
