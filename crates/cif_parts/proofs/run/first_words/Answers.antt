use Rattle.std.proofs.Common.{refl}
use Rattle.cif_seq.specs.Cases.{net_of}
use Rattle.cif_parts.proofs.Placing.{is_put, start_put, still_clear, still_places}
use Rattle.cif_parts.proofs.run.first_words.Goals as goal

pub loop-place-preserved : goal.loop-place-preserved
loop-place-preserved c =
    let inside = c.requires.inside c.loop-place.place c.loop-place-test.true in
    let put = is_put (net_of c.args.case.now) c.loop-place.stored c.put.new.stored _ _ _ _ c.loop-place.invariant.places inside c.put.ensures.values c.put.ensures.taints c.put.ensures.flags in
    record {
      places = still_places (net_of c.args.case.now) c.loop-place.stored c.put.new.stored _ _ _ _ c.loop-place.invariant.places c.put.ensures.values c.put.ensures.taints c.put.ensures.flags;
      clear = still_clear (net_of c.args.case.now) c.loop-place.stored c.put.new.stored _ _ _ _ put (c.requires.storing c.loop-place.place c.loop-place-test.true) c.loop-place.invariant.clear;
      words = start_put c.args.case.now c.netlist-netlist.result.now c.stimulus-stimulus.result.now c.args.needed.now c.loop-place.place _ c.loop-place.stored c.put.new.stored _ _ _ c.netlist-netlist.ensures c.stimulus-stimulus.ensures.is refl inside
          c.in_ok-state.ensures.value c.in_ok-state.ensures.taint c.in_ok-state.ensures.flag put c.loop-place.invariant.words;
    }
