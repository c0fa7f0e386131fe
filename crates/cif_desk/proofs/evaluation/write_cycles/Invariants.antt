use Rattle.std.proofs.Common.{◌≡◌, ◌+◌}
use Rattle.std.specs.List.{flat_map, range_with_len}
use Rattle.cif_defs.specs.EvalText.{cycle_text}
use Rattle.cif_io.specs.Outside.{Appends}
use Rattle.cif_seq.specs.Cases.{net_of}
use Rattle.cif_desk.proofs.evaluation.write_cycles.Given as goal

abbrev pub invariant-loop-cycle : goal.invariant-loop-cycle
invariant-loop-cycle g l = record {
  same_case : l.frame.case ≡ l.fn.case.value;
  next : l.frame.cycle + 1 ≡ l.cycle;
  written : Appends (g.W.Sink.taken l.fn.out) (g.W.Sink.taken l.out) (flat_map (cycle_text (net_of l.fn.case.value) l.fn.case.value.stimulus) (range_with_len 0 l.cycle));
  sound : g.W.Sink.faults l.out ≡ g.W.Sink.faults l.fn.out;
}
