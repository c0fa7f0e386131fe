use Rattle.std.proofs.Common.{◌≡◌, ◌≤◌, [], replicate}
use Rattle.cif_parts.proofs.run.empty_words.Given as goal

abbrev pub invariant-loop-step : goal.invariant-loop-step
invariant-loop-step l = record {
  words : l.words.items ≡ replicate l._step [];
  room : l.count ≤ l.words.cap;
}
