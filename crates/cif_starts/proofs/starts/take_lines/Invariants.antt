use Rattle.std.proofs.Common.{◌≡◌, length, map}
use Rattle.cif_defs.specs.Cells.{state_bits}
use Rattle.cif_stimulus.specs.StimulusView.{line_seen, tainted}
use Rattle.cif_starts.specs.Starts.{StartedTo, lines_left}
use Rattle.cif_starts.proofs.starts.take_lines.Given as goal

abbrev pub invariant-loop-at : goal.invariant-loop-at
invariant-loop-at l = record {
  value : length l.value ≡ state_bits l.cell;
  taint : length l.taint ≡ state_bits l.cell;
  started : StartedTo (map line_seen l.lines) l.cell (tainted l.fn.value l.fn.taint) l.at (tainted l.value l.taint);
}

abbrev pub decreases-loop-at : goal.decreases-loop-at
decreases-loop-at l = lines_left (length l.lines) l.at
