use Rattle.std.proofs.Common.{◌≡◌, ◌≤◌, ◌+◌, length}
use Rattle.cif_defs.specs.Text.{lines_of}
use Rattle.cif_stimulus.specs.StimulusText.{numbered}
use Rattle.cif_stim_read.proofs.lines.next_line.Given as goal

abbrev pub invariant-loop-rest : goal.invariant-loop-rest
invariant-loop-rest l = record {
  so_far : numbered l.number (lines_of l.rest) ≡ numbered l.fn.number (lines_of l.fn.text);
  later : l.fn.number ≤ l.number;
  counted : l.number + length l.rest ≤ l.fn.number + length l.fn.text;
}

abbrev pub decreases-loop-rest : goal.decreases-loop-rest
decreases-loop-rest l = length l.rest
