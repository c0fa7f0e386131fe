use Rattle.std.proofs.Common.{◌≡◌, ◌≤◌, ◌+◌, [], length, reverse}
use Rattle.cif_defs.specs.Text.{lines_of}
use Rattle.cif_stim_read.specs.Reading.{IsReading}
use Rattle.cif_stimulus.specs.StimulusText.{numbered, lines_read}
use Rattle.cif_stimulus.specs.Versions.{version_number}
use Rattle.cif_stim_read.proofs.read.read_lines.Given as goal

abbrev pub invariant-loop-line : goal.invariant-loop-line
invariant-loop-line l = record {
  state : IsReading l.reader;
  cycles : l.reader.stimulus.cycles ≡ l.head.cycles;
  counted : l.number + length l.rest ≤ l.head.number + length l.head.rest.now;
  so_far : lines_read l.netlist (record { version = version_number l.head.version; cycles = l.head.cycles }) (reverse l.reader.stimulus.lines) (numbered l.number (lines_of l.rest)) ≡ lines_read l.netlist (record { version = version_number l.head.version; cycles = l.head.cycles }) [] (numbered l.head.number (lines_of l.head.rest.now));
}

abbrev pub decreases-loop-line : goal.decreases-loop-line
decreases-loop-line l = length l.rest
