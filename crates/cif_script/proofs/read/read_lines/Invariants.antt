use Rattle.std.proofs.Common.{◌≡◌, ◌≤◌, ◌+◌, length}
use Rattle.cif_defs.specs.Text.{lines_of}
use Rattle.cif_stimulus.specs.StimulusText.{numbered}
use Rattle.cif_script.specs.ScriptText.{lines_read, no_sessions}
use Rattle.cif_script.specs.Seen.{IsTable, so_far}
use Rattle.cif_script.proofs.read.read_lines.Given as goal

abbrev pub invariant-loop-line : goal.invariant-loop-line
invariant-loop-line l = record {
  table : IsTable l.reader.table;
  counted : l.number + length l.rest ≤ l.fn.number + length l.fn.text;
  read : lines_read l.netlist (so_far l.reader) (numbered l.number (lines_of l.rest)) ≡ lines_read l.netlist no_sessions (numbered l.fn.number (lines_of l.fn.text));
}

abbrev pub decreases-loop-line : goal.decreases-loop-line
decreases-loop-line l = length l.rest
