use Rattle.std.proofs.Common.{◌≡◌, ◌++◌, true, take}
use Rattle.std.specs.List.{flat_map, list_all}
use Rattle.cif_stim_write.specs.Ranges.{is_in_range}
use Rattle.cif_stimulus.specs.StimulusText.{line_text}
use Rattle.cif_stimulus.specs.StimulusView.{line_seen}
use Rattle.cif_stim_write.proofs.write.push_lines.Given as goal

abbrev pub invariant-loop-line : goal.invariant-loop-line
invariant-loop-line l = record {
  text : l.text.items ≡ l.fn.text.items ++ flat_map (λ line. line_text (line_seen line)) (take l.line-index l.lines);
  range : list_all (λ line. is_in_range (line_seen line)) (take l.line-index l.lines) ≡ true;
}
