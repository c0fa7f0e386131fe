use Rattle.std.proofs.Common.{sym, ap, ◌∙◌}
use Rattle.cif_defs.specs.Text.{lines_of}
use Rattle.cif_stimulus.specs.StimulusText.{numbered}
use Rattle.cif_text.proofs.Pieces.{empty, no_lines}
use Rattle.cif_stim_read.proofs.lines.next_line.Goals as goal

pub returns-clause-none : goal.returns-clause-none
returns-clause-none c = λ _. sym c.loop-rest.invariant.so_far ∙ ap (λ text. numbered c.loop-rest.number (lines_of text)) (empty c.loop-rest.rest.now c.loop-rest-test.ensures) ∙ ap (numbered c.loop-rest.number) no_lines
