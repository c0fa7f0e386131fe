use Rattle.std.proofs.Common.{◌∙◌}
use Rattle.cif_text.proofs.Pieces as text
use Rattle.cif_text.proofs.words.are_visible.Goals as goal

pub returns : goal.returns
returns c = c.are_readable.ensures ∙ text.are_visible c.args.line.now
