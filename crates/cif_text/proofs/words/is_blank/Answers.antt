use Rattle.std.proofs.Common.{◌∙◌}
use Rattle.cif_text.proofs.Pieces as text
use Rattle.cif_text.proofs.words.is_blank.Goals as goal

pub returns : goal.returns
returns c = c.are_spaces.ensures ∙ text.is_blank c.args.line.now
