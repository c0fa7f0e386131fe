use Rattle.cif_augment.proofs.Marks.{is_unreleased}
use Rattle.cif_augment.proofs.stimulus.Lines.kept.Goals as goal

pub returns : goal.returns
returns c = is_unreleased c.args.self.now.released.now c.args.self.now.stimulus.now.lines _ _ c.args.taint.now _ c.requires.marks c.input_bits-sources.ensures c.in_ok-kept.ensures
