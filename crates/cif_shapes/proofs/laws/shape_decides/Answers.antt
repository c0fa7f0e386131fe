use Rattle.cif_shapes.proofs.ShapeTaints.{same_taint_words, same_widths}
use Rattle.cif_shapes.proofs.laws.shape_decides.Goals as goal

pub returns : goal.returns
returns c = record { widths = same_widths; taints = same_taint_words }
