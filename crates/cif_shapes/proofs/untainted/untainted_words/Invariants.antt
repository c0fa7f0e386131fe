use Rattle.std.proofs.Common.{◌≡◌, take}
use Rattle.cif_shapes.proofs.OutputWidths.{zeros_for}
use Rattle.cif_shapes.proofs.untainted.untainted_words.Given as goal

abbrev pub invariant-loop-i : goal.invariant-loop-i
invariant-loop-i l = l.words.items ≡ zeros_for (take l.i l.outputs)
