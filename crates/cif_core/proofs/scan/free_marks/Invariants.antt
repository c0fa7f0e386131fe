use Rattle.std.proofs.Common.{◌≡◌, replicate}
use Rattle.cif_core.specs.declared.mark.Mark.TheVariants.{Free}
use Rattle.cif_core.proofs.scan.free_marks.Given as goal

abbrev pub invariant-loop-part : goal.invariant-loop-part
invariant-loop-part l = l.marks.items ≡ replicate l._part Free
