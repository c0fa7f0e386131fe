use Rattle.cif_shadows.proofs.SetLaws.{AreSetUpTo}
use Rattle.cif_shadows.proofs.table.Shadows.set_outputs.Given as goal

abbrev pub invariant-loop-output : goal.invariant-loop-output
invariant-loop-output l = AreSetUpTo l.outputs l.bits l.rest l.output-index l.initial.self l.self
