use Rattle.std.proofs.Common.{◌≡◌, length}
use Rattle.cif_defs.specs.Text.{decoded}
use Rattle.cif_text.proofs.Decoding.{onto}
use Rattle.cif_text.proofs.names.read_name.Given as goal

abbrev pub invariant-loop-rest : goal.invariant-loop-rest
invariant-loop-rest l = onto l.name.items (decoded l.rest) ≡ decoded l.word

abbrev pub decreases-loop-rest : goal.decreases-loop-rest
decreases-loop-rest l = length l.rest
