use Rattle.std.proofs.Common.{◌≡◌, ◌<◌}
use Rattle.cif_pieces.specs.Parts.{owner}
use Rattle.cif_parts.specs.Marking.{AreMarks}
use Rattle.cif_parts.proofs.mark.owned_marks.Given as goal

abbrev pub invariant-loop-number : goal.invariant-loop-number
invariant-loop-number l = AreMarks l.marks.items l.number (λ c. (c < l.number) × (owner l.cells l.parts c ≡ l.part))
