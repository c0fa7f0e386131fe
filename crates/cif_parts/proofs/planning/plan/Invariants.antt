use Rattle.cif_parts.specs.Planned.{ArePlanned}
use Rattle.cif_parts.proofs.planning.plan.Given as goal

abbrev pub invariant-loop-part : goal.invariant-loop-part
invariant-loop-part l = ArePlanned l.case l.parts l.cells.items l.part
