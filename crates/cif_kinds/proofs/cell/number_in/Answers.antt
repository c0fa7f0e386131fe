use Rattle.std.proofs.Common.{sym, ◌∙◌}
use Rattle.cif_kinds.proofs.CellLaws.{number_at, number_past}
use Rattle.cif_kinds.proofs.cell.number_in.Goals as goal

pub returns-then-eq : goal.returns-then-eq
returns-then-eq c = sym (number_at _ _ _ _ c.loop-given-test.true (sym c.eq.ensures ∙ c.if-eq.true)) ∙ c.loop-given.invariant

pub loop-given-preserved : goal.loop-given-preserved
loop-given-preserved c = sym (number_past _ _ _ _ c.loop-given-test.true (sym c.eq.ensures ∙ c.if-eq.false)) ∙ c.loop-given.invariant
