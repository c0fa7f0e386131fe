use Rattle.std.proofs.Common.{sym, ◌∙◌}
use Rattle.cif_checks.proofs.KnownCells.{value_found}
use Rattle.cif_checks.proofs.given.value_among.Goals as goal

pub returns-then-eq : goal.returns-then-eq
returns-then-eq c = c.value.ensures ∙ c.index-values-index.is ∙ value_found c.args.cell.now _ _ _ _ c.args.param _ c.requires c.loop-index-test.true (sym c.eq.ensures ∙ c.if-eq.true)
