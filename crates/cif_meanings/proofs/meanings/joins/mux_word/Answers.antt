use Rattle.std.proofs.Common.{sym, ◌∙◌}
use Rattle.cif_meanings.proofs.MeaningLaws.{answered, mux_one, mux_zero}
use Rattle.cif_meanings.proofs.meanings.joins.mux_word.Goals as goal

pub returns-then-get : goal.returns-then-get
returns-then-get c = answered _ _ _ (mux_one _ c.args.a.now _ c.args.s.now c.requires.b_width (sym c.get.ensures ∙ c.if-get.true)) c.copy.ensures

pub returns-else-get : goal.returns-else-get
returns-else-get c = answered _ _ _ (mux_zero _ _ c.args.b.now c.args.s.now c.requires.a_width (sym c.get.ensures ∙ c.if-get.false)) c.copy-else-get.ensures
