use Rattle.std.proofs.Common.{sym, ◌∙◌}
use Rattle.cif_meanings.proofs.MeaningLaws.{answered}
use Rattle.cif_meanings.proofs.ChoiceLaws.{pmux_none}
use Rattle.cif_meanings.proofs.meanings.choices.pmux_word.Goals as goal

pub returns-in-None : goal.returns-in-None
returns-in-None c = answered _ _ _ (pmux_none _ _ c.args.b.now c.args.s.now c.requires.a_width (sym c.first_one.ensures.value ∙ c.in-None.is)) c.copy.ensures
