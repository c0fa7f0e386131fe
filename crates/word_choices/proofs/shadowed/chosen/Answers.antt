use Rattle.word_choices.proofs.ShadowLaws.{chosen_by}
use Rattle.word_choices.proofs.shadowed.chosen.Goals as goal

pub returns : goal.returns
returns c = chosen_by c.args.zero c.args.one c.args.select c.args.tainted _ _ _ _ c.picked-plain.ensures c.open-either.ensures.word c.open-either.ensures.fits c.picked.ensures c.picked-2.ensures
