use Rattle.word_sums.proofs.AluLaws.{bound_fits, carries_fit}
use Rattle.word_sums.proofs.alu.carries.Goals as goal

pub alu-requires-clause-a_fits : goal.alu-requires-clause-a_fits
alu-requires-clause-a_fits c = bound_fits c.args.width c.args.first.value c.args.first.taint c.of-a.result c.bound.result c.args.upper c.of-a.ensures c.bound.ensures

pub alu-requires-clause-b_fits : goal.alu-requires-clause-b_fits
alu-requires-clause-b_fits c = bound_fits c.args.width c.args.second.value c.args.second.taint c.of-b.result c.bound-2.result c.args.upper c.of-b.ensures c.bound-2.ensures

pub returns-clause-fits : goal.returns-clause-fits
returns-clause-fits c = carries_fit c.args.width _ _ _ c.alu.result.co c.alu.ensures.co
