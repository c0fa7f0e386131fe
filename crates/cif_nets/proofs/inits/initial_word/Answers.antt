use Rattle.std.proofs.Common.{refl, ◌∙◌}
use Rattle.cif_nets.proofs.InitLaws.{unknown_starts}
use Rattle.cif_nets.proofs.inits.initial_word.Goals as goal

pub returns-in-None : goal.returns-in-None
returns-in-None c = c.new.ensures.items ∙ unknown_starts c.args.known.now.names c.args.numbers.now c.args.cell.now c.args.cell.now.kind c.in-None.ensures refl
