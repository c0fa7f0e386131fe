use Rattle.cif_nets.proofs.InitLaws.{name_skipped}
use Rattle.cif_nets.proofs.inits.record_name.Goals as goal

pub returns-in_default : goal.returns-in_default
returns-in_default c = name_skipped c.args.name.now c.items.result.now c.args.numbers.now c.args.inits.now c.requires.same c.items.ensures c.in_default.ensures
