use Rattle.cif_stim_read.proofs.GivenNames.{names_added}
use Rattle.cif_stim_read.proofs.given.NameSet.add.Goals as goal

pub returns-clause-added : goal.returns-clause-added
returns-clause-added c = names_added c.args.self.now (record { names = c.insert.new.self }) c.args.name c.in_ok-insert.ensures.updates
