use Rattle.cif_stim_read.proofs.GivenNames.{rows_added}
use Rattle.cif_stim_read.proofs.given.RowSet.add.Goals as goal

pub returns-clause-added : goal.returns-clause-added
returns-clause-added c = rows_added c.args.self.now (record { rows = c.insert.new.self }) c.args.name c.args.address c.in_ok-insert.ensures.updates
