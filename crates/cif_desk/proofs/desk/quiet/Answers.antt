use Rattle.std.proofs.Common.{rules}
use Rattle.cif_desk.proofs.EndLaws.{no_err, answers_stopped}
use Rattle.cif_desk.proofs.desk.quiet.Goals as goal

pub returns-in-Ok : goal.returns-in-Ok
returns-in-Ok g c = search (rules, no_err)

pub returns-in-Err : goal.returns-in-Err
returns-in-Err g c = search (rules, answers_stopped)
