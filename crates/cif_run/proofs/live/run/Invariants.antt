use Rattle.std.proofs.Common.{length}
use Rattle.cif_run.proofs.live.run.Given as goal

abbrev pub ghosts-run_named-N-Scripted : goal.ghosts-run_named-N-Scripted
ghosts-run_named-N-Scripted g a = record { script = a.script.now }

abbrev pub ghosts-run_named-N-Run : goal.ghosts-run_named-N-Run
ghosts-run_named-N-Run g a = record { case = a.case; plan = a.plan; window = a.size.window; sessions = length a.script.now.sessions }

abbrev pub ghosts-run_named-N-Ledger : goal.ghosts-run_named-N-Ledger
ghosts-run_named-N-Ledger g a = record { name = a.blank.name; parts = a.blank.parts }
