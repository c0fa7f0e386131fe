use Rattle.std.proofs.Common.{length}
use Rattle.cif_run.proofs.alone.run_alone.Given as goal

abbrev pub ghosts-alone_named-N-Scripted : goal.ghosts-alone_named-N-Scripted
ghosts-alone_named-N-Scripted g a = record { script = a.script.now }

abbrev pub ghosts-alone_named-N-Run : goal.ghosts-alone_named-N-Run
ghosts-alone_named-N-Run g a = record { case = a.case; plan = a.plan; window = a.size.window; sessions = length a.script.now.sessions }

abbrev pub ghosts-alone_named-N-Ledger : goal.ghosts-alone_named-N-Ledger
ghosts-alone_named-N-Ledger g a = record { name = a.blank.name; parts = a.blank.parts }
