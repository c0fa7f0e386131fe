use Rattle.std.proofs.Common.{◌≡◌, ◌++◌, take}
use Rattle.cif_run.specs.Runs.{sessions_text}
use Rattle.cif_run.proofs.text.push_sessions.Given as goal

abbrev pub invariant-loop-i : goal.invariant-loop-i
invariant-loop-i l = l.text.items ≡ l.fn.text.items ++ sessions_text (take l.i l.sessions) l.transcripts
