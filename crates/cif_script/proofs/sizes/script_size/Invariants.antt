use Rattle.std.proofs.Common.{◌≡◌, ◌+◌, ◌-◌, ◌^◌, take, min}
use Rattle.std.specs.List.{sum_by}
use Rattle.cif_script.specs.Scripts.{plain_size, session_size}
use Rattle.cif_script.proofs.sizes.script_size.Given as goal

abbrev pub invariant-loop-session : goal.invariant-loop-session
invariant-loop-session l = l.size ≡ min (plain_size + sum_by (session_size l.wires) (take l.session-index l.sessions)) (2 ^ 64 - 1)
