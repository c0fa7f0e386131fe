use Rattle.std.proofs.Common.{◌≡◌, ◌+◌, ◌-◌, ◌^◌, take, min}
use Rattle.std.specs.List.{sum_by}
use Rattle.cif_script.specs.Scripts.{plain_size, line_size}
use Rattle.cif_script.proofs.sizes.session_size.Given as goal

abbrev pub invariant-loop-line : goal.invariant-loop-line
invariant-loop-line l = l.size ≡ min (plain_size + sum_by (line_size l.wires) (take l.line-index l.session.lines)) (2 ^ 64 - 1)
