use Rattle.std.proofs.Common.{◌≡◌, drop}
use Rattle.cif_nets.specs.Nets.{several_fault}
use Rattle.cif_nets.proofs.nets.check_single.Given as goal

abbrev pub invariant-loop-place : goal.invariant-loop-place
invariant-loop-place l = several_fault (drop l.place l.numbers) (drop l.place l.drives) ≡ several_fault l.numbers l.drives
