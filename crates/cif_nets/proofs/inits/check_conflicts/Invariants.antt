use Rattle.std.proofs.Common.{◌≡◌, drop}
use Rattle.cif_nets.specs.Inits.{conflict_fault}
use Rattle.cif_nets.proofs.inits.check_conflicts.Given as goal

abbrev pub invariant-loop-place : goal.invariant-loop-place
invariant-loop-place l =
    conflict_fault (drop l.place l.numbers) (drop l.place l.marks) (drop l.place l.inits) ≡ conflict_fault l.numbers l.marks l.inits
