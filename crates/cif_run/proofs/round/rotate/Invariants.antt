use Rattle.std.proofs.Common.{◌≡◌, map, vec_len}
use Rattle.cif_run.specs.Readers.{number_of}
use Rattle.cif_run.proofs.round.rotate.Given as goal

abbrev pub invariant-loop : goal.invariant-loop
invariant-loop g l =
    (goal.iterator-loop g).can_next l.iterator' × (goal.iterator-loop g).is_finite l.iterator' × (vec_len l.roles.workers ≡ vec_len l.initial.roles.workers)
    × (vec_len l.roles.readers ≡ vec_len l.initial.roles.readers)
    × (map number_of l.roles.readers.items ≡ map number_of l.initial.roles.readers.items)
