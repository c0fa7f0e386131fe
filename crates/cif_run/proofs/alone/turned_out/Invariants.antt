use Rattle.std.proofs.Common.{◌≡◌, map, vec_len}
use Rattle.cif_run.specs.Readers.{number_of}
use Rattle.cif_run.proofs.alone.turned_out.Given as goal

abbrev pub invariant-loop-round : goal.invariant-loop-round
invariant-loop-round g l =
    (vec_len l.roles.workers ≡ vec_len l.initial.roles.workers)
    × (vec_len l.roles.readers ≡ vec_len l.initial.roles.readers)
    × (map number_of l.roles.readers.items ≡ map number_of l.initial.roles.readers.items)
