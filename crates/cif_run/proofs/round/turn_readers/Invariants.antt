use Rattle.std.proofs.Common.{◌≡◌, map, vec_len}
use Rattle.cif_run.specs.Readers.{number_of}
use Rattle.cif_run.proofs.round.turn_readers.Given as goal

abbrev pub invariant-loop-i : goal.invariant-loop-i
invariant-loop-i g l = (vec_len l.readers ≡ vec_len l.fn.readers) × (map number_of l.readers.items ≡ map number_of l.fn.readers.items)
