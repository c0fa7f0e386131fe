use Rattle.std.proofs.Common.{◌≡◌, ◌<◌, ◌+◌, ℕ, get_or, vec_items, vec_len}
use Rattle.std.specs.Vec.Iter.{into_iter_items, into_iter_len}
use Rattle.cif_run.proofs.threads.start_readers.Given as goal

abbrev pub invariant-loop-reader : goal.invariant-loop-reader
invariant-loop-reader g l =
    (vec_len l.away + vec_len l.home + into_iter_len l.reader-iterator ≡ vec_len l.fn.readers)
    × ((k : ℕ) (d : _) → k < into_iter_len l.reader-iterator → (get_or (into_iter_items l.reader-iterator) k d).number ≡ vec_len l.away + vec_len l.home + k)
    × ((k : ℕ) (d : _) → k < vec_len l.away → (get_or (vec_items l.away) k d).promise.0 ≡ k)
    × ((k : ℕ) (d : _) → k < vec_len l.home → (get_or (vec_items l.home) k d).number ≡ vec_len l.away + k)
