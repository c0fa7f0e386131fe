use Rattle.std.proofs.Common.{◌≡◌, ◌<◌, ◌+◌, ℕ, get_or, vec_len}
use Rattle.std.specs.Vec.Iter.{into_iter_items, into_iter_len}
use Rattle.cif_run.specs.Readers.{AreNumbered}
use Rattle.cif_run.proofs.threads.all_readers.Given as goal

abbrev pub invariant-loop-reader : goal.invariant-loop-reader
invariant-loop-reader g l =
    (vec_len l.readers + into_iter_len l.reader-iterator ≡ vec_len l.fn.away + vec_len l.fn.home)
    × ((k : ℕ) (d : _) → k < into_iter_len l.reader-iterator → (get_or (into_iter_items l.reader-iterator) k d).number ≡ vec_len l.readers + k)
    × AreNumbered l.readers.items
