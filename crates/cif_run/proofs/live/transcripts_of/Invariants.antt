use Rattle.std.proofs.Common.{◌≡◌, ◌<◌, ◌+◌, ℕ, get_or, vec_len}
use Rattle.std.specs.Vec.Iter.{into_iter_items, into_iter_len}
use Rattle.cif_seq.specs.Cases.{net_of}
use Rattle.cif_run.specs.Readers.{AllLegal}
use Rattle.cif_run.proofs.live.transcripts_of.Given as goal

abbrev pub invariant-loop-reader : goal.invariant-loop-reader
invariant-loop-reader g l =
    (vec_len l.transcripts + into_iter_len l.reader-iterator ≡ vec_len l.fn.readers)
    × ((k : ℕ) (d : _) → k < into_iter_len l.reader-iterator → (get_or (into_iter_items l.reader-iterator) k d).number ≡ vec_len l.transcripts + k)
    × AllLegal (net_of g.N.Run.case) g.N.Run.case.stimulus g.N.Scripted.script l.transcripts.items
