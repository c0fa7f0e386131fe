use Rattle.std.proofs.Common.{◌≡◌, ◌<◌, ◌++◌, length}
use Rattle.std.specs.Slice.Iter.{chunks_rest, chunks_size}
use Rattle.cif_pages.specs.Pages.{joined, ArePages, AreFullPages}
use Rattle.cif_pages.proofs.shelf.pages_of.Given as goal

-- the pages so far and the words that are left make the list, and while words are left, each page is full
abbrev pub invariant-loop-piece : goal.invariant-loop-piece
invariant-loop-piece g l = record {
  words : joined l.pages.items ++ chunks_rest l.piece-iterator ≡ l.words;
  pages : ArePages 1024 l.pages.items;
  full : 0 < length (chunks_rest l.piece-iterator) → AreFullPages 1024 l.pages.items;
  size : chunks_size l.piece-iterator ≡ 1024;
}
