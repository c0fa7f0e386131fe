use Rattle.std.proofs.Common.{◌∙◌}
use Rattle.std.specs.Slice.Iter.{chunks_rest, chunks_size}
use Rattle.cif_pages.proofs.PageCuts.{next_piece}
use Rattle.cif_pages.proofs.shelf.pages_of.Goals as goal

pub loop-piece-preserved : goal.loop-piece-preserved
loop-piece-preserved g c =
    let so_far = c.loop-piece.invariant in
    let step = c.in-Some.ensures.steps in
    let next = next_piece 1024 (chunks_size c.loop-piece.piece-iterator) c.loop-piece.pages.items c.push.new.self.items
    c.in_ok-of.field-0 c.in-Some.piece.now (chunks_rest c.loop-piece.piece-iterator) (chunks_rest c.next.new.self) c.args.words.now
    so_far.size c.in_ok-push.ensures.items c.in_ok-of.ensures step.1.0 step.1.1 (so_far.full step.1.2) so_far.words in
    record {
      words = next.0;
      pages = next.1;
      full = next.2;
      size = step.0 ∙ so_far.size;
    }
