use Rattle.std.proofs.Common.{◌∙◌, ◌<◌, ◌≡◌, ◌≤◌, None, Some, ap, sym, arith, length, length-set}
use Rattle.cif_pieces.specs.Filled.{cycle_here}
use Rattle.cif_pieces.specs.Pieces.{piece_of}
use Rattle.cif_parts.proofs.Slotting.{all_emptied, emptied_more, full_more, pieces_all, pieces_more}
use Rattle.cif_parts.proofs.join.joined_pieces.Goals as goal

pub loop-part-preserved : goal.loop-part-preserved
loop-part-preserved c =
    let many : length c.loop-part.slots ≡ length c.args.slots.now = c.loop-part.invariant.as_many in
    let as_many : length c.args.slots.now ≡ c.args.plan.now.parts = c.requires.len in
    let is : c.parts-parts.result ≡ c.args.plan.now.parts = c.parts-parts.ensures.is in
    let below : c.loop-part.part < c.parts-parts.result = c.loop-part-test.true in
    record {
      holds = pieces_more c.args.case.now (cycle_here c.args.slots.now) c.parts-parts.result c.loop-part.part c.taken-piece.result _ c.take_over.new.joined c.taken-piece.ensures.piece
          (c.loop-part.invariant.full c.loop-part.part (omega arith) ∙ c.requires.filled c.loop-part.part (omega arith) ∙ ap (λ k. Some (piece_of c.args.case.now (cycle_here c.args.slots.now) c.loop-part.part k)) (sym is)) c.take_over.ensures;
      as_many = ap length c.taken-piece.ensures.empty ∙ length-set c.loop-part.slots c.loop-part.part None ∙ many;
      emptied = emptied_more c.loop-part.slots c.taken-piece.new.slots c.loop-part.part c.taken-piece.ensures.empty (omega arith) c.loop-part.invariant.emptied;
      full = full_more c.loop-part.slots c.taken-piece.new.slots c.args.slots.now c.loop-part.part c.taken-piece.ensures.empty c.loop-part.invariant.full;
      some = omega arith;
    }

pub returns-clause-holds : goal.returns-clause-holds
returns-clause-holds c =
    let is : c.parts-parts.result ≡ c.args.plan.now.parts = c.parts-parts.ensures.is in
    let past : c.parts-parts.result ≤ c.loop-part.part = c.loop-part-test.false in
    pieces_all c.args.case.now (cycle_here c.args.slots.now) c.parts-parts.result c.args.plan.now.parts c.loop-part.part c.loop-part.joined is (omega arith) c.loop-part.invariant.holds

pub returns-clause-empty : goal.returns-clause-empty
returns-clause-empty c =
    let is : c.parts-parts.result ≡ c.args.plan.now.parts = c.parts-parts.ensures.is in
    let past : c.parts-parts.result ≤ c.loop-part.part = c.loop-part-test.false in
    let as_many : length c.args.slots.now ≡ c.args.plan.now.parts = c.requires.len in
    all_emptied c.loop-part.slots c.args.slots.now c.loop-part.part (omega arith) c.loop-part.invariant.emptied c.loop-part.invariant.full
