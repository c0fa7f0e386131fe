use Rattle.std.proofs.Common.{ℕ, Some, ap, arith, length, option_map, slice_set, ◌<◌, ◌≡◌, ◌∙◌}
use Rattle.std.proofs.lemmas.List.{length-set}
use Rattle.cif_pieces.specs.Pieces.{PieceOf}
use Rattle.cif_parts.specs.Running.{cycle_after}
use Rattle.cif_parts_examples.proofs.Filling.{empty_more, filled_more}
use Rattle.cif_parts_examples.proofs.joined.joined_frame.Goals as goal

pub loop-part-preserved : goal.loop-part-preserved
loop-part-preserved c =
    let k : ℕ = cycle_after (option_map (λ frame. frame.now) c.args.prior) in
    let put = c.put.ensures ∙ ap (λ (p : PieceOf). slice_set c.loop-part.slots c.loop-part.part (Some p)) c.in_ok-piece.ensures in
    let long : length c.loop-part.slots ≡ c.args.plan.now.parts = c.loop-part.invariant.len in
    let parts : c.parts-parts.result ≡ c.args.plan.now.parts = c.parts-parts.ensures.is in
    let inside : c.loop-part.part < c.parts-parts.result = c.loop-part-test.true in
    record {
      len = ap length put ∙ length-set c.loop-part.slots c.loop-part.part _ ∙ long;
      filled = filled_more c.args.case.now.value k c.args.plan.now.parts c.loop-part.part c.loop-part.slots c.put.new.self put (omega arith) c.loop-part.invariant.filled;
      empty = empty_more c.loop-part.part _ c.loop-part.slots c.put.new.self put c.loop-part.invariant.empty;
    }
