use Rattle.std.proofs.Common.{◌++◌, ◌∙◌, List, ℕ, ◌≤◌, length, ap, arith}
use Rattle.cif_desk.specs.Pieces.{piece_text}
use Rattle.cif_desk.proofs.TextLaws.{flat_map_done, joined-map}
use Rattle.cif_desk.proofs.text.push_all.Goals as goal

pub returns : goal.returns
returns c =
    let done : length c.args.pieces.now ≤ c.loop-piece.piece-index = omega arith in
    flat_map_done piece_text c.args.text.now.items c.args.pieces.now c.loop-piece.piece-index c.loop-piece.text.items done c.loop-piece.invariant
    ∙ ap (λ (t : List ℕ). c.args.text.now.items ++ t) (joined-map piece_text c.args.pieces.now)
