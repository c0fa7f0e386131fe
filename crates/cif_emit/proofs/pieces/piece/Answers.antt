use Rattle.cif_emit.proofs.PieceLaws.{piece_is}
use Rattle.cif_emit.proofs.pieces.piece.Goals as goal

pub returns : goal.returns
returns c = record { value = piece_is c.args.word.now c.args.index c.min-end.result c.min-end.ensures }
