-- What the fields of a `PartDone` hold.
use Rattle.cif_pieces.specs.Pieces.{PieceOf, piece_of, IsPiece, HoldsPiece}
use Rattle.cif_pieces.specs.declared.piece.PartDone.TheInside.{Inside}

abbrev pub piece_seen : Inside → PieceOf
piece_seen p = piece_of p.case.value p.cycle p.part p.parts

-- there is such a piece, and the tables hold it
pub record HoldsPart (p : Inside) : Type 0 where
  pub is : IsPiece (piece_seen p)
  pub holds : HoldsPiece (piece_seen p) p.bits
