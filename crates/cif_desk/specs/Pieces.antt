-- The pieces that texts are made of.
use Rattle.std.specs.Prelude.{ℕ, List}
use Rattle.std.specs.Fmt.{decimal}
use Rattle.cif_defs.specs.Text.{coded}
use Rattle.cif_desk.specs.declared.text.Piece.{Piece}
use Rattle.cif_desk.specs.declared.text.Piece.TheVariants.{Plain, Name, Number}

abbrev pub piece_text : Piece → List ℕ
piece_text (Plain text) = text.now
piece_text (Name name) = coded name.now
piece_text (Number n) = decimal n
