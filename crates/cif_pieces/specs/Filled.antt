-- What the places of slots hold.
use Rattle.std.specs.Prelude.{ℕ, ◌<◌, ◌≡◌, List, Option, Some, None, get_or}
use Rattle.cif_seq.specs.Cases.{CaseOf}
use Rattle.cif_pieces.specs.Pieces.{PieceOf, piece_of}

-- what the place of a part holds; nothing past the end
abbrev pub place : List (Option PieceOf) → ℕ → Option PieceOf
place slots part = get_or slots part None

-- every place is empty
abbrev pub AllEmpty : List (Option PieceOf) → Type 0
AllEmpty slots = (part : ℕ) → place slots part ≡ None

-- each of so many places holds the piece of its own part, of one cycle of a case
abbrev pub AllHere : CaseOf → ℕ → ℕ → List (Option PieceOf) → Type 0
AllHere c k parts slots = (part : ℕ) → part < parts → place slots part ≡ Some (piece_of c k part parts)

abbrev pub cycle_by : Option PieceOf → ℕ
cycle_by (Some piece) = piece.cycle
cycle_by None = 0

-- the cycle of the piece of part 0; 0 where its place is empty
abbrev pub cycle_here : List (Option PieceOf) → ℕ
cycle_here slots = cycle_by (place slots 0)
