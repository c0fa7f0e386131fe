-- The words of a text.
use Rattle.std.specs.Prelude.{ℕ, ◌≡◌, false, ◌==◌, List, [], ◌∷◌, length, Option, Some, None}
use Rattle.std.specs.Borrow.{Bor}

-- the word of a list of one
abbrev pub IsOnly : List (List ℕ) → Option (Bor (List ℕ)) → Type 0
IsOnly words (Some word) = words ≡ word.now ∷ []
IsOnly words None = (length words == 1) ≡ false
