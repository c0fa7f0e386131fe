-- What a table of bits holds once the words of a cell are written to the net bits that its outputs drive.
use Rattle.std.specs.Prelude.{ℕ, Bool, false, List, [], ◌∷◌, drop, get_or, slice_set, Option, Some, None, if◌then◌else◌}
use Rattle.cif_defs.specs.Words.{Word, bit}

-- a bit that is cleared where a mark says so
abbrev pub cleared : List Bool → ℕ → Bool → Bool
cleared marks b x = if bit marks b then false else x

-- bit x at a net bit, where one is connected
abbrev pub put : List Bool → Option ℕ → Bool → List Bool → List Bool
put marks None x bits = bits
put marks (Some b) x bits = slice_set bits b (cleared marks b x)

-- a word at the net bits of an output
abbrev pub put_word : List Bool → List (Option ℕ) → Word → List Bool → List Bool
put_word marks [] w bits = bits
put_word marks (t ∷ ts) w bits = put_word marks ts (drop 1 w) (put marks t (bit w 0) bits)

-- words at the net bits of outputs
abbrev pub put_words : List Bool → List (List (Option ℕ)) → List Word → List Bool → List Bool
put_words marks [] ws bits = bits
put_words marks (ts ∷ rest) ws bits = put_words marks rest (drop 1 ws) (put_word marks ts (get_or ws 0 []) bits)
