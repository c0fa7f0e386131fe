-- The places of tainted bits, and the ways to write bits at places.
use Rattle.std.specs.Prelude.{ℕ, ◌+◌, ◌<◌, Bool, true, false, not, ◌||◌, List, [], ◌∷◌, ◌++◌, length, get_or, slice_set}
use Rattle.cif_defs.specs.Words.{Word, operand}
use Rattle.cif_enumerate.specs.declared.places.Place.{Place}

-- the places of the ones of an operand's taint word, of which the bits from bit i on are given
abbrev pub places_in : ℕ → ℕ → Word → List Place
places_in port i [] = []
places_in port i (true ∷ t) = record { port = port; index = i } ∷ places_in port (i + 1) t
places_in port i (false ∷ t) = places_in port (i + 1) t

-- the places of the ones of taint words, of which those from an operand on are given
abbrev pub places_from : ℕ → List Word → List Place
places_from port [] = []
places_from port (t ∷ ts) = places_in port 0 t ++ places_from (port + 1) ts

-- words of these widths have each of the places
abbrev pub AreWithin : List ℕ → List Place → Type 0
AreWithin widths [] = Unit {0}
AreWithin widths (place ∷ rest) = (place.port < length widths) × (place.index < get_or widths place.port 0) × AreWithin widths rest

-- the words with one bit written
abbrev pub with_bit : List Word → Place → Bool → List Word
with_bit ws place b = slice_set ws place.port (slice_set (operand ws place.port) place.index b)

-- whether some way to write bits at the places passes p
abbrev pub some_filling : List Place → List Word → (List Word → Bool) → Bool
some_filling [] ws p = p ws
some_filling (place ∷ rest) ws p = some_filling rest (with_bit ws place false) p || some_filling rest (with_bit ws place true) p

-- whether a bit is the wanted one
abbrev pub is_wanted : Bool → Bool → Bool
is_wanted true b = b
is_wanted false b = not b
