-- A part of a word between zeros.
use Rattle.std.specs.Prelude.{ℕ, ◌+◌, ◌==◌, List, map, if◌then◌else◌}
use Rattle.std.specs.List.{range_with_len}
use Rattle.cif_defs.specs.Words.{zeros}
use Rattle.cif_term.specs.Formulas.{Formula, Const, Pick, Join}

-- f above n zeros
abbrev pub low_padded : ℕ → Formula → Formula
low_padded n f = if n == 0 then f else Join (Const (zeros n)) f

-- f below n zeros
abbrev pub high_padded : ℕ → Formula → Formula
high_padded n f = if n == 0 then f else Join f (Const (zeros n))

-- len places, from start on
abbrev pub places_from : ℕ → ℕ → List ℕ
places_from start len = map (λ i. start + i) (range_with_len 0 len)

-- low zeros, above them len bits of f from bit start on, and above those high zeros
abbrev pub window : ℕ → ℕ → ℕ → ℕ → Formula → Formula
window low start len high f = if len == 0 then Const (zeros (low + high)) else low_padded low (high_padded high (Pick f (places_from start len)))
