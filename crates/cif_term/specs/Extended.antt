-- A formula that extends another to a width.
use Rattle.std.specs.Prelude.{ℕ, ◌-◌, nat_le, min, Bool, ◌||◌, List, map, if◌then◌else◌}
use Rattle.std.specs.List.{range_with_len}
use Rattle.cif_defs.specs.Words.{zeros}
use Rattle.cif_term.specs.Formulas.{Formula, Const, Pick, Join}

-- the places that n bits of a word of m bits show: past its end its highest
abbrev pub shown_places : ℕ → ℕ → List ℕ
shown_places n m = map (λ i. min i (m - 1)) (range_with_len 0 n)

-- f, which has m bits, cut or extended to n bits
abbrev pub extended : ℕ → Bool → ℕ → Formula → Formula
extended n signed m f = if signed || nat_le n m then Pick f (shown_places n m) else Join f (Const (zeros (n - m)))
