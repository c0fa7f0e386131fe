-- Where new net numbers and new names of cells stand.
use Rattle.std.specs.Prelude.{ℕ, ◌+◌, ◌≤◌, ◌≡◌, false, List, [], ◌∷◌, ◌++◌, codes, Option, unwrap_or}
use Rattle.std.specs.Fmt.{decimal}
use Rattle.cif_checks.specs.Checks.{has_number}

-- the net numbers that stood from the beginning, the least number that wasn't looked at yet, how many numbers were handed
-- out, the cell whose names are made, and how many of these were made
pub record Maker : Type 0 where
  pub used : List ℕ
  pub next : ℕ
  pub handed : ℕ
  pub cell : Option (List ℕ)
  pub made : ℕ

-- a number that may still be handed out
pub record IsFree (m : Maker) (x : ℕ) : Type 0 where
  pub later : m.next ≤ x
  pub unused : has_number x m.used ≡ false

-- once number x, the least that is free, is handed out
abbrev pub with_number : Maker → ℕ → Maker
with_number m x = record m { next = x + 1; handed = m.handed + 1 }

-- numbers that rise from a on, all of them below b, and none of them used
abbrev pub RiseBetween : List ℕ → ℕ → ℕ → List ℕ → Type 0
RiseBetween used a b [] = a ≤ b
RiseBetween used a b (x ∷ xs) = (a ≤ x) × (has_number x used ≡ false) × RiseBetween used (x + 1) b xs

-- the name `C__t` and number i of a cell C
abbrev pub further_name : List ℕ → ℕ → List ℕ
further_name cell i = cell ++ (codes "__t" ++ decimal i)

-- the next name of the cell whose names are made
abbrev pub name_in : Maker → ℕ → List ℕ
name_in m i = further_name (unwrap_or m.cell []) i
