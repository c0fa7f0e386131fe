-- Rings: cells of which each is driven by the next, and the last by the first.
use Rattle.std.specs.Prelude.{ℕ, suc, ◌+◌, ◌-◌, ◌<◌, ◌≤◌, ◌≡◌, true, List, ◌++◌, length, get_or, take, drop, reverse}
use Rattle.cif_defs.specs.Loop.{Drives, is_passing}
use Rattle.cif_defs.specs.Netlist.{Netlist, role_at}

pub record IsRing (n : Netlist) (ring : List ℕ) : Type 0 where
  pub not_empty : 0 < length ring
  pub passing : (i : ℕ) → i < length ring → is_passing (role_at n (get_or ring i 0)) ≡ true
  pub apart : (i j : ℕ) → i < j → j < length ring → get_or ring i 0 ≡ get_or ring j 0 → ⊥
  pub driven : (i : ℕ) → suc i < length ring → Drives n (get_or ring (suc i) 0) (get_or ring i 0)
  pub closed : Drives n (get_or ring 0 0) (get_or ring (length ring - 1) 0)

-- from the least cell on, backwards round the ring
pub record IsUnwound (ring cells : List ℕ) : Type 0 where
  pub least : ℕ
  pub in_range : least < length ring
  pub is_least : (j : ℕ) → j < length ring → get_or ring least 0 ≤ get_or ring j 0
  pub is : cells ≡ reverse (drop (least + 1) ring ++ take (least + 1) ring)

-- the cells of a path from cell x on, unwound
pub record IsClosedBy (path : List ℕ) (x : ℕ) (cells : List ℕ) : Type 0 where
  pub place : ℕ
  pub in_range : place < length path
  pub is_cell : get_or path place 0 ≡ x
  pub unwound : IsUnwound (drop place path) cells
