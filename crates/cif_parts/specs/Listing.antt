-- Cells listed in the order of their keys.
use Rattle.std.specs.Prelude.{ℕ, ◌+◌, ◌<◌, ◌≡◌, Bool, true, List, length, get_or, if◌then◌else◌}
use Rattle.cif_defs.specs.Words.{bit}
use Rattle.cif_defs.specs.Loop.{is_passing}
use Rattle.cif_defs.specs.Netlist.{Netlist, role_at}
use Rattle.cif_defs.proofs.Orders.{place_in}

-- cells of an order come first, by their places in it, and then the others, by their numbers
abbrev pub key : Netlist → List ℕ → ℕ → ℕ
key n order c = if is_passing (role_at n c) then place_in order c else length order + c

-- a list has the marked cells whose keys lie below a number, by rising keys
pub record IsListed (n : Netlist) (order : List ℕ) (marks : List Bool) (cells : List ℕ) (end : ℕ) : Type 0 where
  pub each : (c : ℕ) → bit marks c ≡ true → key n order c < end → (i : ℕ) × (i < length cells) × (get_or cells i 0 ≡ c)
  pub only : (i : ℕ) → i < length cells → bit marks (get_or cells i 0) ≡ true
  pub below : (i : ℕ) → i < length cells → key n order (get_or cells i 0) < end
  pub rising : (i j : ℕ) → i < j → j < length cells → key n order (get_or cells i 0) < key n order (get_or cells j 0)
