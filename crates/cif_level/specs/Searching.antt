-- What a search for an order keeps: marks of cells, the path on which it is, and the order so far.
use Rattle.std.specs.Prelude.{ℕ, suc, ◌+◌, ◌-◌, ◌<◌, ◌≤◌, ◌≡◌, true, List, length, get_or, sum_by, Option, Some}
use Rattle.cif_defs.specs.Loop.{Drives, is_passing}
use Rattle.cif_defs.specs.Netlist.{Netlist, role_at}
use Rattle.cif_level.specs.Feeding.{feeder_of, feeder_at}
use Rattle.cif_defs.specs.declared.nets.Src.{Src}
use Rattle.cif_defs.specs.declared.nets.Src.TheVariants.{Zero}
use Rattle.cif_level.specs.declared.feeders.OperandPlace.{OperandPlace}
use Rattle.cif_level.specs.declared.search.Search.{Search}
use Rattle.cif_level.specs.declared.feeders.Mark.{Mark}
use Rattle.cif_level.specs.declared.feeders.Mark.TheVariants.{Unseen, OnPath, Placed}

-- the last number of a list
pub record IsLast (xs : List ℕ) (x : ℕ) : Type 0 where
  pub not_empty : 0 < length xs
  pub is : get_or xs (length xs - 1) 0 ≡ x

-- cells past the end are unseen
abbrev pub mark_of : List Mark → ℕ → Mark
mark_of marks c = get_or marks c Unseen

abbrev pub first_place : OperandPlace
first_place = record { port = 0; index = 0 }

abbrev pub next_port : OperandPlace → OperandPlace
next_port place = record { port = place.port + 1; index = 0 }

abbrev pub place_of : List OperandPlace → ℕ → OperandPlace
place_of places c = get_or places c first_place

-- the cells that drive bits `from` to `to` of an operand, the last left out, stand in the order
pub record ArePlaced (n : Netlist) (marks : List Mark) (sources : List Src) (from to : ℕ) : Type 0 where
  pub placed : (i x : ℕ) → from ≤ i → i < to → feeder_of n (get_or sources i Zero) ≡ Some x → mark_of marks x ≡ Placed

-- the cells that f has at operand bits before a place stand in the order
pub record AreBefore (f : ℕ → ℕ → Option ℕ) (marks : List Mark) (place : OperandPlace) : Type 0 where
  pub ports : (p i x : ℕ) → p < place.port → f p i ≡ Some x → mark_of marks x ≡ Placed
  pub bits : (i x : ℕ) → i < place.index → f place.port i ≡ Some x → mark_of marks x ≡ Placed

-- the cells that f has at any operand bit stand in the order
pub record AreAllPlaced (f : ℕ → ℕ → Option ℕ) (marks : List Mark) : Type 0 where
  pub placed : (p i x : ℕ) → f p i ≡ Some x → mark_of marks x ≡ Placed

-- what a search keeps. Each cell of the path drives the one below it, and what drives a cell of the order stands in
-- the order before it
pub record IsKept (n : Netlist) (marks : List Mark) (places : List OperandPlace) (path order : List ℕ) : Type 0 where
  pub sized : length marks ≡ length n.cells
  pub places_sized : length places ≡ length n.cells
  pub looked : (c : ℕ) → AreBefore (feeder_at n c) marks (place_of places c)
  pub path_marked : (i : ℕ) → i < length path → mark_of marks (get_or path i 0) ≡ OnPath
  pub order_marked : (i : ℕ) → i < length order → mark_of marks (get_or order i 0) ≡ Placed
  pub marked_path : (c : ℕ) → mark_of marks c ≡ OnPath → (i : ℕ) × (i < length path) × (get_or path i 0 ≡ c)
  pub marked_order : (c : ℕ) → mark_of marks c ≡ Placed → (i : ℕ) × (i < length order) × (get_or order i 0 ≡ c)
  pub path_apart : (i j : ℕ) → i < j → j < length path → get_or path i 0 ≡ get_or path j 0 → ⊥
  pub order_apart : (i j : ℕ) → i < j → j < length order → get_or order i 0 ≡ get_or order j 0 → ⊥
  pub path_passing : (i : ℕ) → i < length path → is_passing (role_at n (get_or path i 0)) ≡ true
  pub order_passing : (i : ℕ) → i < length order → is_passing (role_at n (get_or order i 0)) ≡ true
  pub path_driven : (i : ℕ) → suc i < length path → Drives n (get_or path (suc i) 0) (get_or path i 0)
  pub order_settled : (j p i x : ℕ) → j < length order → feeder_at n (get_or order j 0) p i ≡ Some x → (k : ℕ) × (k < j) × (get_or order k 0 ≡ x)

abbrev pub Keeps : Netlist → Search → Type 0
Keeps n s = IsKept n s.marks.items s.places.items s.path.items s.order.items

-- how much is left to do with a cell
abbrev pub mark_weight : Mark → ℕ
mark_weight Unseen = 2
mark_weight OnPath = 1
mark_weight Placed = 0

abbrev pub work_left : Search → ℕ
work_left s = sum_by mark_weight s.marks.items

-- a cell that is placed stays so, and one that was seen is never unseen again
pub record Follows (old new : List Mark) : Type 0 where
  pub placed : (c : ℕ) → mark_of old c ≡ Placed → mark_of new c ≡ Placed
  pub seen : (c : ℕ) → mark_of new c ≡ Unseen → mark_of old c ≡ Unseen

-- a search that is further on
pub record IsFurther (n : Netlist) (old new : Search) : Type 0 where
  pub keeps : Keeps n new
  pub less : work_left new < work_left old
  pub follows : Follows old.marks.items new.marks.items
