-- Marks, and parts of a list of cells.
use Rattle.std.specs.Prelude.{ℕ, ◌+◌, ◌-◌, ◌<◌, ◌≤◌, ◌≡◌, ◌⊎◌, Bool, true, List, length, get_or, take, drop}
use Rattle.std.proofs.Common.{arith, ap, ◌∙◌}
use Rattle.std.proofs.lemmas.List.{get_or-take, get_or-drop, length-take-le, length-drop}
use Rattle.cif_defs.specs.Words.{bit}
use Rattle.cif_readers.specs.Places.{IsAmong}

-- what a loop over some cells has marked
pub record AreMarked (cells : List ℕ) (end : ℕ) (old new : List Bool) : Type 0 where
  pub as_many : length new ≡ length old
  pub kept : (c : ℕ) → bit old c ≡ true → bit new c ≡ true
  pub marked : (i : ℕ) → i < end → get_or cells i 0 < length old → bit new (get_or cells i 0) ≡ true
  pub only : (c : ℕ) → bit new c ≡ true → (bit old c ≡ true) ⊎ IsAmong cells c

-- ---- a part of a list

part_at : (cells : List ℕ) (start end j : ℕ) → j < end - start → get_or (take (end - start) (drop start cells)) j 0 ≡ get_or cells (start + j) 0
part_at cells start end j l = get_or-take (end - start) (drop start cells) j 0 l ∙ get_or-drop start cells j 0

part_length : (cells : List ℕ) (start end : ℕ) → start ≤ end → end ≤ length cells → length (take (end - start) (drop start cells)) ≡ end - start
part_length cells start end l m =
    let long : length (drop start cells) ≡ length cells - start = length-drop start cells in
    let fits : end - start ≤ length (drop start cells) = omega arith in
    length-take-le (end - start) (drop start cells) fits

pub part_has : (cells part : List ℕ) (from start end place : ℕ) → part ≡ take (end - start) (drop start cells) → start ≤ from → start ≤ end → end ≤ length cells → place < end → from ≤ place → IsAmong part (get_or cells place 0)
part_has cells part from start end place is s r l h f =
    let long : length part ≡ end - start = ap (λ (xs : List ℕ). length xs) is ∙ part_length cells start end r l in
    let there : start + (place - start) ≡ place = omega arith in
    let inside : place - start < end - start = omega arith in
    record {
      place = place - start;
      inside = omega arith;
      is = ap (λ (xs : List ℕ). get_or xs (place - start) 0) is ∙ part_at cells start end (place - start) inside ∙ ap (λ k. get_or cells k 0) there;
    }
