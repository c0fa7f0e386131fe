-- Cells that stand as in a levelled order, and drive each covered bit that a passing cell drives: what waits in the order waits
-- among them.
use Rattle.std.specs.Prelude.{ℕ, ◌+◌, ◌<◌, ◌≤◌, ◌≡◌, ◌⊎◌, Bool, true, List, length, get_or}
use Rattle.std.proofs.Common.{arith, ap, sym, ◌∙◌, inl, inr}
use Rattle.cif_defs.specs.Words.{bit}
use Rattle.cif_defs.specs.Evaluation.{is_of_cell}
use Rattle.cif_defs.specs.Loop.{IsLevelled}
use Rattle.cif_defs.specs.Netlist.{Netlist, driver_of}
use Rattle.cif_defs.proofs.Orders.{has_place, place_at, place_in}
use Rattle.cif_defs.proofs.WordLaws.{le_or_lt}
use Rattle.cif_shown.specs.Shown.{CoverBits, StandsBefore, Waits, all_bits}

place_before : (n : Netlist) (order cells : List ℕ) (covered : ℕ → Bool) (i j : ℕ) → IsLevelled n order → CoverBits n order cells covered → i < j → j < length cells → place_in order (get_or cells i 0) < place_in order (get_or cells j 0)
place_before n order cells covered i j o k l e =
    let h : StandsBefore order (get_or cells i 0) (get_or cells j 0) = k.rising i j l e in
    let before : h.place < h.later = h.before in
    let inside : h.later < length order = h.inside in
    let p : place_in order (get_or cells i 0) ≡ h.place = ap (place_in order) (sym h.is) ∙ place_at order h.place o.distinct (omega arith) in
    let q : place_in order (get_or cells j 0) ≡ h.later = ap (place_in order) (sym h.other) ∙ place_at order h.later o.distinct inside in
    omega arith

not_before : (n : Netlist) (order cells : List ℕ) (covered : ℕ → Bool) (i j : ℕ) → IsLevelled n order → CoverBits n order cells covered → i ≤ j → j < length cells → place_in order (get_or cells i 0) ≤ place_in order (get_or cells j 0)
not_before n order cells covered i j o k l e = elim (le_or_lt i j) [
  | inl m ↦ (let z : place_in order (get_or cells i 0) < place_in order (get_or cells j 0) = place_before n order cells covered i j o k m e in omega arith)
  | inr m ↦ (let same : i ≡ j = search arith in let z : place_in order (get_or cells i 0) ≡ place_in order (get_or cells j 0) = ap (λ x. place_in order (get_or cells x 0)) same in omega arith)
]

-- what waits among the cells waits in the order
pub waits_in_order : (n : Netlist) (order cells : List ℕ) (covered : ℕ → Bool) (i b : ℕ) (marks : List Bool) → IsLevelled n order → CoverBits n order cells covered → Waits n cells i marks b → Waits n order (place_in order (get_or cells i 0)) marks b
waits_in_order n order cells covered i b marks o k h =
    let at = has_place n order (get_or cells h.place 0) o (k.passing h.place h.inside) in
    record {
      place = place_in order (get_or cells h.place 0);
      not_passed = not_before n order cells covered i h.place o k h.not_passed h.inside;
      inside = at.0;
      drives = ap (λ z. is_of_cell z (driver_of n b)) at.1 ∙ h.drives;
      marked = ap (bit marks) at.1 ∙ h.marked;
    }

-- a covered bit that waits after a cell in the order waits after it among the cells
pub waits_among : (n : Netlist) (order cells : List ℕ) (covered : ℕ → Bool) (i b : ℕ) (marks : List Bool) → IsLevelled n order → CoverBits n order cells covered → i < length cells → covered b ≡ true
    → Waits n order (place_in order (get_or cells i 0) + 1) marks b → Waits n cells (i + 1) marks b
waits_among n order cells covered i b marks o k l c h =
    let found = k.drive b (get_or order h.place 0) c h.drives (o.only_passing h.place h.inside) in
    let same : place_in order (get_or cells found.0 0) ≡ h.place = ap (place_in order) found.2 ∙ place_at order h.place o.distinct h.inside in
    let later : place_in order (get_or cells i 0) + 1 ≤ h.place = h.not_passed in
    record {
      place = found.0;
      not_passed = elim (le_or_lt i found.0) [
        | inl m ↦ (omega arith)
        | inr m ↦ absurd (let z : place_in order (get_or cells found.0 0) ≤ place_in order (get_or cells i 0) = not_before n order cells covered found.0 i o k m l in omega arith)
      ];
      inside = found.1;
      drives = ap (λ z. is_of_cell z (driver_of n b)) found.2 ∙ h.drives;
      marked = ap (bit marks) found.2 ∙ h.marked;
    }

pub waits_from_start : (n : Netlist) (order cells : List ℕ) (covered : ℕ → Bool) (b : ℕ) (marks : List Bool) → IsLevelled n order → CoverBits n order cells covered → covered b ≡ true → Waits n order 0 marks b → Waits n cells 0 marks b
waits_from_start n order cells covered b marks o k c h =
    let found = k.drive b (get_or order h.place 0) c h.drives (o.only_passing h.place h.inside) in
    record {
      place = found.0;
      not_passed = omega arith;
      inside = found.1;
      drives = ap (λ z. is_of_cell z (driver_of n b)) found.2 ∙ h.drives;
      marked = ap (bit marks) found.2 ∙ h.marked;
    }

-- the cells of a levelled order cover all bits
pub order_covers : (n : Netlist) (order : List ℕ) → IsLevelled n order → CoverBits n order order all_bits
order_covers n order o = record {
  passing = λ i l. o.only_passing i l;
  rising = λ i j l e. record { place = i; later = j; before = l; inside = e; is = Rattle.std.specs.Prelude.refl; other = Rattle.std.specs.Prelude.refl };
  drive = λ b c k is p. (let at = has_place n order c o p in (place_in order c, at.0, at.1));
}
