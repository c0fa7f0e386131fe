-- Where the cells of a module stand in a list in turn, their places rise from each cell to those that it drives.
use Rattle.std.specs.Prelude.{ℕ, zero, suc, ◌<◌, ◌≤◌, ◌≡◌, Bool, true, false, List, [], ◌∷◌, map, get_or, length, eqb, refl}
use Rattle.std.proofs.Common.{arith, sym, ap, ◌∙◌, cond, inl, inr}
use Rattle.std.proofs.lemmas.Bool.{cases_Bool, eq-eqb}
use Rattle.cif_defs.specs.Order.{IsInOrder}
use Rattle.cif_defs.specs.RawModule.{nets_in}
use Rattle.cif_defs.specs.Accepted.{netlist_of}
use Rattle.cif_defs.specs.Loop.{Drives}
use Rattle.cif_defs.specs.declared.raw_module.RawCell.{RawCell}
use Rattle.cif_defs.specs.declared.raw_module.Raw.{Raw}
use Rattle.cif_defs.proofs.Orders.{place_found, place_in}
use Rattle.cif_emit.specs.Emitted.{drives}
use Rattle.cif_nets.proofs.Places.{At, At-has, At-moved, At-same, Has, Has-at}
use Rattle.cif_nets.proofs.Passed.{Passed}
use Rattle.cif_raw_runs.specs.Places.{cell_number}
use Rattle.cif_raw_runs.specs.Ranks.{AreRanks}
use Rattle.cif_raw_runs.proofs.Numbers.{cell_found}
use Rattle.cif_built_order.proofs.Counted.{count_below, ranks_if_rising}
use Rattle.cif_built_order.proofs.Owners.{one_owner, passes}
use Rattle.cif_built_order.proofs.Feeding.{counted, feeds}
use Rattle.cif_built_order.proofs.Turns.{EarlierDrives, InTurn, Known, no_reads, read_in_turn}

-- ---- places among numbers

past_le : (b : Bool) (m i : ℕ) → m ≤ i → cond b 0 (suc m) ≤ suc i
past_le true m i l = omega arith
past_le false m i l = omega arith

-- the first place of a number is at most any
place_le : (xs : List ℕ) (i x : ℕ) → i < length xs → get_or xs i 0 ≡ x → place_in xs x ≤ i
place_le [] i x l e = absurd (omega arith)
place_le (y ∷ ys) zero x l e = (let same : eqb y x ≡ true = eq-eqb y x e in let here : place_in (y ∷ ys) x ≡ 0 = ap (λ b. cond b 0 (suc (place_in ys x))) same in omega arith)
place_le (y ∷ ys) (suc i) x l e = past_le (eqb y x) (place_in ys x) i (place_le ys i x (omega arith) e)

-- ---- numbers of the cells of a list

abbrev pub numbers_of : Raw → List RawCell → List ℕ
numbers_of a cs = map (λ (c : RawCell). cell_number a c.name) cs

at_numbers : (a : Raw) (cs : List RawCell) (i : ℕ) (c : RawCell) → At cs i c → (i < length (numbers_of a cs)) × (get_or (numbers_of a cs) i 0 ≡ cell_number a c.name)
at_numbers a [] i c h = absurd h
at_numbers a (d ∷ cs) zero c h = (omega arith, ap (λ (e : RawCell). cell_number a e.name) h)
at_numbers a (d ∷ cs) (suc i) c h = (let rest = at_numbers a cs i c h in (omega (arith, rest.0), rest.1))

from_numbers : (a : Raw) (cs : List RawCell) (i x : ℕ) → i < length (numbers_of a cs) → get_or (numbers_of a cs) i 0 ≡ x → (c : RawCell) × At cs i c × (cell_number a c.name ≡ x)
from_numbers a [] i x l e = absurd (omega arith)
from_numbers a (d ∷ cs) zero x l e = (d, refl, e)
from_numbers a (d ∷ cs) (suc i) x l e = (let rest = from_numbers a cs i x (omega arith) e in (rest.0, rest.1, rest.2))

-- ---- places rise

abbrev pub place_of_cell : Raw → List RawCell → ℕ → ℕ
place_of_cell a cells e = place_in (numbers_of a cells) e

-- a list of cells of a module, all that pass among them, in turn
pub record AreInTurn (a : Raw) (cells : List RawCell) : Type 0 where
  pub there : (d : RawCell) → Has cells d → Has a.cells d
  pub each : (d : RawCell) → Has a.cells d → passes d ≡ true → Has cells d
  pub turn : InTurn a [] cells

-- the cell of a number is the one that stands at its first place
first_is : (a : Raw) (cells : List RawCell) (e : ℕ) (to found : RawCell) → IsInOrder a → At a.cells e to → Has a.cells found → cell_number a found.name ≡ e → found ≡ to
first_is a cells e to found sorted at h same =
    let back = At-has a.cells found h in
    let place : e ≡ back.0 = sym same ∙ cell_found a back.0 found sorted back.1 in
    At-same a.cells e found to (At-moved a.cells back.0 e found place back.1) at

placed : (a : Raw) (cells : List RawCell) (e : ℕ) (to : RawCell) → AreInTurn a cells → IsInOrder a → At a.cells e to → passes to ≡ true → At cells (place_of_cell a cells e) to
placed a cells e to t sorted at h =
    let somewhere = At-has cells to (t.each to (Has-at a.cells e to at) h) in
    let number = at_numbers a cells somewhere.0 to somewhere.1 in
    let named : get_or (numbers_of a cells) somewhere.0 0 ≡ e = number.1 ∙ cell_found a e to sorted at in
    let low : place_of_cell a cells e ≤ somewhere.0 = place_le (numbers_of a cells) somewhere.0 e number.0 named in
    let inside : somewhere.0 < length (numbers_of a cells) = number.0 in
    let first : place_of_cell a cells e < length (numbers_of a cells) = omega arith in
    let found = from_numbers a cells (place_of_cell a cells e) e first (place_found (numbers_of a cells) e first) in
    let there : Has a.cells found.0 = t.there found.0 (Has-at cells (place_of_cell a cells e) found.0 found.1) in
    rw (first_is a cells e to found.0 sorted at there found.2) at found.1

-- a cell that drives what another reads stands before it
earlier : (a : Raw) (cells : List RawCell) (d j : ℕ) (from : RawCell) (x : ℕ) → Passed a → AreInTurn a cells → IsInOrder a → At a.cells d from → Has (drives from) x → EarlierDrives cells j x → place_of_cell a cells d < j
earlier a cells d j from x s t sorted at h k =
    let back = At-has a.cells k.1 (t.there k.1 (Has-at cells k.0 k.1 k.3)) in
    let same : back.0 ≡ d = one_owner a back.0 k.1 d from x s back.1 at k.4 h in
    let number = at_numbers a cells k.0 k.1 k.3 in
    let named : get_or (numbers_of a cells) k.0 0 ≡ d = number.1 ∙ cell_found a back.0 k.1 sorted back.1 ∙ same in
    let low : place_of_cell a cells d ≤ k.0 = place_le (numbers_of a cells) k.0 d number.0 named in
    let less : k.0 < j = k.2 in
    omega arith

reads_pass : (c : RawCell) (x : ℕ) → Has (nets_in (counted c)) x → passes c ≡ true
reads_pass c x h = elim (cases_Bool (passes c)) [ inl e ↦ e | inr e ↦ absurd (no_reads c x e h) ]

none_known : (a : Raw) (d : ℕ) (from : RawCell) (x : ℕ) → At a.cells d from → Has (drives from) x → passes from ≡ true → Known a [] x → ⊥
none_known a d from x at h k (inl none) = none from (Has-at a.cells d from at) h k
none_known a d from x at h k (inr q) = q

pub places_rise : (a : Raw) (cells : List RawCell) (d e : ℕ) → Passed a → AreInTurn a cells → IsInOrder a → Drives (netlist_of a) d e → place_of_cell a cells d < place_of_cell a cells e
places_rise a cells d e s t sorted v =
    let f = feeds a d e v in
    let at = placed a cells e f.to t sorted f.at_to (reads_pass f.to f.number f.read) in
    elim (read_in_turn a [] cells (place_of_cell a cells e) f.to f.number t.turn at f.read) [
      | inl k ↦ absurd (none_known a d f.from f.number f.at_from f.driven f.passing k)
      | inr k ↦ earlier a cells d (place_of_cell a cells e) f.from f.number s t sorted f.at_from f.driven k
    ]

pub ranks_in_turn : (a : Raw) (cells : List RawCell) → Passed a → AreInTurn a cells → IsInOrder a → (r : ℕ → ℕ) × AreRanks (netlist_of a) r
ranks_in_turn a cells s t sorted =
    let r : ℕ → ℕ = place_of_cell a cells in
    (λ c. count_below r (length (netlist_of a).cells) (r c), ranks_if_rising (netlist_of a) r (λ d e v. places_rise a cells d e s t sorted v))
