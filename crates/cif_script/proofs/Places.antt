-- Places of names among wires, of which no two have one name.
use Rattle.std.specs.Prelude.{ℕ, ◌+◌, ◌<◌, ◌≤◌, ◌≡◌, ◌⊎◌, ◌==◌, nat_lt, Bool, true, false, not, List, [], ◌∷◌, ◌++◌, length, bytes_eq, Option, Some, None, is_some, unwrap_or, refl, if◌then◌else◌}
use Rattle.std.specs.List.{position_or_len}
use Rattle.std.proofs.Common.{arith, sym, ap, subst, inl, inr, ◌∙◌, cond}
use Rattle.std.proofs.Math.ListN.{get_or-append}
use Rattle.std.proofs.Math.Seq.{get_or-append_seam}
use Rattle.std.proofs.lemmas.Slice.Eq.{bytes_eq-Decides}
use Rattle.std.proofs.lemmas.List.{length-append}
use Rattle.std.proofs.lemmas.List.Folds.{position_or_len_push}
use Rattle.std.proofs.lemmas.List.Quantifiers.{position-Some}
use Rattle.std.proofs.lemmas.List.Sums.{prefix_len-le-length}
use Rattle.std.proofs.lemmas.Bool.Decides.{nat_tests}
use Rattle.cif_defs.specs.Netlist.{no_wire}
use Rattle.cif_defs.specs.declared.nets.Wire.{Wire}
use Rattle.cif_script.specs.Scripts.{wire_at}
use Rattle.cif_script.specs.ScriptText.{place_of, wires_with, wire_number}
use Rattle.cif_script.specs.ShownWires.{AreApart}

-- a place is that of a wire
pub place_inside : (wires : List Wire) (name : List ℕ) (k : ℕ) → place_of wires name ≡ Some k → k < length wires
place_inside wires name k h = (position-Some (λ (w : Wire). bytes_eq w.name name) wires k no_wire h).0

-- the number of a wire is below the number of the wires with it
pub number_inside : (wires : List Wire) (w : Wire) → wire_number wires w < length (wires_with wires w)
number_inside wires w = by_place (place_of wires w.name) refl where
  by_place : (place : Option ℕ) → place_of wires w.name ≡ place → unwrap_or place (length wires) < length (if is_some place then wires else wires ++ w ∷ [])
  by_place None e = rw length-append (omega arith)
  by_place (Some k) e = place_inside wires w.name k e

-- no wire is lost
pub wires_more : (wires : List Wire) (w : Wire) → length wires ≤ length (wires_with wires w)
wires_more wires w = by_place (is_some (place_of wires w.name)) where
  by_place : (found : Bool) → length wires ≤ length (if found then wires else wires ++ w ∷ [])
  by_place true = omega arith
  by_place false = rw length-append (omega arith)

-- a place among wires with one more
abbrev pub place_after : Option ℕ → Bool → ℕ → Option ℕ
place_after (Some k) here n = Some k
place_after None here n = if here then Some n else None

some_below : (k m : ℕ) → k < m → cond (nat_lt k m) (Some k) None ≡ Some k
some_below k m h = (let e : nat_lt k m ≡ true = grind (arith, nat_tests) in ap (λ b. cond b (Some k) None) e)

none_from : (k m : ℕ) → m ≤ k → cond (nat_lt k m) (Some k) None ≡ None
none_from k m h = (let e : nat_lt k m ≡ false = grind (arith, nat_tests) in ap (λ b. cond b (Some k) None) e)

at_end : (n : ℕ) (here : Bool) → cond (nat_lt (n + cond here 0 1) (n + 1)) (Some (n + cond here 0 1)) None ≡ place_after None here n
at_end n true = some_below (n + 0) (n + 1) (omega arith) ∙ ap Some (let e : n + 0 ≡ n = omega arith in e)
at_end n false = none_from (n + 1) (n + 1) (omega arith)

place_by : (a n : ℕ) (here : Bool) → a ≤ n → cond (nat_lt (cond (a == n) (n + cond here 0 1) a) (n + 1)) (Some (cond (a == n) (n + cond here 0 1) a)) None ≡ place_after (cond (nat_lt a n) (Some a) None) here n
place_by a n here h = by_tests (a == n) (nat_lt a n) refl refl where
  by_tests : (e l : Bool) → (a == n) ≡ e → nat_lt a n ≡ l → cond (nat_lt (cond e (n + cond here 0 1) a) (n + 1)) (Some (cond e (n + cond here 0 1) a)) None ≡ place_after (cond l (Some a) None) here n
  by_tests true true p q = absurd (grind (arith, nat_tests))
  by_tests true false p q = at_end n here
  by_tests false true p q = some_below a (n + 1) (let k : a < n = grind (arith, nat_tests) in omega arith)
  by_tests false false p q = absurd (grind (arith, nat_tests))

pub place_push : (wires : List Wire) (w : Wire) (name : List ℕ) → place_of (wires ++ w ∷ []) name ≡ place_after (place_of wires name) (bytes_eq w.name name) (length wires)
place_push wires w name =
    let p : Wire → Bool = λ x. bytes_eq x.name name in
    ap (λ k. cond (nat_lt k (length (wires ++ w ∷ []))) (Some k) None) (position_or_len_push p wires w)
    ∙ ap (λ m. cond (nat_lt (cond (position_or_len p wires == length wires) (length wires + cond (p w) 0 1) (position_or_len p wires)) m) (Some (cond (position_or_len p wires == length wires) (length wires + cond (p w) 0 1) (position_or_len p wires))) None) (length-append wires (w ∷ []))
    ∙ place_by (position_or_len p wires) (length wires) (p w) (prefix_len-le-length (λ x. not (p x)) wires)

-- ---- no two wires have one name

split_at : (i n : ℕ) → i < n + 1 → (i < n) ⊎ (i ≡ n)
split_at i n h = by_test (nat_lt i n) refl where
  by_test : (t : Bool) → nat_lt i n ≡ t → (i < n) ⊎ (i ≡ n)
  by_test true e = inl (grind (arith, nat_tests))
  by_test false e = inr (grind (arith, nat_tests))

same_bytes : (name : List ℕ) → bytes_eq name name ≡ true
same_bytes name = (bytes_eq-Decides name name).1 refl

earlier_apart : (wires : List Wire) (w : Wire) (i : ℕ) → i < length wires → place_of wires (wire_at wires i).name ≡ Some i → place_of (wires ++ w ∷ []) (wire_at (wires ++ w ∷ []) i).name ≡ Some i
earlier_apart wires w i below h =
    ap (λ (x : Wire). place_of (wires ++ w ∷ []) x.name) (get_or-append wires (w ∷ []) no_wire i below)
    ∙ place_push wires w (wire_at wires i).name
    ∙ ap (λ place. place_after place (bytes_eq w.name (wire_at wires i).name) (length wires)) h

last_apart : (wires : List Wire) (w : Wire) → place_of wires w.name ≡ None → place_of (wires ++ w ∷ []) (wire_at (wires ++ w ∷ []) (length wires)).name ≡ Some (length wires)
last_apart wires w none =
    ap (λ (x : Wire). place_of (wires ++ w ∷ []) x.name) (get_or-append_seam wires w [] no_wire)
    ∙ place_push wires w w.name
    ∙ ap (λ place. place_after place (bytes_eq w.name w.name) (length wires)) none
    ∙ ap (λ b. place_after None b (length wires)) (same_bytes w.name)

apart_push : (wires : List Wire) (w : Wire) → AreApart wires → place_of wires w.name ≡ None → AreApart (wires ++ w ∷ [])
apart_push wires w h none i below = elim (split_at i (length wires) (let e = length-append wires (w ∷ []) in omega arith)) [
  | inl l ↦ earlier_apart wires w i l (h i l)
  | inr e ↦ subst (λ k. place_of (wires ++ w ∷ []) (wire_at (wires ++ w ∷ []) k).name ≡ Some k) (sym e) (last_apart wires w none)
]

pub apart_with : (wires : List Wire) (w : Wire) → AreApart wires → AreApart (wires_with wires w)
apart_with wires w h = by_place (place_of wires w.name) refl where
  by_place : (place : Option ℕ) → place_of wires w.name ≡ place → AreApart (if is_some place then wires else wires ++ w ∷ [])
  by_place None e = apart_push wires w h e
  by_place (Some k) e = h
