-- How formulas are formed, bottom up: their widths, and what they cost at most.
use Rattle.std.specs.Prelude.{ℕ, ◌+◌, ◌-◌, ◌<◌, ◌≤◌, ◌≡◌, nat_le, nat_lt, max, min, Bool, true, false, not, ◌&&◌, ◌||◌, List, [], ◌∷◌, length, slice_get, Some, None, option_and_then, unwrap_or, refl, if◌then◌else◌}
use Rattle.std.specs.List.{range_with_len, list_all}
use Rattle.std.proofs.Common.{arith, ap, ◌∙◌}
use Rattle.std.proofs.lemmas.Bool.Decides.{nat_tests}
use Rattle.std.proofs.lemmas.List.{length-map}
use Rattle.std.proofs.lemmas.List.FromFn.{length-range_with_len}
use Rattle.std.proofs.lemmas.List.Folds.{list_all-map}
use Rattle.cif_defs.specs.Words.{Word, zeros}
use Rattle.cif_defs.proofs.WordLaws.{length-word}
use Rattle.cif_term.specs.declared.ops.Op1.{Op1}
use Rattle.cif_term.specs.declared.ops.Op2.{Op2}
use Rattle.cif_term.specs.Formulas.{Formula, Value, Taint, Const, Bound, Pick, Join, One, Two, Choose, Let, IsFormed, width_of, cost_of, sized, sized_option, pick_width, join_width, one_width, one_width_option, two_width, two_width_option, same_width, choose_width, is_on_numbers, plain_width, pieces, one_cost, two_cost}
use Rattle.cif_term.specs.Extended.{extended, shown_places}

pub sized_is : (n : ℕ) → 1 ≤ n → n ≤ 65536 → sized n ≡ Some n
sized_is n a b = grind (arith, nat_tests)

-- a word of at most 4,096 bits is one piece
pub pieces_narrow : (n : ℕ) → n ≤ 4096 → pieces n ≤ 1
pieces_narrow n h = omega arith

pub raised : {f : Formula} {ws named : List ℕ} {n k : ℕ} (j : ℕ) → IsFormed f ws named n k → k ≤ j → IsFormed f ws named n j
raised j h l = record { width = h.width; cost = (let c = h.cost in omega arith) }

-- ---- leaves

pub formed_value : (ws named : List ℕ) (p n : ℕ) → slice_get ws p ≡ Some n → 1 ≤ n → n ≤ 65536 → IsFormed (Value p) ws named n 0
formed_value ws named p n e a b = record { width = ap sized_option e ∙ sized_is n a b; cost = omega arith }

pub formed_taint : (ws named : List ℕ) (p n : ℕ) → slice_get ws p ≡ Some n → 1 ≤ n → n ≤ 65536 → IsFormed (Taint p) ws named n 0
formed_taint ws named p n e a b = record { width = ap sized_option e ∙ sized_is n a b; cost = omega arith }

pub formed_bound : (ws named : List ℕ) (i n : ℕ) → slice_get named i ≡ Some n → 1 ≤ n → n ≤ 65536 → IsFormed (Bound i) ws named n 0
formed_bound ws named i n e a b = record { width = ap sized_option e ∙ sized_is n a b; cost = omega arith }

pub formed_const : (w : Word) (ws named : List ℕ) (n : ℕ) → length w ≡ n → 1 ≤ n → n ≤ 65536 → IsFormed (Const w) ws named n 0
formed_const w ws named n e a b = record { width = ap sized e ∙ sized_is n a b; cost = omega arith }

-- ---- pieces of words

pub formed_pick : {f : Formula} {ws named : List ℕ} {m k : ℕ} (places : List ℕ) (n : ℕ) → IsFormed f ws named m k → list_all (λ i. nat_lt i m) places ≡ true → length places ≡ n → 1 ≤ n → n ≤ 65536 → IsFormed (Pick f places) ws named n k
formed_pick {m = m} places n h all e a b = record {
  width = ap (pick_width places) h.width ∙ ap (λ x. if x then sized (length places) else None) all ∙ ap sized e ∙ sized_is n a b;
  cost = h.cost;
}

pub formed_join : {f g : Formula} {ws named : List ℕ} {m n j k : ℕ} → IsFormed f ws named m j → IsFormed g ws named n k → 1 ≤ m + n → m + n ≤ 65536 → IsFormed (Join f g) ws named (m + n) (j + k)
formed_join {f = f} {g = g} {ws = ws} {named = named} {m = m} {n = n} x y a b = record {
  width = ap (λ u. join_width u (width_of g ws named)) x.width ∙ ap (join_width (Some m)) y.width ∙ sized_is (m + n) a b;
  cost = (let c = x.cost in let d = y.cost in omega arith);
}

-- ---- operations

plain_is : {f : Formula} {ws named : List ℕ} {n k : ℕ} → IsFormed f ws named n k → plain_width f ws named ≡ n
plain_is h = ap (λ u. unwrap_or u 0) h.width

pub formed_one : {f : Formula} {ws named : List ℕ} {n k : ℕ} (op : Op1) → IsFormed f ws named n k → IsFormed (One op f) ws named (one_width op n) (k + one_cost op n)
formed_one {f = f} {ws = ws} {named = named} {n = n} op h = record {
  width = ap (one_width_option op) h.width;
  cost = (let c = h.cost in let p : one_cost op (plain_width f ws named) ≡ one_cost op n = ap (one_cost op) (plain_is h) in omega arith);
}

max_same : (n : ℕ) → max n n ≡ n
max_same n = omega arith

same_is : (n : ℕ) → same_width (Some n) (Some n) ≡ Some n
same_is n = grind (arith, nat_tests)

two_fits : (op : Op2) (n : ℕ) (b : Bool) → is_on_numbers op ≡ b → (b ≡ true → n ≤ 128) → two_width_option op (Some n) ≡ Some (two_width op n)
two_fits op n true e h =
    let small : n ≤ 128 = h refl in
    let test : nat_le n 128 ≡ true = grind (arith, nat_tests) in
    ap (λ x. if x && not (nat_le n 128) then None else Some (two_width op n)) e ∙ ap (λ x. if true && not x then None else Some (two_width op n)) test
two_fits op n false e h = ap (λ x. if x && not (nat_le n 128) then None else Some (two_width op n)) e

pub formed_two : {f g : Formula} {ws named : List ℕ} {n j k : ℕ} (op : Op2) → IsFormed f ws named n j → IsFormed g ws named n k → (is_on_numbers op ≡ true → n ≤ 128) → IsFormed (Two op f g) ws named (two_width op n) (j + k + two_cost op n)
formed_two {f = f} {g = g} {ws = ws} {named = named} {n = n} op x y small = record {
  width = ap (λ u. two_width_option op (same_width u (width_of g ws named))) x.width ∙ ap (λ u. two_width_option op (same_width (Some n) u)) y.width
      ∙ ap (two_width_option op) (same_is n) ∙ two_fits op n (is_on_numbers op) refl small;
  cost = (let c = x.cost in let d = y.cost in
      let p : two_cost op (max (plain_width f ws named) (plain_width g ws named)) ≡ two_cost op n =
      ap (λ u. two_cost op (max u (plain_width g ws named))) (plain_is x) ∙ ap (λ u. two_cost op (max n u)) (plain_is y) ∙ ap (two_cost op) (max_same n) in omega arith);
}

widest : (n : ℕ) → 1 ≤ n → max 1 (max n n) ≡ n
widest n h = omega arith

pub formed_choose : {s f g : Formula} {ws named : List ℕ} {n i j k : ℕ} → IsFormed s ws named 1 i → IsFormed f ws named n j → IsFormed g ws named n k → 1 ≤ n → IsFormed (Choose s f g) ws named n (i + j + k + pieces n)
formed_choose {s = s} {f = f} {g = g} {ws = ws} {named = named} {n = n} z x y some = record {
  width = ap (λ u. choose_width u (same_width (width_of f ws named) (width_of g ws named))) z.width
      ∙ ap (λ u. same_width u (width_of g ws named)) x.width ∙ ap (same_width (Some n)) y.width ∙ same_is n;
  cost = (let b = z.cost in let c = x.cost in let d = y.cost in
      let p : pieces (max (plain_width s ws named) (max (plain_width f ws named) (plain_width g ws named))) ≡ pieces n =
      ap (λ u. pieces (max u (max (plain_width f ws named) (plain_width g ws named)))) (plain_is z) ∙ ap (λ u. pieces (max 1 (max u (plain_width g ws named)))) (plain_is x)
      ∙ ap (λ u. pieces (max 1 (max n u))) (plain_is y) ∙ ap pieces (widest n some) in omega arith);
}

pub formed_let : {f g : Formula} {ws named : List ℕ} {m n j k : ℕ} → IsFormed f ws named m j → IsFormed g ws (m ∷ named) n k → IsFormed (Let f g) ws named n (j + k)
formed_let {f = f} {g = g} {ws = ws} {named = named} {m = m} x y = record {
  width = ap (λ u. option_and_then (λ q. width_of g ws (q ∷ named)) u) x.width ∙ y.width;
  cost = (let c = x.cost in let d = y.cost in let p : cost_of g ws (plain_width f ws named ∷ named) ≡ cost_of g ws (m ∷ named) = ap (λ u. cost_of g ws (u ∷ named)) (plain_is x) in omega arith);
}

-- ---- extensions

all_true : {X : Type 0} (p : X → Bool) → ((x : X) → p x ≡ true) → (xs : List X) → list_all p xs ≡ true
all_true p h [] = refl
all_true p h (x ∷ xs) = let a : p x ≡ true = h x in let b : list_all p xs ≡ true = all_true p h xs in grind arith

places_inside : (n m : ℕ) → 1 ≤ m → list_all (λ i. nat_lt i m) (shown_places n m) ≡ true
places_inside n m h = list_all-map (λ i. nat_lt i m) (λ i. min i (m - 1)) (range_with_len 0 n) ∙ all_true _ (λ i. let l : min i (m - 1) < m = omega arith in grind (arith, nat_tests)) (range_with_len 0 n)

length-places : (n m : ℕ) → length (shown_places n m) ≡ n
length-places n m = length-map (range_with_len 0 n) (λ i. min i (m - 1)) ∙ length-range_with_len 0 n

extended_by : {f : Formula} {ws named : List ℕ} {k : ℕ} (n m : ℕ) (signed b : Bool) → (signed || nat_le n m) ≡ b → IsFormed f ws named m k → 1 ≤ m → 1 ≤ n → n ≤ 65536
    → IsFormed (if b then Pick f (shown_places n m) else Join f (Const (zeros (n - m)))) ws named n k
extended_by n m signed true e h some a b = formed_pick (shown_places n m) n h (places_inside n m some) (length-places n m) a b
extended_by {f = f} {ws = ws} {named = named} {k = k} n m true false e h some a b = absurd (cc)
extended_by {f = f} {ws = ws} {named = named} {k = k} n m false false e h some a b =
    let more : m < n = grind (arith, nat_tests) in
    let sum : m + (n - m) ≡ n = omega arith in
    let fill : IsFormed (Const (zeros (n - m))) ws named (n - m) 0 = formed_const (zeros (n - m)) ws named (n - m) (length-word (n - m) (λ i. false)) (omega arith) (omega arith) in
    let both : IsFormed (Join f (Const (zeros (n - m)))) ws named (m + (n - m)) (k + 0) = formed_join h fill (omega arith) (omega arith) in
    record { width = both.width ∙ ap (λ x. Some x) sum; cost = (let c = both.cost in omega arith) }

pub formed_extended : {f : Formula} {ws named : List ℕ} {k : ℕ} (n m : ℕ) (signed : Bool) → IsFormed f ws named m k → 1 ≤ m → 1 ≤ n → n ≤ 65536 → IsFormed (extended n signed m f) ws named n k
formed_extended n m signed h some a b = extended_by n m signed (signed || nat_le n m) refl h some a b
