-- Any numbers that rise from each cell to those that it drives give ranks: how many cells have a lower number.
use Rattle.std.specs.Prelude.{ℕ, zero, suc, ◌<◌, ◌≤◌, ◌≡◌, ◌⊎◌, nat_lt, Bool, true, false, length, refl}
use Rattle.std.proofs.Common.{arith, inl, inr}
use Rattle.std.proofs.lemmas.Bool.{ltb-true, lt-ltb, le-ltb}
use Rattle.cif_defs.specs.Loop.{Drives}
use Rattle.cif_defs.specs.Netlist.{Netlist}
use Rattle.cif_defs.proofs.Orders.{in_range}
use Rattle.cif_raw_runs.specs.Ranks.{AreRanks}

abbrev one_if : Bool → ℕ → ℕ
one_if true n = suc n
one_if false n = n

-- how many of the first n cells have a number below v
abbrev pub count_below : (ℕ → ℕ) → ℕ → ℕ → ℕ
count_below r zero v = 0
count_below r (suc n) v = one_if (nat_lt (r n) v) (count_below r n v)

one_if_le : (b c : Bool) (m n : ℕ) → (b ≡ true → c ≡ true) → m ≤ n → one_if b m ≤ one_if c n
one_if_le true true m n h l = omega arith
one_if_le true false m n h l = absurd (let e : false ≡ true = h refl in cc)
one_if_le false true m n h l = omega arith
one_if_le false false m n h l = l

one_if_less : (b c : Bool) (m n : ℕ) → (b ≡ true → c ≡ true) → m < n → one_if b m < one_if c n
one_if_less true true m n h l = omega arith
one_if_less true false m n h l = absurd (let e : false ≡ true = h refl in cc)
one_if_less false true m n h l = omega arith
one_if_less false false m n h l = l

one_if_here : (b c : Bool) (m n : ℕ) → b ≡ false → c ≡ true → m ≤ n → one_if b m < one_if c n
one_if_here true c m n h k l = absurd (cc)
one_if_here false true m n h k l = omega arith
one_if_here false false m n h k l = absurd (cc)

lower_too : (x v w : ℕ) → v ≤ w → nat_lt x v ≡ true → nat_lt x w ≡ true
lower_too x v w l h = lt-ltb x w (let k : x < v = ltb-true x v h in omega arith)

counts_rise : (r : ℕ → ℕ) (n v w : ℕ) → v ≤ w → count_below r n v ≤ count_below r n w
counts_rise r zero v w l = omega arith
counts_rise r (suc n) v w l = one_if_le (nat_lt (r n) v) (nat_lt (r n) w) (count_below r n v) (count_below r n w) (lower_too (r n) v w l) (counts_rise r n v w l)

last_or_before : (i n : ℕ) → i < suc n → (i < n) ⊎ (n ≡ i)
last_or_before i n l = search arith

-- one cell more has a number below w than below v
one_more : (r : ℕ → ℕ) (n i v w : ℕ) → i < n → v ≤ r i → r i < w → count_below r n v < count_below r n w
one_more r zero i v w l a b = absurd (omega arith)
one_more r (suc n) i v w l a b = elim (last_or_before i n l) [
  | inl k ↦ one_if_less (nat_lt (r n) v) (nat_lt (r n) w) (count_below r n v) (count_below r n w) (lower_too (r n) v w (omega arith)) (one_more r n i v w k a b)
  | inr e ↦ (let same : r n ≡ r i = rw e refl in
      one_if_here (nat_lt (r n) v) (nat_lt (r n) w) (count_below r n v) (count_below r n w) (le-ltb (r n) v (omega arith)) (lt-ltb (r n) w (omega arith)) (counts_rise r n v w (omega arith)))
]

at_most_all : (r : ℕ → ℕ) (n v : ℕ) → count_below r n v ≤ n
at_most_all r zero v = omega arith
at_most_all r (suc n) v = one_if_le (nat_lt (r n) v) true (count_below r n v) n (λ _. refl) (at_most_all r n v)

not_all : (r : ℕ → ℕ) (n i v : ℕ) → i < n → v ≤ r i → count_below r n v < n
not_all r n i v l a = (let more : count_below r n v < count_below r n (suc (r i)) = one_more r n i v (suc (r i)) l a (omega arith) in let most : count_below r n (suc (r i)) ≤ n = at_most_all r n (suc (r i)) in omega arith)

pub ranks_if_rising : (n : Netlist) (r : ℕ → ℕ) → ((c d : ℕ) → Drives n c d → r c < r d) → AreRanks n (λ c. count_below r (length n.cells) (r c))
ranks_if_rising n r h = record {
  rise = λ c d v. one_more r (length n.cells) c (r c) (r d) (in_range n c v.passing) (omega arith) (h c d v);
  low = λ c p. not_all r (length n.cells) c (r c) (in_range n c p) (omega arith);
}
