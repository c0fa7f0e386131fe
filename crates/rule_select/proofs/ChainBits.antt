-- The bits that a chain of choices gives.
use Rattle.std.specs.Prelude.{ℕ, zero, suc, ◌+◌, ◌-◌, ◌*◌, ◌<◌, ◌≤◌, ◌≡◌, nat_lt, Bool, true, false, not, List, [], ◌∷◌, length, drop, position, Option, Some, None, refl, if◌then◌else◌}
use Rattle.std.specs.List.{prefix_len}
use Rattle.std.proofs.Common.{arith, sym, ap, cond, ◌∙◌, inl, inr}
use Rattle.std.proofs.lemmas.Bool.Decides.{nat_tests}
use Rattle.std.proofs.Math.ListN.{drop_of_length-le}
use Rattle.cif_defs.specs.Words.{Word, bit, operand}
use Rattle.cif_defs.specs.Meanings.{pmux_bit}
use Rattle.cif_defs.proofs.WordLaws.{le_or_lt}
use Rattle.rule_select.specs.declared.moves.Moves.TheVariants.{Chain}
use Rattle.rule_select.specs.Moves.{order_by, parts_by}
use Rattle.rule_select.proofs.Leaves.{extended_leaf}
use Rattle.rule_select.proofs.TreeLaws.{Tree, tree_bit}

-- ---- the tree

-- where select bit k is 1, block k of operand 1
abbrev pub chain_step : ℕ → ℕ → Bool → (ℕ → List Word → Bool) → ℕ → List Word → Bool
chain_step n k true f i us = bit (operand us 1) (k * n + i)
chain_step n k false f i us = f i us

abbrev pub chain_tree : ℕ → ℕ → Tree
chain_tree n m = record {
  select = 2;
  order = order_by (Chain n) m;
  parts = parts_by (Chain n);
  steps = λ j one f. chain_step n (order_by (Chain n) m j) one f;
  wide = λ j. n;
  leaf = extended_leaf 0 false;
}

-- ---- the first select bit that is 1

-- bit i of the block of b for the first bit of s that is 1, where s begins at bit k; else of a
first_from : ℕ → Word → Word → ℕ → ℕ → Word → Bool
first_from n a b i k [] = bit a i
first_from n a b i k (true ∷ s) = bit b (k * n + i)
first_from n a b i k (false ∷ s) = first_from n a b i (suc k) s

drop_one : (w : Word) (k : ℕ) → k < length w → drop k w ≡ bit w k ∷ drop (suc k) w
drop_one [] k h = absurd (omega arith)
drop_one (b ∷ w) zero h = refl
drop_one (b ∷ w) (suc k) h = drop_one w k (omega arith)

one_more : (n : ℕ) (a b : Word) (i k : ℕ) (x : Bool) (s : Word) → (if x then bit b (k * n + i) else first_from n a b i (suc k) s) ≡ first_from n a b i k (x ∷ s)
unfolding first_from
one_more n a b i k true s = refl
one_more n a b i k false s = refl

none_left : (n : ℕ) (a b : Word) (i k : ℕ) (s : Word) → s ≡ [] → bit a i ≡ first_from n a b i k s
unfolding first_from
none_left n a b i k s e = sym (ap (λ (w : Word). first_from n a b i k w) e)

chain_bits : (n m : ℕ) (us : List Word) → length (operand us 2) ≡ m → (j : ℕ) → j ≤ m → (i : ℕ) → tree_bit (chain_tree n m) j i us ≡ first_from n (operand us 0) (operand us 1) i (m - j) (drop (m - j) (operand us 2))
unfolding order_by
chain_bits n m us e zero h i = none_left n (operand us 0) (operand us 1) i (m - 0) (drop (m - 0) (operand us 2)) (drop_of_length-le (operand us 2) (omega arith))
chain_bits n m us e (suc j) h i =
    let next : m - j ≡ suc (m - suc j) = omega arith in
    ap (λ x. if bit (operand us 2) (m - suc j) then bit (operand us 1) ((m - suc j) * n + i) else x)
    (chain_bits n m us e j (omega arith) i ∙ ap (λ k. first_from n (operand us 0) (operand us 1) i k (drop k (operand us 2))) next)
    ∙ one_more n (operand us 0) (operand us 1) i (m - suc j) (bit (operand us 2) (m - suc j)) (drop (suc (m - suc j)) (operand us 2))
    ∙ sym (ap (λ (w : Word). first_from n (operand us 0) (operand us 1) i (m - suc j) w) (drop_one (operand us 2) (m - suc j) (omega arith)))

-- ---- its position

abbrev at_first : ℕ → Word → Word → ℕ → ℕ → Option ℕ → Bool
at_first n a b i k None = bit a i
at_first n a b i k (Some p) = bit b ((k + p) * n + i)

shifted_first : (n : ℕ) (a b : Word) (i k p l : ℕ) → at_first n a b i (suc k) (cond (nat_lt p l) (Some p) None) ≡ at_first n a b i k (cond (nat_lt (1 + p) (suc l)) (Some (1 + p)) None)
shifted_first n a b i k p l = elim (le_or_lt p l) [
  | inl h ↦ (let first : nat_lt p l ≡ true = grind (arith, nat_tests) in let second : nat_lt (1 + p) (suc l) ≡ true = grind (arith, nat_tests) in
      let place : (suc k + p) * n + i ≡ (k + (1 + p)) * n + i = omega arith in
      ap (λ x. at_first n a b i (suc k) (cond x (Some p) None)) first ∙ ap (bit b) place ∙ sym (ap (λ x. at_first n a b i k (cond x (Some (1 + p)) None)) second))
  | inr h ↦ (let first : nat_lt p l ≡ false = grind (arith, nat_tests) in let second : nat_lt (1 + p) (suc l) ≡ false = grind (arith, nat_tests) in
      ap (λ x. at_first n a b i (suc k) (cond x (Some p) None)) first ∙ sym (ap (λ x. at_first n a b i k (cond x (Some (1 + p)) None)) second))
]

by_position : (n : ℕ) (a b : Word) (i k : ℕ) (s : Word) → first_from n a b i k s ≡ at_first n a b i k (position (λ x. x) s)
unfolding first_from
by_position n a b i k [] = refl
by_position n a b i k (true ∷ s) =
    let here : nat_lt 0 (suc (length s)) ≡ true = grind (arith, nat_tests) in
    let place : k * n + i ≡ (k + 0) * n + i = omega arith in
    ap (bit b) place ∙ sym (ap (λ x. at_first n a b i k (cond x (Some 0) None)) here)
by_position n a b i k (false ∷ s) = by_position n a b i (suc k) s ∙ shifted_first n a b i k (prefix_len (λ x. not x) s) (length s)

from_lowest : (n : ℕ) (a b : Word) (i : ℕ) (p : Option ℕ) → at_first n a b i 0 p ≡ pmux_bit n a b i p
from_lowest n a b i None = refl
from_lowest n a b i (Some p) = let place : (0 + p) * n + i ≡ p * n + i = omega arith in ap (bit b) place

pub chain_all : (n m : ℕ) (us : List Word) → length (operand us 2) ≡ m → (i : ℕ) → tree_bit (chain_tree n m) m i us ≡ pmux_bit n (operand us 0) (operand us 1) i (position (λ x. x) (operand us 2))
chain_all n m us e i =
    let none : m - m ≡ 0 = omega arith in
    chain_bits n m us e m (omega arith) i ∙ ap (λ k. first_from n (operand us 0) (operand us 1) i k (drop k (operand us 2))) none
    ∙ by_position n (operand us 0) (operand us 1) i 0 (operand us 2) ∙ from_lowest n (operand us 0) (operand us 1) i (position (λ x. x) (operand us 2))
