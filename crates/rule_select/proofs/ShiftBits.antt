-- The bits that the stages of shifts give.
use Rattle.std.specs.Prelude.{ℕ, zero, suc, ◌+◌, ◌-◌, ◌^◌, ◌<◌, ◌≤◌, ◌≡◌, nat_le, nat_lt, min, Bool, true, ◌&&◌, List, length, take}
use Rattle.std.proofs.Common.{arith, sym, ap, ◌∙◌}
use Rattle.std.proofs.lemmas.Bool.Decides.{nat_tests}
use Rattle.cif_defs.specs.Words.{Word, bit, number, operand}
use Rattle.rule_select.specs.Moves.{order_by}
use Rattle.rule_select.specs.declared.moves.Moves.TheVariants.{Left, Right, Signed}
use Rattle.rule_select.proofs.MoveBits.{left_step, low_number, right_step, signed_step}
use Rattle.rule_select.proofs.MoveTrees.{move_tree, place_by}
use Rattle.rule_select.proofs.TreeLaws.{tree_bit}

-- how far the lowest j bits of B move
abbrev pub moved_by : List Word → ℕ → ℕ
moved_by us j = number (take j (operand us 1))

pub left_none : (i : ℕ) (f : ℕ → Bool) → f i ≡ (nat_le 0 i && f (i - 0))
left_none i f = let t : nat_le 0 i ≡ true = grind (arith, nat_tests) in let e : i ≡ i - 0 = omega arith in ap f e ∙ sym (ap (λ b. b && f (i - 0)) t)

pub left_bits : (n m : ℕ) (leaf : ℕ → List Word → Bool) (us : List Word) → m ≤ length (operand us 1) → (j : ℕ) → j ≤ m → (i : ℕ) → i < n
    → tree_bit (move_tree (Left n) 1 m (λ j. n) leaf) j i us ≡ (nat_le (moved_by us j) i && leaf (i - moved_by us j) us)
unfolding place_by order_by
left_bits n m leaf us e zero h i l = left_none i (λ k. leaf k us)
left_bits n m leaf us e (suc j) h i l =
    left_step n (moved_by us j) (2 ^ j) i (bit (operand us 1) j) (λ k. tree_bit (move_tree (Left n) 1 m (λ j. n) leaf) j k us) (λ k. leaf k us) (λ k q. left_bits n m leaf us e j (omega arith) k q) l
    ∙ sym (ap (λ x. nat_le x i && leaf (i - x) us) (low_number (operand us 1) j (omega arith)))

right_none : (n i : ℕ) (f : ℕ → Bool) → i < n → f i ≡ (nat_lt (i + 0) n && f (i + 0))
right_none n i f h = let t : nat_lt (i + 0) n ≡ true = grind (arith, nat_tests) in let e : i ≡ i + 0 = omega arith in ap f e ∙ sym (ap (λ b. b && f (i + 0)) t)

pub right_bits : (n m : ℕ) (leaf : ℕ → List Word → Bool) (us : List Word) → m ≤ length (operand us 1) → (j : ℕ) → j ≤ m → (i : ℕ) → i < n
    → tree_bit (move_tree (Right n) 1 m (λ j. n) leaf) j i us ≡ (nat_lt (i + moved_by us j) n && leaf (i + moved_by us j) us)
unfolding place_by order_by
right_bits n m leaf us e zero h i l = right_none n i (λ k. leaf k us) l
right_bits n m leaf us e (suc j) h i l =
    right_step n (moved_by us j) (2 ^ j) i (bit (operand us 1) j) (λ k. tree_bit (move_tree (Right n) 1 m (λ j. n) leaf) j k us) (λ k. leaf k us) (λ k q. right_bits n m leaf us e j (omega arith) k q) l
    ∙ sym (ap (λ x. nat_lt (i + x) n && leaf (i + x) us) (low_number (operand us 1) j (omega arith)))

signed_none : (n i : ℕ) (f : ℕ → Bool) → i < n → f i ≡ f (min (i + 0) (n - 1))
signed_none n i f h = let e : i ≡ min (i + 0) (n - 1) = omega arith in ap f e

pub signed_bits : (n m : ℕ) (leaf : ℕ → List Word → Bool) (us : List Word) → m ≤ length (operand us 1) → (j : ℕ) → j ≤ m → (i : ℕ) → i < n
    → tree_bit (move_tree (Signed n) 1 m (λ j. n) leaf) j i us ≡ leaf (min (i + moved_by us j) (n - 1)) us
unfolding place_by order_by
signed_bits n m leaf us e zero h i l = signed_none n i (λ k. leaf k us) l
signed_bits n m leaf us e (suc j) h i l =
    signed_step n (moved_by us j) (2 ^ j) i (bit (operand us 1) j) (λ k. tree_bit (move_tree (Signed n) 1 m (λ j. n) leaf) j k us) (λ k. leaf k us) (λ k q. signed_bits n m leaf us e j (omega arith) k q) l
    ∙ sym (ap (λ x. leaf (min (i + x) (n - 1)) us) (low_number (operand us 1) j (omega arith)))
