-- The bits that stages give which move left for select bits at 0.
use Rattle.std.specs.Prelude.{ℕ, zero, suc, ◌+◌, ◌-◌, ◌*◌, ◌^◌, ◌<◌, ◌≤◌, ◌≡◌, nat_le, Bool, true, false, not, ◌&&◌, List, length, refl, if◌then◌else◌}
use Rattle.std.proofs.Common.{arith, sym, ap, ◌∙◌}
use Rattle.std.proofs.Math.Nat.{pow-succ'}
use Rattle.cif_defs.specs.Words.{Word, bit, operand}
use Rattle.rule_select.specs.Moves.{order_by}
use Rattle.rule_select.specs.declared.moves.Moves.TheVariants.{Rising}
use Rattle.rule_select.proofs.MoveBits.{gain, left_step, low_below, low_number}
use Rattle.rule_select.proofs.MoveReads.{left_place}
use Rattle.rule_select.proofs.MoveTrees.{move_tree, place_by}
use Rattle.rule_select.proofs.PlacedParts.{moved_bit}
use Rattle.rule_select.proofs.ShiftBits.{left_none, moved_by}
use Rattle.rule_select.proofs.TreeLaws.{tree_bit}

-- one place to the left
abbrev pub raised_leaf : ℕ → (ℕ → List Word → Bool) → ℕ → List Word → Bool
raised_leaf n leaf = moved_bit n (left_place n (2 ^ 0)) leaf

flipped : (s : Bool) (x y : Bool) → (if s then x else y) ≡ (if not s then y else x)
flipped true x y = refl
flipped false x y = refl

rest_after : (s : Bool) (p x : ℕ) → x ≤ p → p - x + gain (not s) p ≡ 2 * p - (x + gain s p)
rest_after true p x h = omega arith
rest_after false p x h = omega arith

pub rising_bits : (n m : ℕ) (leaf : ℕ → List Word → Bool) (us : List Word) → m ≤ length (operand us 1) → (j : ℕ) → j ≤ m → (i : ℕ) → i < n
    → tree_bit (move_tree (Rising n) 1 m (λ j. n) (raised_leaf n leaf)) j i us ≡ (nat_le (2 ^ j - moved_by us j) i && leaf (i - (2 ^ j - moved_by us j)) us)
unfolding place_by order_by
rising_bits n m leaf us e zero h i l = left_step n 0 1 i true (λ k. leaf k us) (λ k. leaf k us) (λ k q. left_none k (λ x. leaf x us)) l
rising_bits n m leaf us e (suc j) h i l =
    let rest : 2 ^ j - moved_by us j + gain (not (bit (operand us 1) j)) (2 ^ j) ≡ 2 ^ suc j - moved_by us (suc j) =
    rest_after (bit (operand us 1) j) (2 ^ j) (moved_by us j) (low_below (operand us 1) j (omega arith))
    ∙ ap (λ x. x - (moved_by us j + gain (bit (operand us 1) j) (2 ^ j))) (sym (pow-succ' 2 j)) ∙ ap (λ x. 2 ^ suc j - x) (sym (low_number (operand us 1) j (omega arith))) in
    flipped (bit (operand us 1) j) _ _
    ∙ left_step n (2 ^ j - moved_by us j) (2 ^ j) i (not (bit (operand us 1) j)) (λ k. tree_bit (move_tree (Rising n) 1 m (λ j. n) (raised_leaf n leaf)) j k us) (λ k. leaf k us) (λ k q. rising_bits n m leaf us e j (omega arith) k q) l
    ∙ ap (λ x. nat_le x i && leaf (i - x) us) rest
