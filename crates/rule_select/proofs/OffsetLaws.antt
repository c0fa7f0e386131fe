-- The formula of an offset with a sign: two trees, and a choice between them.
use Rattle.std.specs.Prelude.{ℕ, ◌+◌, ◌*◌, ◌^◌, ◌<◌, ◌≤◌, ◌≡◌, max, Bool, List, [], ◌∷◌, ◌++◌, length, map, refl}
use Rattle.std.proofs.Common.{arith}
use Rattle.cif_defs.specs.Words.{Word, operand, word}
use Rattle.cif_term.specs.Formulas.{Bound, Taint, Value, IsFormed, pieces, value_of}
use Rattle.cif_term.specs.Extended.{extended}
use Rattle.cif_term.proofs.FormedFormulas.{formed_bound, formed_extended, formed_let, formed_taint, formed_value, pieces_narrow, raised}
use Rattle.cif_term.proofs.Values.{value-extended}
use Rattle.rule_select.specs.declared.moves.Moves.TheVariants.{Right, Rising}
use Rattle.rule_select.specs.Moves.{moved_left, order_by}
use Rattle.rule_select.specs.Offsets.{far_pair, near_pair, pair_of, pair_taint, pair_value, two_way_formula}
use Rattle.rule_select.proofs.ChoiceTaints.{Ignores}
use Rattle.rule_select.proofs.ChoiceTerms.{formed_taint_choice}
use Rattle.rule_select.proofs.Leaves.{extended_leaf, leaf_ignores, value-leaf_taint}
use Rattle.rule_select.proofs.MoveReads.{left_place, left_reads}
use Rattle.rule_select.proofs.MoveTrees.{move_tree, moving_formed, moving_tree, right_moving, rising_moving}
use Rattle.rule_select.proofs.SelectOperands.{operand_by}
use Rattle.rule_select.proofs.SideBySide.{formed_pair, value-high, value-low, value-pair}
use Rattle.rule_select.proofs.PlacedParts.{moved_ignores, reads_taint, reads_value}
use Rattle.rule_select.proofs.RisingBits.{raised_leaf}
use Rattle.rule_select.proofs.ShiftTaints.{even_cost}
use Rattle.rule_select.proofs.TreeLaws.{IsTree, Tree, chosen_bit, differs, stages_cost, formed_bit, formed_bit_taint, formed_tree, taint-chosen, tree_bit, tree_ignores, value-tree}
use Rattle.rule_select.proofs.WindowLaws.{formed_places}

abbrev pub near_tree : ℕ → Bool → ℕ → Tree
near_tree w signed m = move_tree (Right w) 1 m (λ j. w) (extended_leaf 0 signed)

abbrev pub far_tree : ℕ → Bool → ℕ → Tree
far_tree n signed m = move_tree (Rising n) 1 m (λ j. n) (raised_leaf n (extended_leaf 0 signed))

-- the bits of an offset whose sign is bit m of B
abbrev pub two_way_bit : ℕ → ℕ → Bool → ℕ → ℕ → List Word → Bool
two_way_bit w n signed m = chosen_bit 1 m (tree_bit (near_tree w signed m) m) (tree_bit (far_tree n signed m) m)

raised_ignores : (n : ℕ) (signed : Bool) (k i : ℕ) → Ignores (raised_leaf n (extended_leaf 0 signed) i) 1 k
raised_ignores n signed k i = moved_ignores n 1 k (left_place n (2 ^ 0)) (extended_leaf 0 signed) (λ x. leaf_ignores 0 signed 1 k x (λ o. absurd (omega arith))) i

near_is : (w : ℕ) (signed : Bool) (m : ℕ) (vs ts : List Word) → 1 ≤ w → w ≤ 65536 → 1 < length vs → m ≤ length (operand vs 1) → IsTree (near_tree w signed m) m vs ts
near_is w signed m vs ts a b there few = moving_tree (Right w) 1 m (λ j. w) (extended_leaf 0 signed) vs ts (right_moving w m a b) there few (λ k i. leaf_ignores 0 signed 1 k i (λ o. absurd (omega arith)))

far_is : (n : ℕ) (signed : Bool) (m : ℕ) (vs ts : List Word) → 1 ≤ n → n ≤ 65536 → 1 < length vs → m ≤ length (operand vs 1) → IsTree (far_tree n signed m) m vs ts
far_is n signed m vs ts a b there few = moving_tree (Rising n) 1 m (λ j. n) (raised_leaf n (extended_leaf 0 signed)) vs ts (rising_moving n m a b) there few (raised_ignores n signed)

-- no stage reads the sign
near_ignores : (w : ℕ) (signed : Bool) (m : ℕ) (vs ts : List Word) → IsTree (near_tree w signed m) m vs ts → (i : ℕ) → Ignores (tree_bit (near_tree w signed m) m i) 1 m
unfolding order_by
near_ignores w signed m vs ts g i = tree_ignores (near_tree w signed m) m vs ts g m m (omega arith) (λ j h e. absurd (omega arith)) i

far_ignores : (n : ℕ) (signed : Bool) (m : ℕ) (vs ts : List Word) → IsTree (far_tree n signed m) m vs ts → (i : ℕ) → Ignores (tree_bit (far_tree n signed m) m i) 1 m
unfolding order_by
far_ignores n signed m vs ts g i = tree_ignores (far_tree n signed m) m vs ts g m m (omega arith) (λ j h e. absurd (omega arith)) i

near_value : (n a : ℕ) (signed : Bool) (m : ℕ) (vs ts named : List Word) → IsTree (near_tree (max a n) signed m) m vs ts → 0 < length vs → length (operand vs 0) ≡ a → length (operand ts 0) ≡ a → 1 ≤ a
    → value_of (near_pair n a signed m) vs ts named ≡ word n (λ i. tree_bit (near_tree (max a n) signed m) m i vs) ++ word n (differs (tree_bit (near_tree (max a n) signed m) m) vs ts)
near_value n a signed m vs ts named g there e d some =
    value-tree (near_tree (max a n) signed m) m vs ts named (extended (max a n) signed a (Value 0)) (extended (max a n) signed a (Taint 0)) (pair_of n) _ g
    (value-extended (max a n) a signed (Value 0) vs ts named e some) (λ u. value-leaf_taint 0 (max a n) a signed vs ts (u ∷ named) there e d some)
    (λ inner h. value-pair (near_tree (max a n) signed m) m n vs ts inner (omega arith) h)

far_value : (n a : ℕ) (signed : Bool) (m : ℕ) (vs ts named : List Word) → IsTree (far_tree n signed m) m vs ts → 1 ≤ n → n ≤ 65536 → 0 < length vs → length (operand vs 0) ≡ a → length (operand ts 0) ≡ a → 1 ≤ a
    → value_of (far_pair n a signed m) vs ts named ≡ word n (λ i. tree_bit (far_tree n signed m) m i vs) ++ word n (differs (tree_bit (far_tree n signed m) m) vs ts)
far_value n a signed m vs ts named g n_some n_few there e d some =
    value-tree (far_tree n signed m) m vs ts named (moved_left n 0 (extended n signed a (Value 0))) (moved_left n 0 (extended n signed a (Taint 0))) (pair_of n) _ g
    (reads_value (moved_left n 0) n n (left_place n (2 ^ 0)) (λ i. extended_leaf 0 signed i vs) (extended n signed a (Value 0)) vs ts named (left_reads n 0 n_some n_few) (value-extended n a signed (Value 0) vs ts named e some))
    (λ u. reads_taint (moved_left n 0) n n (left_place n (2 ^ 0)) (extended_leaf 0 signed) (extended n signed a (Taint 0)) vs ts (u ∷ named) (left_reads n 0 n_some n_few) (value-leaf_taint 0 n a signed vs ts (u ∷ named) there e d some))
    (λ inner h. value-pair (far_tree n signed m) m n vs ts inner (omega arith) h)

pub two_way_value : (n a : ℕ) (signed : Bool) (m b : ℕ) (vs ts : List Word) → 1 ≤ n → n ≤ 65536 → 1 ≤ a → a ≤ 65536 → m < b → map length vs ≡ a ∷ b ∷ [] → map length ts ≡ a ∷ b ∷ []
    → value_of (two_way_formula n a signed m) vs ts [] ≡ word n (differs (two_way_bit (max a n) n signed m) vs ts)
two_way_value n a signed m b vs ts n_some n_few a_some a_few h e q =
    let first = operand_by vs (a ∷ b ∷ []) 0 a e refl in
    let second = operand_by vs (a ∷ b ∷ []) 1 b e refl in
    let tainted = operand_by ts (a ∷ b ∷ []) 0 a q refl in
    let long : length (operand vs 1) ≡ b = second.1 in
    let near : IsTree (near_tree (max a n) signed m) m vs ts = near_is (max a n) signed m vs ts (omega arith) (omega arith) second.0 (omega arith) in
    let far : IsTree (far_tree n signed m) m vs ts = far_is n signed m vs ts n_some n_few second.0 (omega arith) in
    let one : Word = value_of (near_pair n a signed m) vs ts [] in
    let two : Word = value_of (far_pair n a signed m) vs ts (one ∷ []) in
    let one_is : one ≡ word n (λ i. tree_bit (near_tree (max a n) signed m) m i vs) ++ word n (differs (tree_bit (near_tree (max a n) signed m) m) vs ts) = near_value n a signed m vs ts [] near first.0 first.1 tainted.1 a_some in
    let two_is : two ≡ word n (λ i. tree_bit (far_tree n signed m) m i vs) ++ word n (differs (tree_bit (far_tree n signed m) m) vs ts) = far_value n a signed m vs ts (one ∷ []) far n_some n_few first.0 first.1 tainted.1 a_some in
    taint-chosen n 1 m (tree_bit (near_tree (max a n) signed m) m) (tree_bit (far_tree n signed m) m) (pair_value n (Bound 1)) (pair_taint n (Bound 1)) (pair_value n (Bound 0)) (pair_taint n (Bound 0)) vs ts (two ∷ one ∷ [])
    second.0 (omega arith) (near_ignores (max a n) signed m vs ts near) (far_ignores n signed m vs ts far)
    (value-low n _ _ (Bound 1) vs ts (two ∷ one ∷ []) one_is) (value-high n _ _ (Bound 1) vs ts (two ∷ one ∷ []) one_is)
    (value-low n _ _ (Bound 0) vs ts (two ∷ one ∷ []) two_is) (value-high n _ _ (Bound 0) vs ts (two ∷ one ∷ []) two_is)

-- ---- how it is formed

near_formed : (n a : ℕ) (signed : Bool) (m b p : ℕ) (named : List ℕ) → 1 ≤ n → n ≤ 4096 → 1 ≤ a → a ≤ 65536 → m < b → b ≤ 65536 → pieces (max a n) ≤ p → IsFormed (near_pair n a signed m) (a ∷ b ∷ []) named (n + n) (6 * p * m)
near_formed n a signed m b p named n_some n_few a_some a_few h b_few narrow =
    raised (6 * p * m) (formed_tree (near_tree (max a n) signed m) m (a ∷ b ∷ []) named _ _ (pair_of n) (n + n) 0
    (moving_formed (Right (max a n)) 1 m b (λ j. max a n) (extended_leaf 0 signed) (a ∷ b ∷ []) (right_moving (max a n) m (omega arith) (omega arith)) refl (omega arith) b_few)
    (formed_extended (max a n) a signed (formed_value _ named 0 a refl a_some a_few) a_some (omega arith) (omega arith))
    (λ u. formed_extended (max a n) a signed (formed_taint _ (u ∷ named) 0 a refl a_some a_few) a_some (omega arith) (omega arith))
    (λ inner e d. formed_pair (max a n) n _ inner e d n_some (omega arith) (omega arith) (omega arith)))
    (let cost : stages_cost (λ i. max a n) m 0 ≤ 6 * p * m = even_cost (max a n) p m 0 narrow in omega arith)

far_formed : (n a : ℕ) (signed : Bool) (m b : ℕ) (named : List ℕ) → 1 ≤ n → n ≤ 4096 → 1 ≤ a → a ≤ 65536 → m < b → b ≤ 65536 → IsFormed (far_pair n a signed m) (a ∷ b ∷ []) named (n + n) (6 * 1 * m)
far_formed n a signed m b named n_some n_few a_some a_few h b_few =
    let once = left_reads n 0 n_some (omega arith) in
    raised (6 * 1 * m) (formed_tree (far_tree n signed m) m (a ∷ b ∷ []) named _ _ (pair_of n) (n + n) 0
    (moving_formed (Rising n) 1 m b (λ j. n) (raised_leaf n (extended_leaf 0 signed)) (a ∷ b ∷ []) (rising_moving n m n_some (omega arith)) refl (omega arith) b_few)
    (once.formed (extended n signed a (Value 0)) _ named (formed_extended n a signed (formed_value _ named 0 a refl a_some a_few) a_some n_some (omega arith)))
    (λ u. once.formed (extended n signed a (Taint 0)) _ (u ∷ named) (formed_extended n a signed (formed_taint _ (u ∷ named) 0 a refl a_some a_few) a_some n_some (omega arith)))
    (λ inner e d. formed_pair n n _ inner e d n_some (omega arith) (omega arith) (omega arith)))
    (let cost : stages_cost (λ i. n) m 0 ≤ 6 * 1 * m = even_cost n 1 m 0 (pieces_narrow n n_few) in omega arith)

pub two_way_formed : (n a : ℕ) (signed : Bool) (m b p : ℕ) → 1 ≤ n → n ≤ 4096 → 1 ≤ a → a ≤ 65536 → m < b → b ≤ 65536 → pieces (max a n) ≤ p → IsFormed (two_way_formula n a signed m) (a ∷ b ∷ []) [] n (6 * p * m + 6 * m + 5)
two_way_formed n a signed m b p n_some n_few a_some a_few h b_few narrow =
    let ws : List ℕ = a ∷ b ∷ [] in
    let named : List ℕ = (n + n) ∷ (n + n) ∷ [] in
    let near : IsFormed (Bound 1) ws named (n + n) 0 = formed_bound ws named 1 (n + n) refl (omega arith) (omega arith) in
    let far : IsFormed (Bound 0) ws named (n + n) 0 = formed_bound ws named 0 (n + n) refl (omega arith) (omega arith) in
    let last = formed_taint_choice (formed_bit 1 m b ws named refl h b_few) (formed_bit_taint 1 m b ws named refl h b_few)
    (formed_places 0 n near (omega arith) n_some (omega arith)) (formed_places n n near (omega arith) n_some (omega arith))
    (formed_places 0 n far (omega arith) n_some (omega arith)) (formed_places n n far (omega arith) n_some (omega arith)) n_some in
    let one : pieces n ≤ 1 = pieces_narrow n n_few in
    raised (6 * p * m + 6 * m + 5) (formed_let (near_formed n a signed m b p [] n_some n_few a_some a_few h b_few narrow) (formed_let (far_formed n a signed m b ((n + n) ∷ []) n_some n_few a_some a_few h b_few) last)) (omega arith)
