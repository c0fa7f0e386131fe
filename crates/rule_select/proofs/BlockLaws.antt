-- The formulas of $bmux, $lut and $demux compute exact taint.
use Rattle.std.specs.Prelude.{ℕ, zero, suc, ◌+◌, ◌-◌, ◌*◌, ◌/◌, ◌^◌, ◌<◌, ◌≤◌, ◌≡◌, nat_le, Bool, false, ◌&&◌, List, [], ◌∷◌, length, map, drop, Some, refl}
use Rattle.std.proofs.Common.{arith, sym, ap, ◌∙◌}
use Rattle.std.proofs.lemmas.List.{get_or_past, take_all}
use Rattle.cif_defs.specs.Words.{Word, bit, number, operand, word, zeros}
use Rattle.cif_defs.proofs.Numbers.{word-same}
use Rattle.cif_defs.proofs.WordLaws.{length-word}
use Rattle.cif_term.specs.Formulas.{Bound, Const, Taint, Value, IsFormed, value_of}
use Rattle.cif_term.proofs.FormedFormulas.{formed_bound, formed_const, formed_taint, formed_value, raised}
use Rattle.rule_select.specs.declared.moves.Moves.TheVariants.{Blocks, Halves}
use Rattle.rule_select.specs.Selections.{bmux_formula, demux_formula, lut_formula}
use Rattle.rule_select.proofs.BlockBits.{block_bits, half_bits}
use Rattle.rule_select.proofs.BlockTrees.{block_moving, half_is, half_moving, halved, scaled_most, scaled_some, twice}
use Rattle.rule_select.proofs.Leaves.{extended_leaf, leaf_ignores, value-plain, value-plain_taint}
use Rattle.rule_select.proofs.MoveTrees.{move_tree, moving_formed, moving_tree}
use Rattle.rule_select.proofs.SelectOperands.{operand_by}
use Rattle.rule_select.proofs.DifferTests.{never_differs}
use Rattle.rule_select.proofs.TreeLaws.{Tree, differs, formed_tree, stages_cost, tree_bit, value-tree}

-- ---- halves

abbrev pub half_tree : ℕ → ℕ → ℕ → (ℕ → List Word → Bool) → Tree
half_tree n m q leaf = move_tree (Halves n) q m (halved n m) leaf

whole : (n m : ℕ) → halved n m 0 ≡ n * 2 ^ m
whole n m = let all : m - 0 ≡ m = omega arith in ap (λ k. n * 2 ^ k) all

last_half : (n m : ℕ) → halved n m m ≡ n
last_half n m = let none : m - m ≡ 0 = omega arith in ap (λ k. n * 2 ^ k) none ∙ (omega arith)

pub half_all : (n m q : ℕ) (leaf : ℕ → List Word → Bool) (us : List Word) → length (operand us q) ≡ m → (i : ℕ) → i < n → tree_bit (half_tree n m q leaf) m i us ≡ leaf (i + n * number (operand us q)) us
half_all n m q leaf us e i h =
    let last : halved n m m ≡ n = last_half n m in
    let none : m - m ≡ 0 = omega arith in
    half_bits n m q leaf us e m (omega arith) i (omega arith)
    ∙ ap (λ k. leaf (i + halved n m m * number (drop k (operand us q))) us) none ∙ ap (λ k. leaf (i + k * number (operand us q)) us) last

pub bmux_value : (n m : ℕ) (vs ts : List Word) → 1 ≤ n → n * 2 ^ m ≤ 65536 → map length vs ≡ n * 2 ^ m ∷ m ∷ [] → map length ts ≡ n * 2 ^ m ∷ m ∷ []
    → value_of (bmux_formula n m) vs ts [] ≡ word n (differs (tree_bit (half_tree n m 1 (extended_leaf 0 false)) m) vs ts)
bmux_value n m vs ts some few e q =
    let first = operand_by vs (n * 2 ^ m ∷ m ∷ []) 0 (n * 2 ^ m) e refl in
    let second = operand_by vs (n * 2 ^ m ∷ m ∷ []) 1 m e refl in
    let tainted = operand_by ts (n * 2 ^ m ∷ m ∷ []) 0 (n * 2 ^ m) q refl in
    let long : length (operand vs 0) ≡ halved n m 0 = first.1 ∙ sym (whole n m) in
    value-tree (half_tree n m 1 (extended_leaf 0 false)) m vs ts [] (Value 0) (Taint 0) (Bound 0) _
    (moving_tree (Halves n) 1 m (halved n m) (extended_leaf 0 false) vs ts (half_moving n m some few) second.0 (let l : length (operand vs 1) ≡ m = second.1 in omega arith) (λ k i. leaf_ignores 0 false 1 k i (λ o. absurd (omega arith))))
    (value-plain 0 (halved n m 0) vs ts [] long)
    (λ u. value-plain_taint 0 (halved n m 0) vs ts (u ∷ []) first.0 long (tainted.1 ∙ sym (whole n m)) (scaled_some n (m - 0) some))
    (λ named h. h.taint ∙ ap (λ k. word k (differs (tree_bit (half_tree n m 1 (extended_leaf 0 false)) m) vs ts)) (last_half n m))

half_cost : (n m r j : ℕ) → j + r ≡ m → stages_cost (halved n m) r j ≤ 6 * (r + halved n m j / 4096)
half_cost n m zero j e = omega arith
half_cost n m (suc r) j e =
    let rest : stages_cost (halved n m) r (suc j) ≤ 6 * (r + halved n m (suc j) / 4096) = half_cost n m r (suc j) (omega arith) in
    let double : halved n m j ≡ halved n m (suc j) + halved n m (suc j) = half_is n m j (omega arith) in
    omega arith

pub half_stages : (n m : ℕ) → stages_cost (halved n m) m 0 ≤ 6 * (m + n * 2 ^ m / 4096)
half_stages n m = let all : stages_cost (halved n m) m 0 ≤ 6 * (m + halved n m 0 / 4096) = half_cost n m m 0 (omega arith) in let e : halved n m 0 ≡ n * 2 ^ m = whole n m in omega arith

pub bmux_formed : (n m : ℕ) → 1 ≤ n → n * 2 ^ m ≤ 65536 → m ≤ 65536 → IsFormed (bmux_formula n m) (n * 2 ^ m ∷ m ∷ []) [] n (6 * (m + n * 2 ^ m / 4096))
bmux_formed n m some few selects =
    let first : Some (n * 2 ^ m) ≡ Some (halved n m 0) = ap (λ k. Some k) (sym (whole n m)) in
    let wide : halved n m 0 ≡ n * 2 ^ m = whole n m in
    let last : halved n m m ≡ n = last_half n m in
    raised (6 * (m + n * 2 ^ m / 4096)) (formed_tree (half_tree n m 1 (extended_leaf 0 false)) m (n * 2 ^ m ∷ m ∷ []) [] (Value 0) (Taint 0) (Bound 0) n 0
    (moving_formed (Halves n) 1 m m (halved n m) (extended_leaf 0 false) (n * 2 ^ m ∷ m ∷ []) (half_moving n m some few) refl (omega arith) selects)
    (formed_value _ [] 0 (halved n m 0) first (scaled_some n (m - 0) some) (omega arith))
    (λ u. formed_taint _ (u ∷ []) 0 (halved n m 0) first (scaled_some n (m - 0) some) (omega arith))
    (λ named e h. formed_bound _ named 0 n (h ∙ ap (λ k. Some k) last) some (let most : n * 2 ^ 0 ≤ n * 2 ^ m = scaled_most n 0 m (omega arith) in omega arith)))
    (let cost : stages_cost (halved n m) m 0 ≤ 6 * (m + n * 2 ^ m / 4096) = half_stages n m in omega arith)

-- ---- a table

abbrev pub table_leaf : Word → ℕ → List Word → Bool
table_leaf table i us = bit table i

pub lut_value : (table : Word) (m : ℕ) (vs ts : List Word) → 2 ^ m ≤ 65536 → map length vs ≡ m ∷ [] → value_of (lut_formula table m) vs ts [] ≡ word 1 (differs (tree_bit (half_tree 1 m 0 (table_leaf table)) m) vs ts)
lut_value table m vs ts few e =
    let first = operand_by vs (m ∷ []) 0 m e refl in
    let wide : 2 ^ m ≡ halved 1 m 0 = sym (whole 1 m ∙ (omega arith)) in
    value-tree (half_tree 1 m 0 (table_leaf table)) m vs ts [] (Const (word (2 ^ m) (bit table))) (Const (zeros (2 ^ m))) (Bound 0) _
    (moving_tree (Halves 1) 0 m (halved 1 m) (table_leaf table) vs ts (half_moving 1 m (omega arith) (omega arith)) first.0 (let l : length (operand vs 0) ≡ m = first.1 in omega arith) (λ k i. record { same = λ d us. refl }))
    (ap (λ k. word k (bit table)) wide)
    (λ u. ap (λ k. word k (λ i. false)) wide ∙ word-same (halved 1 m 0) _ _ (λ i h. sym (never_differs (table_leaf table i) vs ts (bit table i) (λ us d. refl))))
    (λ named h. h.taint ∙ ap (λ k. word k (differs (tree_bit (half_tree 1 m 0 (table_leaf table)) m) vs ts)) (last_half 1 m))

pub lut_formed : (table : Word) (m : ℕ) → 2 ^ m ≤ 4096 → m ≤ 65536 → IsFormed (lut_formula table m) (m ∷ []) [] 1 (6 * (m + 1))
lut_formed table m few selects =
    let wide : halved 1 m 0 ≡ 2 ^ m = whole 1 m ∙ (omega arith) in
    let last : halved 1 m m ≡ 1 = last_half 1 m in
    let some : 1 ≤ halved 1 m 0 = scaled_some 1 (m - 0) (omega arith) in
    raised (6 * (m + 1)) (formed_tree (half_tree 1 m 0 (table_leaf table)) m (m ∷ []) [] (Const (word (2 ^ m) (bit table))) (Const (zeros (2 ^ m))) (Bound 0) 1 0
    (moving_formed (Halves 1) 0 m m (halved 1 m) (table_leaf table) (m ∷ []) (half_moving 1 m (omega arith) (omega arith)) refl (omega arith) selects)
    (formed_const (word (2 ^ m) (bit table)) _ [] (halved 1 m 0) (length-word (2 ^ m) (bit table) ∙ sym wide) some (omega arith))
    (λ u. formed_const (zeros (2 ^ m)) _ (u ∷ []) (halved 1 m 0) (length-word (2 ^ m) (λ i. false) ∙ sym wide) some (omega arith))
    (λ named e h. formed_bound _ named 0 1 (h ∙ ap (λ k. Some k) last) (omega arith) (omega arith)))
    (let cost : stages_cost (halved 1 m) m 0 ≤ 6 * (m + 1 * 2 ^ m / 4096) = half_stages 1 m in omega arith)

-- ---- doubles

abbrev pub block_tree : ℕ → ℕ → Tree
block_tree n m = move_tree (Blocks n) 1 m (λ j. n * 2 ^ j) (extended_leaf 0 false)

pub block_all : (n m : ℕ) (us : List Word) → length (operand us 0) ≡ n → length (operand us 1) ≡ m → (i : ℕ) → i < n * 2 ^ m
    → tree_bit (block_tree n m) m i us ≡ (nat_le (n * number (operand us 1)) i && bit (operand us 0) (i - n * number (operand us 1)))
block_all n m us d e i h =
    block_bits n m (extended_leaf 0 false) us e (λ x l. get_or_past (operand us 0) x false (omega arith)) m (omega arith) i h
    ∙ ap (λ k. nat_le (n * k) i && bit (operand us 0) (i - n * k)) (ap number (take_all m (operand us 1) (omega arith)))

pub demux_value : (n m : ℕ) (vs ts : List Word) → 1 ≤ n → n * 2 ^ m ≤ 65536 → map length vs ≡ n ∷ m ∷ [] → map length ts ≡ n ∷ m ∷ []
    → value_of (demux_formula n m) vs ts [] ≡ word (n * 2 ^ m) (differs (tree_bit (block_tree n m) m) vs ts)
demux_value n m vs ts some few e q =
    let first = operand_by vs (n ∷ m ∷ []) 0 n e refl in
    let second = operand_by vs (n ∷ m ∷ []) 1 m e refl in
    let tainted = operand_by ts (n ∷ m ∷ []) 0 n q refl in
    let one : n ≡ n * 2 ^ 0 = omega arith in
    value-tree (block_tree n m) m vs ts [] (Value 0) (Taint 0) (Bound 0) _
    (moving_tree (Blocks n) 1 m (λ j. n * 2 ^ j) (extended_leaf 0 false) vs ts (block_moving n m some few) second.0 (let l : length (operand vs 1) ≡ m = second.1 in omega arith) (λ k i. leaf_ignores 0 false 1 k i (λ o. absurd (omega arith))))
    (value-plain 0 (n * 2 ^ 0) vs ts [] (first.1 ∙ one))
    (λ u. value-plain_taint 0 (n * 2 ^ 0) vs ts (u ∷ []) first.0 (first.1 ∙ one) (tainted.1 ∙ one) (omega arith))
    (λ named h. h.taint)

block_cost : (n r j : ℕ) → stages_cost (λ i. n * 2 ^ i) r j + 12 * (n * 2 ^ j / 4096) ≤ 6 * r + 12 * (n * 2 ^ (j + r) / 4096)
block_cost n zero j = let same : n * 2 ^ j ≡ n * 2 ^ (j + 0) = ap (λ k. n * 2 ^ k) (omega arith) in omega arith
block_cost n (suc r) j =
    let rest : stages_cost (λ i. n * 2 ^ i) r (suc j) + 12 * (n * 2 ^ suc j / 4096) ≤ 6 * r + 12 * (n * 2 ^ (suc j + r) / 4096) = block_cost n r (suc j) in
    let same : n * 2 ^ (suc j + r) ≡ n * 2 ^ (j + suc r) = ap (λ k. n * 2 ^ k) (omega arith) in
    let double : n * 2 ^ suc j ≡ n * 2 ^ j + n * 2 ^ j = twice n j in
    omega arith

pub demux_formed : (n m : ℕ) → 1 ≤ n → n * 2 ^ m ≤ 65536 → m ≤ 65536 → IsFormed (demux_formula n m) (n ∷ m ∷ []) [] (n * 2 ^ m) (6 * m + 12 * (n * 2 ^ m / 4096))
demux_formed n m some few selects =
    let one : n ≡ n * 2 ^ 0 = omega arith in
    let most : n * 2 ^ 0 ≤ n * 2 ^ m = scaled_most n 0 m (omega arith) in
    raised (6 * m + 12 * (n * 2 ^ m / 4096)) (formed_tree (block_tree n m) m (n ∷ m ∷ []) [] (Value 0) (Taint 0) (Bound 0) (n * 2 ^ m) 0
    (moving_formed (Blocks n) 1 m m (λ j. n * 2 ^ j) (extended_leaf 0 false) (n ∷ m ∷ []) (block_moving n m some few) refl (omega arith) selects)
    (formed_value _ [] 0 (n * 2 ^ 0) (ap (λ k. Some k) one) (omega arith) (omega arith))
    (λ u. formed_taint _ (u ∷ []) 0 (n * 2 ^ 0) (ap (λ k. Some k) one) (omega arith) (omega arith))
    (λ named e h. formed_bound _ named 0 (n * 2 ^ m) h (scaled_some n m some) few))
    (let cost : stages_cost (λ i. n * 2 ^ i) m 0 + 12 * (n * 2 ^ 0 / 4096) ≤ 6 * m + 12 * (n * 2 ^ (0 + m) / 4096) = block_cost n m 0 in
    let same : n * 2 ^ (0 + m) ≡ n * 2 ^ m = ap (λ k. n * 2 ^ k) (omega arith) in omega arith)
