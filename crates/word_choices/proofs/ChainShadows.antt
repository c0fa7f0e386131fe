-- The stages of $pmux, on words beside their taints.
use Rattle.std.specs.Prelude.{ℕ, suc, ◌+◌, ◌-◌, ◌*◌, ◌<◌, ◌≤◌, ◌≡◌, Bool, true, false, List, [], ◌∷◌, length, position, refl}
use Rattle.std.proofs.Common.{arith, sym, ap, subst, ◌∙◌}
use Rattle.std.proofs.Math.Nat.{mul-le-mul_right}
use Rattle.cif_defs.specs.Words.{Word, bit, digit, operand, word, word_of}
use Rattle.cif_defs.specs.Meanings.{pmux_bit, pmux_word, slice_word}
use Rattle.cif_defs.proofs.Numbers.{word-same}
use Rattle.cif_defs.proofs.WordLaws.{bit-word, length-word}
use Rattle.rule_select.specs.Moves.{order_by, parts_by}
use Rattle.rule_select.proofs.ChainBits.{chain_all, chain_tree}
use Rattle.rule_select.proofs.ChoiceTaints.{bit_differs, reads_other}
use Rattle.rule_select.proofs.Leaves.{leaf_ignores}
use Rattle.rule_select.proofs.SelectOperands.{operand_by}
use Rattle.rule_select.proofs.TreeLaws.{IsPart, IsTree, differs, tree_bit}
use Rattle.rule_select.proofs.WindowLaws.{picked-from}
use Rattle.word_choices.specs.declared.shadowed.Shadowed.{Shadowed}
use Rattle.word_choices.specs.Shadows.{IsChosen, IsWithin, exact_word, three_taints, three_values}
use Rattle.word_choices.proofs.ShadowLaws.{IsShadow, exact_by, next_shadow, stage_shadow}
use Rattle.word_choices.proofs.ShiftShadows.{select_as}
use Rattle.word_choices.proofs.ChoiceShadows.{plain_shadow, three_widths}

-- block k of m lies inside
pub block_room : (n m k : ℕ) → k < m → k * n + n ≤ n * m
block_room n m k h = let more : (k + 1) * n ≤ m * n = mul-le-mul_right n (omega arith) in omega arith

chain_part : (n m j : ℕ) (one : Bool) (vs ts : List Word) → j < m → 1 < length vs → length (operand vs 1) ≡ n * m → IsPart (chain_tree n m) j one vs ts
unfolding parts_by order_by
chain_part n m j true vs ts h there e = record {
  value = λ f x named q. picked-from ((m - suc j) * n) n (operand vs 1);
  taint = λ f x named q. picked-from ((m - suc j) * n) n (operand ts 1) ∙ word-same n _ _ (λ i l.
      let room : (m - suc j) * n + n ≤ n * m = block_room n m (m - suc j) (omega arith) in
      sym (bit_differs 1 ((m - suc j) * n + i) vs ts there (omega arith)));
  ignores = λ f k g i. reads_other 2 k 1 ((m - suc j) * n + i) (λ o. absurd (omega arith));
}
chain_part n m j false vs ts h there e = record { value = λ f x named q. q; taint = λ f x named q. q; ignores = λ f k g i. g i }

chain_is : (n m : ℕ) (p q s : Shadowed) → IsTree (chain_tree n m) m (three_values n (n * m) m p q s) (three_taints n (n * m) m p q s)
unfolding order_by
chain_is n m p q s =
    let long : length (word_of m s.value) ≡ m = length-word m (digit s.value) in
    record {
      there = omega arith;
      within = λ j h. omega arith;
      apart = λ j k l h e. absurd (omega arith);
      leaf_ignores = λ k i. leaf_ignores 0 false 2 k i (λ o. absurd (omega arith));
      part = λ j one h. chain_part n m j one (three_values n (n * m) m p q s) (three_taints n (n * m) m p q s) h (omega arith) (length-word (n * m) (digit q.value));
    }

-- a block of operand 1
block_shadow : (n m k at : ℕ) (p q s b : Shadowed) → k < m → at ≡ k * n → word_of n b.value ≡ slice_word n at (word_of (n * m) q.value) → word_of n b.taint ≡ slice_word n at (word_of (n * m) q.taint) → IsWithin n b
    → IsShadow n (λ i us. bit (operand us 1) (k * n + i)) (three_values n (n * m) m p q s) (three_taints n (n * m) m p q s) b
block_shadow n m k at p q s b h e ev et inside = record {
  value = ev ∙ ap (λ x. word n (λ i. bit (word_of (n * m) q.value) (x + i))) e;
  taint = et ∙ ap (λ x. word n (λ i. bit (word_of (n * m) q.taint) (x + i))) e ∙ word-same n _ _ (λ i l.
      let room : k * n + n ≤ n * m = block_room n m k h in
      let long : length (word_of (n * m) q.value) ≡ n * m = length-word (n * m) (digit q.value) in
      sym (bit_differs 1 (k * n + i) (three_values n (n * m) m p q s) (three_taints n (n * m) m p q s) (omega arith) (omega arith)));
  within = inside;
}

pub chain_stage : (n m j k at : ℕ) (p q s word block r : Shadowed) → j < m → k ≡ m - suc j → at ≡ k * n → IsShadow n (tree_bit (chain_tree n m) j) (three_values n (n * m) m p q s) (three_taints n (n * m) m p q s) word
    → word_of n block.value ≡ slice_word n at (word_of (n * m) q.value) → word_of n block.taint ≡ slice_word n at (word_of (n * m) q.taint) → IsWithin n block
    → IsChosen word block (digit s.value k) (digit s.taint k) r → IsShadow n (tree_bit (chain_tree n m) (j + 1)) (three_values n (n * m) m p q s) (three_taints n (n * m) m p q s) r
unfolding order_by
chain_stage n m j k at p q s word block r h e here g ev et inside c =
    let vs : List Word = three_values n (n * m) m p q s in
    let ts : List Word = three_taints n (n * m) m p q s in
    next_shadow (chain_tree n m) n j vs ts r (stage_shadow (chain_tree n m) m j vs ts word block r (chain_is n m p q s) h g
    (block_shadow n m (m - suc j) at p q s block (omega arith) (here ∙ ap (λ x. x * n) e) ev et inside)
    (select_as m (m - suc j) s word block r (omega arith) (subst (λ x. IsChosen word block (digit s.value x) (digit s.taint x) r) e c)))

pub chain_start : (n m : ℕ) (p q s : Shadowed) → IsWithin n p → IsShadow n (tree_bit (chain_tree n m) 0) (three_values n (n * m) m p q s) (three_taints n (n * m) m p q s) p
chain_start n m p q s inside = plain_shadow 0 n (three_values n (n * m) m p q s) (three_taints n (n * m) m p q s) p (omega arith) refl refl inside

pub chain_end : (n m j : ℕ) (p q s r : Shadowed) → j ≡ m → IsShadow n (tree_bit (chain_tree n m) j) (three_values n (n * m) m p q s) (three_taints n (n * m) m p q s) r
    → word_of n r.taint ≡ exact_word n (λ us. pmux_word n (operand us 0) (operand us 1) (operand us 2)) (three_values n (n * m) m p q s) (three_taints n (n * m) m p q s)
chain_end n m j p q s r last g =
    let vs : List Word = three_values n (n * m) m p q s in
    let ts : List Word = three_taints n (n * m) m p q s in
    exact_by n r.taint (tree_bit (chain_tree n m) m) (λ us. pmux_word n (operand us 0) (operand us 1) (operand us 2)) vs ts (g.taint ∙ ap (λ k. word n (differs (tree_bit (chain_tree n m) k) vs ts)) last)
    (λ us e i h. bit-word n (λ x. pmux_bit n (operand us 0) (operand us 1) x (position (λ b. b) (operand us 2))) i false h
    ∙ sym (chain_all n m us (operand_by us (n ∷ n * m ∷ m ∷ []) 2 m (e ∙ three_widths n (n * m) m p.value q.value s.value) refl).1 i))
