-- The stages of shifts in both directions, on words beside their taints.
use Rattle.std.specs.Prelude.{ℕ, suc, ◌+◌, ◌^◌, ◌<◌, ◌≤◌, ◌≡◌, max, Bool, true, false, ◌&&◌, List, [], ◌∷◌, length, map, pos, ◌+ℤ◌, refl}
use Rattle.std.proofs.Common.{arith, sym, ap, subst, ◌∙◌}
use Rattle.cif_defs.specs.Words.{Word, bit, bit_at, digit, int_number, operand, top, word, word_of}
use Rattle.cif_defs.specs.Meanings.{extended_to, shift_word, shiftx_word, shr_word, slice_word}
use Rattle.cif_defs.proofs.Numbers.{word-same}
use Rattle.cif_defs.proofs.WordLaws.{bit-word, length-word, same_words}
use Rattle.rule_select.specs.declared.moves.Moves.TheVariants.{Rising}
use Rattle.rule_select.specs.Moves.{order_by}
use Rattle.rule_select.proofs.ChoiceTaints.{Ignores}
use Rattle.rule_select.proofs.Leaves.{extended_leaf, leaf_ignores}
use Rattle.rule_select.proofs.MoveReads.{left_place}
use Rattle.rule_select.proofs.MoveTrees.{moving_tree, place_by, rising_moving}
use Rattle.rule_select.proofs.OffsetBits.{shiftx_is, signed_is}
use Rattle.rule_select.proofs.OffsetLaws.{far_tree, near_tree, two_way_bit}
use Rattle.rule_select.proofs.PlacedParts.{moved_ignores}
use Rattle.rule_select.proofs.RisingBits.{raised_leaf}
use Rattle.rule_select.proofs.SelectOperands.{operand_by}
use Rattle.rule_select.proofs.TreeLaws.{IsTree, differs, tree_bit, tree_ignores}
use Rattle.word_numbers.specs.HeldWords.{raised_word}
use Rattle.word_choices.specs.declared.shadowed.Shadowed.{Shadowed}
use Rattle.word_choices.specs.Shadows.{IsChosen, IsWithin, exact_word, two_taints, two_values}
use Rattle.word_choices.proofs.MovedWords.{up_reads}
use Rattle.word_choices.proofs.ShadowLaws.{IsShadow, choice_shadow, exact_by, next_shadow, part_shadow, same_exact, stage_shadow}
use Rattle.word_choices.proofs.ShiftShadows.{kept_part, right_is, select_as, two_widths}
use Rattle.word_choices.proofs.ShiftValues.{right_offset}

-- ---- to the left for select bits at 0

far_is : (n a b m : ℕ) (signed : Bool) (p q : Shadowed) → 1 ≤ n → n ≤ 128 → m ≤ b → IsTree (far_tree n signed m) m (two_values a b p q) (two_taints a b p q)
far_is n a b m signed p q some few h =
    moving_tree (Rising n) 1 m (λ j. n) (raised_leaf n (extended_leaf 0 signed)) (two_values a b p q) (two_taints a b p q) (rising_moving n m some (omega arith)) (omega arith)
    (let l : length (word_of b q.value) ≡ b = length-word b (digit q.value) in omega arith)
    (λ k i. moved_ignores n 1 k (left_place n (2 ^ 0)) (extended_leaf 0 signed) (λ x. leaf_ignores 0 signed 1 k x (λ o. absurd (omega arith))) i)

pub far_start : (n a b m : ℕ) (signed : Bool) (p q start r : Shadowed) → IsShadow n (extended_leaf 0 signed) (two_values a b p q) (two_taints a b p q) start
    → word_of n r.value ≡ raised_word 1 (word_of n start.value) → word_of n r.taint ≡ raised_word 1 (word_of n start.taint) → IsWithin n r → IsShadow n (tree_bit (far_tree n signed m) 0) (two_values a b p q) (two_taints a b p q) r
far_start n a b m signed p q start r g ev et inside = part_shadow n n (left_place n 1) (raised_word 1) (extended_leaf 0 signed) _ _ start r (up_reads n 1) g ev et inside

pub far_stage : (n a b m j by : ℕ) (signed : Bool) (p q word moved r : Shadowed) → 1 ≤ n → n ≤ 128 → j < m → m ≤ b → by ≡ 2 ^ j → IsShadow n (tree_bit (far_tree n signed m) j) (two_values a b p q) (two_taints a b p q) word
    → word_of n moved.value ≡ raised_word by (word_of n word.value) → word_of n moved.taint ≡ raised_word by (word_of n word.taint) → IsWithin n moved → IsChosen moved word (digit q.value j) (digit q.taint j) r
    → IsShadow n (tree_bit (far_tree n signed m) (j + 1)) (two_values a b p q) (two_taints a b p q) r
unfolding place_by order_by
far_stage n a b m j by signed p q word moved r some few h l e g ev et inside c =
    next_shadow (far_tree n signed m) n j (two_values a b p q) (two_taints a b p q) r (stage_shadow (far_tree n signed m) m j (two_values a b p q) (two_taints a b p q) moved word r (far_is n a b m signed p q some few l) h
    (part_shadow n n (left_place n (2 ^ j)) (raised_word (2 ^ j)) (tree_bit (far_tree n signed m) j) _ _ word moved (up_reads n (2 ^ j)) g
    (ev ∙ ap (λ k. raised_word k (word_of n word.value)) e) (et ∙ ap (λ k. raised_word k (word_of n word.taint)) e) inside)
    (kept_part n (tree_bit (far_tree n signed m) j) _ _ word g)
    (select_as b j q moved word r (omega arith) c))

-- ---- the choice by the sign

-- the lowest n bits
pub cut_shadow : (w n : ℕ) (f : ℕ → List Word → Bool) (vs ts : List Word) (p r : Shadowed) → n ≤ w → IsShadow w f vs ts p
    → ((k : ℕ) → p.value < 2 ^ k → word_of n r.value ≡ slice_word n 0 (word_of k p.value)) → ((k : ℕ) → p.taint < 2 ^ k → word_of n r.taint ≡ slice_word n 0 (word_of k p.taint)) → IsWithin n r → IsShadow n f vs ts r
cut_shadow w n f vs ts p r h g ev et inside = record {
  value = ev w g.within.value ∙ ap (λ v. slice_word n 0 v) g.value ∙ first (λ i. f i vs);
  taint = et w g.within.taint ∙ ap (λ v. slice_word n 0 v) g.taint ∙ first (differs f vs ts);
  within = inside;
} where
  first : (x : ℕ → Bool) → slice_word n 0 (word w x) ≡ word n x
  first x = word-same n _ _ (λ i l. let e : 0 + i ≡ i = omega arith in ap (bit (word w x)) e ∙ bit-word w x i false (omega arith))

near_ignores : (w a b m : ℕ) (signed : Bool) (p q : Shadowed) → IsTree (near_tree w signed m) m (two_values a b p q) (two_taints a b p q) → (i : ℕ) → Ignores (tree_bit (near_tree w signed m) m i) 1 m
unfolding order_by
near_ignores w a b m signed p q g i = tree_ignores (near_tree w signed m) m (two_values a b p q) (two_taints a b p q) g m m (omega arith) (λ j h e. absurd (omega arith)) i

far_ignores : (n a b m : ℕ) (signed : Bool) (p q : Shadowed) → IsTree (far_tree n signed m) m (two_values a b p q) (two_taints a b p q) → (i : ℕ) → Ignores (tree_bit (far_tree n signed m) m i) 1 m
unfolding order_by
far_ignores n a b m signed p q g i = tree_ignores (far_tree n signed m) m (two_values a b p q) (two_taints a b p q) g m m (omega arith) (λ j h e. absurd (omega arith)) i

at_last : (t : ℕ → ℕ → List Word → Bool) (n j m : ℕ) (vs ts : List Word) (p : Shadowed) → j ≡ m → IsShadow n (t j) vs ts p → IsShadow n (t m) vs ts p
at_last t n j m vs ts p e g = subst (λ k. IsShadow n (t k) vs ts p) e g

two_way_gives : (n a b w m : ℕ) (signed : Bool) (us : List Word) → w ≡ max a n → b ≡ suc m → map length us ≡ a ∷ b ∷ [] → (i : ℕ) → i < n → bit (shift_word n signed true (operand us 0) (operand us 1)) i ≡ two_way_bit w n signed m i us
two_way_gives n a b w m signed us wide next e i h =
    signed_is n a signed m i us (operand_by us (a ∷ b ∷ []) 0 a e refl).1 ((operand_by us (a ∷ b ∷ []) 1 b e refl).1 ∙ next) h ∙ ap (λ k. two_way_bit k n signed m i us) (sym wide)

pub two_way_end : (n a b w m j : ℕ) (signed : Bool) (p q near low far r : Shadowed) → 1 ≤ n → n ≤ 128 → 1 ≤ w → w ≤ 128 → w ≡ max a n → b ≡ suc m → j ≡ m
    → IsShadow w (tree_bit (near_tree w signed m) j) (two_values a b p q) (two_taints a b p q) near
    → ((k : ℕ) → near.value < 2 ^ k → word_of n low.value ≡ slice_word n 0 (word_of k near.value)) → ((k : ℕ) → near.taint < 2 ^ k → word_of n low.taint ≡ slice_word n 0 (word_of k near.taint)) → IsWithin n low
    → IsShadow n (tree_bit (far_tree n signed m) j) (two_values a b p q) (two_taints a b p q) far
    → IsChosen low far (digit q.value m) (digit q.taint m) r → IsShadow n (two_way_bit w n signed m) (two_values a b p q) (two_taints a b p q) r
two_way_end n a b w m j signed p q near low far r some few w_some w_few wide next last g lv lt li f c =
    let vs : List Word = two_values a b p q in
    let ts : List Word = two_taints a b p q in
    let long : length (word_of b q.value) ≡ b = length-word b (digit q.value) in
    choice_shadow n 1 m (tree_bit (near_tree w signed m) m) (tree_bit (far_tree n signed m) m) vs ts low far r (omega arith) (omega arith)
    (near_ignores w a b m signed p q (right_is w a b m signed p q w_some w_few (omega arith))) (far_ignores n a b m signed p q (far_is n a b m signed p q some few (omega arith)))
    (cut_shadow w n (tree_bit (near_tree w signed m) m) vs ts near low (omega arith) (at_last (tree_bit (near_tree w signed m)) w j m vs ts near last g) lv lt li)
    (at_last (tree_bit (far_tree n signed m)) n j m vs ts far last f) (select_as b m q low far r (omega arith) c)

pub two_way_exact : (n a b w m : ℕ) (signed both : Bool) (p q r : Shadowed) → both ≡ true → w ≡ max a n → b ≡ suc m → IsShadow n (two_way_bit w n signed m) (two_values a b p q) (two_taints a b p q) r
    → word_of n r.taint ≡ exact_word n (λ us. shift_word n signed both (operand us 0) (operand us 1)) (two_values a b p q) (two_taints a b p q)
two_way_exact n a b w m signed both p q r e wide next g =
    same_exact n r.taint (λ us. shift_word n signed true (operand us 0) (operand us 1)) _ (two_values a b p q) (two_taints a b p q) (λ us. ap (λ s. shift_word n signed s (operand us 0) (operand us 1)) (sym e))
    (exact_by n r.taint (two_way_bit w n signed m) (λ us. shift_word n signed true (operand us 0) (operand us 1)) (two_values a b p q) (two_taints a b p q) g.taint
    (λ us d i h. two_way_gives n a b w m signed us wide next (d ∙ two_widths a b p.value q.value) i h))

-- ---- other rows

pub plain_offset : (n x : ℕ) (signed both : Bool) (vs ts : List Word) → both ≡ false → word_of n x ≡ exact_word n (λ us. shr_word n signed (operand us 0) (operand us 1)) vs ts
    → word_of n x ≡ exact_word n (λ us. shift_word n signed both (operand us 0) (operand us 1)) vs ts
plain_offset n x signed both vs ts e h = same_exact n x _ _ vs ts (λ us. sym (right_offset n signed both (operand us 0) (operand us 1) (ap (λ s. s && top (operand us 1)) e))) h

-- $shiftx is $shift of an unsigned A
indexed_is : (n : ℕ) (both : Bool) (a b : Word) → shift_word n false both a b ≡ shiftx_word n both a b
indexed_is n both a b =
    let one : length (shift_word n false both a b) ≡ n = length-word n (λ i. bit_at (extended_to n false a) (pos i +ℤ int_number both b)) in
    let two : length (shiftx_word n both a b) ≡ n = length-word n (λ i. bit_at a (pos i +ℤ int_number both b)) in
    same_words (shift_word n false both a b) (shiftx_word n both a b) (one ∙ sym two) (λ i h. sym (shiftx_is n both a b i (omega arith)))

pub indexed_value_is : (n : ℕ) (signed both : Bool) (a b w : Word) → signed ≡ false → w ≡ shift_word n signed both a b → w ≡ shiftx_word n both a b
indexed_value_is n signed both a b w e h = h ∙ ap (λ s. shift_word n s both a b) e ∙ indexed_is n both a b

pub indexed_exact : (n x : ℕ) (signed both : Bool) (vs ts : List Word) → signed ≡ false → word_of n x ≡ exact_word n (λ us. shift_word n signed both (operand us 0) (operand us 1)) vs ts
    → word_of n x ≡ exact_word n (λ us. shiftx_word n both (operand us 0) (operand us 1)) vs ts
indexed_exact n x signed both vs ts e h = same_exact n x _ _ vs ts (λ us. ap (λ s. shift_word n s both (operand us 0) (operand us 1)) e ∙ indexed_is n both (operand us 0) (operand us 1)) h
