-- The stages of choices, on words beside their taints.
use Rattle.std.specs.Prelude.{ℕ, suc, ◌+◌, ◌-◌, ◌*◌, ◌^◌, ◌<◌, ◌≤◌, ◌≡◌, nat_le, nat_lt, Bool, true, false, ◌&&◌, List, [], ◌∷◌, length, map, refl, if◌then◌else◌}
use Rattle.std.proofs.Common.{arith, sym, ap, subst, ◌∙◌, inl, inr}
use Rattle.std.proofs.lemmas.Bool.Decides.{nat_tests}
use Rattle.std.proofs.Math.Pow.{pow_mono}
use Rattle.cif_defs.specs.Words.{Word, bit, digit, operand, word, word_of}
use Rattle.cif_defs.specs.Meanings.{bmux_word, demux_word, mux_word, slice_word}
use Rattle.cif_defs.proofs.Numbers.{word-same}
use Rattle.cif_defs.proofs.WordLaws.{bit-word, le_or_lt, length-word}
use Rattle.rule_select.specs.declared.moves.Moves.TheVariants.{Blocks, Halves}
use Rattle.rule_select.specs.Moves.{order_by}
use Rattle.rule_select.proofs.BlockLaws.{block_tree, half_tree}
use Rattle.rule_select.proofs.BlockTrees.{block_moving, half_is, half_moving, halved, twice}
use Rattle.rule_select.proofs.ChoiceTaints.{bit_differs, reads_other}
use Rattle.rule_select.proofs.Leaves.{extended_leaf, leaf_ignores}
use Rattle.rule_select.proofs.MoveReads.{left_at, left_place, left_under}
use Rattle.rule_select.proofs.MoveTrees.{moving_tree, place_by}
use Rattle.rule_select.proofs.PlacedParts.{moved_bit}
use Rattle.rule_select.proofs.SelectOperands.{operand_by}
use Rattle.rule_select.proofs.SelectionKinds.{bmux_gives, demux_gives}
use Rattle.rule_select.proofs.TreeLaws.{IsTree, Tree, chosen_bit, differs, tree_bit}
use Rattle.word_numbers.specs.HeldWords.{raised_word}
use Rattle.word_numbers.proofs.Digits.{digit_above, digits-word_of, word_of-digits}
use Rattle.word_choices.specs.declared.shadowed.Shadowed.{Shadowed}
use Rattle.word_choices.specs.Shadows.{IsChosen, IsWithin, exact_word, three_taints, three_values, two_taints, two_values}
use Rattle.word_choices.proofs.ChoiceValues.{own_bits}
use Rattle.word_choices.proofs.MovedWords.{raised_by}
use Rattle.word_choices.proofs.ShadowLaws.{IsShadow, choice_shadow, differs_by, exact_by, part_shadow, stage_shadow}
use Rattle.word_choices.proofs.ShiftShadows.{select_as, two_widths}

-- a whole operand
pub plain_shadow : (p n : ℕ) (vs ts : List Word) (x : Shadowed) → p < length vs → operand vs p ≡ word_of n x.value → operand ts p ≡ word_of n x.taint → IsWithin n x → IsShadow n (λ i us. bit (operand us p) i) vs ts x
plain_shadow p n vs ts x there e d inside = record {
  value = own_bits n x.value ∙ ap (λ (w : Word). word n (bit w)) (sym e);
  taint = own_bits n x.taint ∙ word-same n _ _ (λ i h.
      let long : length (operand vs p) ≡ n = ap length e ∙ length-word n (digit x.value) in
      ap (λ (w : Word). bit w i) (sym d) ∙ sym (bit_differs p i vs ts there (omega arith)));
  within = inside;
}

-- ---- $mux

pub three_widths : (a b c x y z : ℕ) → map length (word_of a x ∷ word_of b y ∷ word_of c z ∷ []) ≡ a ∷ b ∷ c ∷ []
three_widths a b c x y z =
    ap (λ k. k ∷ length (word_of b y) ∷ length (word_of c z) ∷ []) (length-word a (digit x)) ∙ ap (λ k. a ∷ k ∷ length (word_of c z) ∷ []) (length-word b (digit y))
    ∙ ap (λ k. a ∷ b ∷ k ∷ []) (length-word c (digit z))

pub mux_end : (n : ℕ) (p q s r : Shadowed) → IsWithin n p → IsWithin n q → IsChosen p q (digit s.value 0) (digit s.taint 0) r
    → word_of n r.taint ≡ exact_word n (λ us. mux_word n (operand us 0) (operand us 1) (operand us 2)) (three_values n n 1 p q s) (three_taints n n 1 p q s)
mux_end n p q s r a b c =
    let vs : List Word = three_values n n 1 p q s in
    let ts : List Word = three_taints n n 1 p q s in
    let g : IsShadow n (chosen_bit 2 0 (λ i us. bit (operand us 0) i) (λ i us. bit (operand us 1) i)) vs ts r =
    choice_shadow n 2 0 (λ i us. bit (operand us 0) i) (λ i us. bit (operand us 1) i) vs ts p q r (omega arith) (let l : length (word_of 1 s.value) ≡ 1 = length-word 1 (digit s.value) in omega arith)
    (λ i. reads_other 2 0 0 i (λ o. absurd (omega arith))) (λ i. reads_other 2 0 1 i (λ o. absurd (omega arith)))
    (plain_shadow 0 n vs ts p (omega arith) refl refl a) (plain_shadow 1 n vs ts q (omega arith) refl refl b) (select_as 1 0 s p q r (omega arith) c) in
    exact_by n r.taint (chosen_bit 2 0 (λ i us. bit (operand us 0) i) (λ i us. bit (operand us 1) i)) (λ us. mux_word n (operand us 0) (operand us 1) (operand us 2)) vs ts g.taint
    (λ us e i h. bit-word n (λ j. if bit (operand us 2) 0 then bit (operand us 1) j else bit (operand us 0) j) i false h)

-- ---- $bmux

abbrev pub bmux_tree : ℕ → ℕ → Tree
bmux_tree n m = half_tree n m 1 (extended_leaf 0 false)

half_is_tree : (n m w : ℕ) (p q : Shadowed) → 1 ≤ n → n * 2 ^ m ≤ 128 → IsTree (bmux_tree n m) m (two_values w m p q) (two_taints w m p q)
half_is_tree n m w p q some few =
    moving_tree (Halves n) 1 m (halved n m) (extended_leaf 0 false) (two_values w m p q) (two_taints w m p q) (half_moving n m some (omega arith)) (omega arith)
    (let l : length (word_of m q.value) ≡ m = length-word m (digit q.value) in omega arith) (λ k i. leaf_ignores 0 false 1 k i (λ o. absurd (omega arith)))

-- the bits from d on of a word of w bits
slice_reads : (w d n : ℕ) (g : ℕ → Bool) → d + n ≤ w → slice_word n d (word w g) ≡ word n (λ i. nat_lt (d + i) w && g (d + i))
slice_reads w d n g h = word-same n _ _ (λ i l. let t : nat_lt (d + i) w ≡ true = grind (arith, nat_tests) in bit-word w g (d + i) false (omega arith) ∙ sym (ap (λ b. b && g (d + i)) t))

low_reads : (w n : ℕ) (g : ℕ → Bool) → n ≤ w → slice_word n 0 (word w g) ≡ word n (λ i. nat_lt i w && g i)
low_reads w n g h = slice_reads w 0 n g (omega arith) ∙ word-same n _ _ (λ i l. let e : 0 + i ≡ i = omega arith in ap (λ k. nat_lt k w && g k) e)

pub half_stage : (n m w j half : ℕ) (p q word zero one r : Shadowed) → 1 ≤ n → n * 2 ^ m ≤ 128 → j < m → half ≡ n * 2 ^ (m - suc j)
    → IsShadow (halved n m j) (tree_bit (bmux_tree n m) j) (two_values w m p q) (two_taints w m p q) word
    → ((k : ℕ) → word.value < 2 ^ k → word_of half zero.value ≡ slice_word half 0 (word_of k word.value)) → ((k : ℕ) → word.taint < 2 ^ k → word_of half zero.taint ≡ slice_word half 0 (word_of k word.taint)) → IsWithin half zero
    → ((k : ℕ) → word.value < 2 ^ k → word_of half one.value ≡ slice_word half half (word_of k word.value)) → ((k : ℕ) → word.taint < 2 ^ k → word_of half one.taint ≡ slice_word half half (word_of k word.taint)) → IsWithin half one
    → IsChosen zero one (digit q.value (m - suc j)) (digit q.taint (m - suc j)) r → IsShadow (halved n m (j + 1)) (tree_bit (bmux_tree n m) (j + 1)) (two_values w m p q) (two_taints w m p q) r
unfolding place_by order_by
half_stage n m w j half p q word zero one r some few h e g zv zt zi ov ot oi c =
    let vs : List Word = two_values w m p q in
    let ts : List Word = two_taints w m p q in
    let double : halved n m j ≡ halved n m (suc j) + halved n m (suc j) = half_is n m j h in
    let next : suc j ≡ j + 1 = omega arith in
    let low = subst (λ k. word_of k zero.value ≡ slice_word k 0 (word_of (halved n m j) word.value)) e (zv (halved n m j) g.within.value) in
    let low_taint = subst (λ k. word_of k zero.taint ≡ slice_word k 0 (word_of (halved n m j) word.taint)) e (zt (halved n m j) g.within.taint) in
    let high = subst (λ k. word_of k one.value ≡ slice_word k k (word_of (halved n m j) word.value)) e (ov (halved n m j) g.within.value) in
    let high_taint = subst (λ k. word_of k one.taint ≡ slice_word k k (word_of (halved n m j) word.taint)) e (ot (halved n m j) g.within.taint) in
    subst (λ k. IsShadow (halved n m k) (tree_bit (bmux_tree n m) k) vs ts r) next
    (stage_shadow (bmux_tree n m) m j vs ts zero one r (half_is_tree n m w p q some few) h
    (part_shadow (halved n m j) (halved n m (suc j)) (λ i. i) (λ v. slice_word (halved n m (suc j)) 0 v) (tree_bit (bmux_tree n m) j) vs ts word zero
    (λ f. low_reads (halved n m j) (halved n m (suc j)) f (omega arith)) g low low_taint (subst (λ k. IsWithin k zero) e zi))
    (part_shadow (halved n m j) (halved n m (suc j)) (λ i. n * 2 ^ (m - suc j) + i) (λ v. slice_word (halved n m (suc j)) (n * 2 ^ (m - suc j)) v) (tree_bit (bmux_tree n m) j) vs ts word one
    (λ f. slice_reads (halved n m j) (n * 2 ^ (m - suc j)) (halved n m (suc j)) f (omega arith)) g high high_taint (subst (λ k. IsWithin k one) e oi))
    (select_as m (m - suc j) q zero one r (omega arith) c))

pub bmux_start : (n m : ℕ) (p q : Shadowed) → IsWithin (n * 2 ^ m) p → IsShadow (halved n m 0) (tree_bit (bmux_tree n m) 0) (two_values (n * 2 ^ m) m p q) (two_taints (n * 2 ^ m) m p q) p
bmux_start n m p q inside =
    let all : m ≡ m - 0 = omega arith in
    subst (λ k. IsShadow (n * 2 ^ k) (extended_leaf 0 false) (two_values (n * 2 ^ m) m p q) (two_taints (n * 2 ^ m) m p q) p) all
    (plain_shadow 0 (n * 2 ^ m) (two_values (n * 2 ^ m) m p q) (two_taints (n * 2 ^ m) m p q) p (omega arith) refl refl inside)

pub bmux_last : (n m j : ℕ) (vs ts : List Word) (r : Shadowed) → j ≡ m → IsShadow (halved n m j) (tree_bit (bmux_tree n m) j) vs ts r → IsShadow n (tree_bit (bmux_tree n m) m) vs ts r
bmux_last n m j vs ts r last g =
    let one : n * 2 ^ (m - m) ≡ n = (let none : m - m ≡ 0 = omega arith in ap (λ k. n * 2 ^ k) none ∙ (omega arith)) in
    subst (λ k. IsShadow k (tree_bit (bmux_tree n m) m) vs ts r) one (subst (λ k. IsShadow (halved n m k) (tree_bit (bmux_tree n m) k) vs ts r) last g)

pub bmux_end : (n m w j : ℕ) (p q r : Shadowed) → j ≡ m → IsShadow (halved n m j) (tree_bit (bmux_tree n m) j) (two_values w m p q) (two_taints w m p q) r
    → word_of n r.taint ≡ exact_word n (λ us. bmux_word n (operand us 0) (operand us 1)) (two_values w m p q) (two_taints w m p q)
bmux_end n m w j p q r last g =
    exact_by n r.taint (tree_bit (bmux_tree n m) m) (λ us. bmux_word n (operand us 0) (operand us 1)) (two_values w m p q) (two_taints w m p q) (bmux_last n m j _ _ r last g).taint
    (λ us e i h. bmux_gives n m us (operand_by us (w ∷ m ∷ []) 1 m (e ∙ two_widths w m p.value q.value) refl).1 i h)

-- ---- $demux

demux_is : (n m : ℕ) (p q : Shadowed) → 1 ≤ n → n * 2 ^ m ≤ 128 → IsTree (block_tree n m) m (two_values n m p q) (two_taints n m p q)
demux_is n m p q some few =
    moving_tree (Blocks n) 1 m (λ j. n * 2 ^ j) (extended_leaf 0 false) (two_values n m p q) (two_taints n m p q) (block_moving n m some (omega arith)) (omega arith)
    (let l : length (word_of m q.value) ≡ m = length-word m (digit q.value) in omega arith) (λ k i. leaf_ignores 0 false 1 k i (λ o. absurd (omega arith)))

-- a word of w bits as the lower, and as the upper half of one of 2 * w bits
lower_half : (w x : ℕ) (g : ℕ → Bool) → x < 2 ^ w → word_of w x ≡ word w g → word_of (w + w) x ≡ word (w + w) (λ i. nat_lt i w && g i)
lower_half w x g fits e = word_of-digits (w + w) x _ place where
  place : (i : ℕ) → i < w + w → digit x i ≡ (nat_lt i w && g i)
  place i h = elim (le_or_lt i w) [
    | inl l ↦ (let t : nat_lt i w ≡ true = grind (arith, nat_tests) in digits-word_of w x g e i l ∙ sym (ap (λ b. b && g i) t))
    | inr l ↦ (let t : nat_lt i w ≡ false = grind (arith, nat_tests) in digit_above w x i fits l ∙ sym (ap (λ b. b && g i) t))
  ]

upper_half : (w x y : ℕ) (g : ℕ → Bool) → word_of w x ≡ word w g → word_of (w + w) y ≡ raised_word w (word_of (w + w) x) → word_of (w + w) y ≡ word (w + w) (λ i. nat_lt (left_place w w i) w && g (left_place w w i))
upper_half w x y g e r = r ∙ raised_by (w + w) w (digit x) ∙ word-same (w + w) _ _ place where
  place : (i : ℕ) → i < w + w → (nat_le w i && digit x (i - w)) ≡ (nat_lt (left_place w w i) w && g (left_place w w i))
  place i h = elim (le_or_lt i w) [
    | inl l ↦ (let t : nat_le w i ≡ false = grind (arith, nat_tests) in
        let u : nat_lt w w ≡ false = grind (arith, nat_tests) in
        ap (λ b. b && digit x (i - w)) t ∙ sym (ap (λ k. nat_lt k w && g k) (left_under w w i l) ∙ ap (λ b. b && g w) u))
    | inr l ↦ (let t : nat_le w i ≡ true = grind (arith, nat_tests) in
        let u : nat_lt (i - w) w ≡ true = grind (arith, nat_tests) in
        ap (λ b. b && digit x (i - w)) t ∙ digits-word_of w x g e (i - w) (omega arith) ∙ sym (ap (λ k. nat_lt k w && g k) (left_at w w i l) ∙ ap (λ b. b && g (i - w)) u))
  ]

wider : (w x : ℕ) → x < 2 ^ w → x < 2 ^ (w + w)
wider w x h = let more : 2 ^ w ≤ 2 ^ (w + w) = pow_mono (omega arith) in omega arith

pub lower_shadow : (w : ℕ) (f : ℕ → List Word → Bool) (vs ts : List Word) (p : Shadowed) → IsShadow w f vs ts p → IsShadow (w + w) (moved_bit w (λ i. i) f) vs ts p
lower_shadow w f vs ts p g = record {
  value = lower_half w p.value (λ i. f i vs) g.within.value g.value;
  taint = lower_half w p.taint (differs f vs ts) g.within.taint g.taint ∙ word-same (w + w) _ _ (λ i h. sym (differs_by (nat_lt i w) (f i) vs ts));
  within = record { value = wider w p.value g.within.value; taint = wider w p.taint g.within.taint };
}

pub upper_shadow : (w : ℕ) (f : ℕ → List Word → Bool) (vs ts : List Word) (p r : Shadowed) → IsShadow w f vs ts p → word_of (w + w) r.value ≡ raised_word w (word_of (w + w) p.value) → word_of (w + w) r.taint ≡ raised_word w (word_of (w + w) p.taint)
    → IsWithin (w + w) r → IsShadow (w + w) (moved_bit w (left_place w w) f) vs ts r
upper_shadow w f vs ts p r g e d inside = record {
  value = upper_half w p.value r.value (λ i. f i vs) g.value e;
  taint = upper_half w p.taint r.taint (differs f vs ts) g.taint d ∙ word-same (w + w) _ _ (λ i h. sym (differs_by (nat_lt (left_place w w i) w) (f (left_place w w i)) vs ts));
  within = inside;
}

pub block_stage : (n m j half by : ℕ) (p q word upper r : Shadowed) → 1 ≤ n → n * 2 ^ m ≤ 128 → j < m → half ≡ n * 2 ^ j → by ≡ half → IsShadow (n * 2 ^ j) (tree_bit (block_tree n m) j) (two_values n m p q) (two_taints n m p q) word
    → word_of (half + half) upper.value ≡ raised_word by (word_of (half + half) word.value) → word_of (half + half) upper.taint ≡ raised_word by (word_of (half + half) word.taint) → IsWithin (half + half) upper
    → IsChosen word upper (digit q.value j) (digit q.taint j) r → IsShadow (n * 2 ^ (j + 1)) (tree_bit (block_tree n m) (j + 1)) (two_values n m p q) (two_taints n m p q) r
unfolding place_by order_by
block_stage n m j half by p q word upper r some few h e same g ev et inside c =
    let vs : List Word = two_values n m p q in
    let ts : List Word = two_taints n m p q in
    let double : n * 2 ^ j + n * 2 ^ j ≡ n * 2 ^ suc j = sym (twice n j) in
    let next : suc j ≡ j + 1 = omega arith in
    let by_is : by ≡ n * 2 ^ j = same ∙ e in
    let high = subst (λ k. word_of (k + k) upper.value ≡ raised_word (n * 2 ^ j) (word_of (k + k) word.value)) e (ev ∙ ap (λ k. raised_word k (word_of (half + half) word.value)) by_is) in
    let high_taint = subst (λ k. word_of (k + k) upper.taint ≡ raised_word (n * 2 ^ j) (word_of (k + k) word.taint)) e (et ∙ ap (λ k. raised_word k (word_of (half + half) word.taint)) by_is) in
    subst (λ k. IsShadow (n * 2 ^ k) (tree_bit (block_tree n m) k) vs ts r) next
    (stage_shadow (block_tree n m) m j vs ts word upper r (demux_is n m p q some few) h
    (subst (λ k. IsShadow k (moved_bit (n * 2 ^ j) (λ i. i) (tree_bit (block_tree n m) j)) vs ts word) double (lower_shadow (n * 2 ^ j) (tree_bit (block_tree n m) j) vs ts word g))
    (subst (λ k. IsShadow k (moved_bit (n * 2 ^ j) (left_place (n * 2 ^ j) (n * 2 ^ j)) (tree_bit (block_tree n m) j)) vs ts upper) double
    (upper_shadow (n * 2 ^ j) (tree_bit (block_tree n m) j) vs ts word upper g high high_taint (subst (λ k. IsWithin (k + k) upper) e inside)))
    (select_as m j q word upper r h c))

pub demux_start : (n m : ℕ) (p q : Shadowed) → IsWithin n p → IsShadow (n * 2 ^ 0) (tree_bit (block_tree n m) 0) (two_values n m p q) (two_taints n m p q) p
demux_start n m p q inside =
    let one : n ≡ n * 2 ^ 0 = omega arith in
    subst (λ k. IsShadow k (extended_leaf 0 false) (two_values n m p q) (two_taints n m p q) p) one (plain_shadow 0 n (two_values n m p q) (two_taints n m p q) p (omega arith) refl refl inside)

pub demux_last : (n m j : ℕ) (vs ts : List Word) (r : Shadowed) → j ≡ m → IsShadow (n * 2 ^ j) (tree_bit (block_tree n m) j) vs ts r → IsShadow (n * 2 ^ m) (tree_bit (block_tree n m) m) vs ts r
demux_last n m j vs ts r last g = subst (λ k. IsShadow (n * 2 ^ k) (tree_bit (block_tree n m) k) vs ts r) last g

pub demux_end : (n m j : ℕ) (p q r : Shadowed) → 1 ≤ n → j ≡ m → IsShadow (n * 2 ^ j) (tree_bit (block_tree n m) j) (two_values n m p q) (two_taints n m p q) r
    → word_of (n * 2 ^ m) r.taint ≡ exact_word (n * 2 ^ m) (λ us. demux_word n m (operand us 0) (operand us 1)) (two_values n m p q) (two_taints n m p q)
demux_end n m j p q r some last g =
    exact_by (n * 2 ^ m) r.taint (tree_bit (block_tree n m) m) (λ us. demux_word n m (operand us 0) (operand us 1)) (two_values n m p q) (two_taints n m p q) (demux_last n m j _ _ r last g).taint
    (λ us e i h.
    let widths : map length us ≡ n ∷ m ∷ [] = e ∙ two_widths n m p.value q.value in
    demux_gives n m us some (operand_by us (n ∷ m ∷ []) 0 n widths refl).1 (operand_by us (n ∷ m ∷ []) 1 m widths refl).1 i h)
