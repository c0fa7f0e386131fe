-- The stages of shifts, on words beside their taints.
use Rattle.std.specs.Prelude.{ℕ, ◌+◌, ◌-◌, ◌^◌, ◌<◌, ◌≤◌, ◌≡◌, nat_le, nat_lt, min, max, Bool, true, false, ◌&&◌, List, [], ◌∷◌, length, map, refl}
use Rattle.std.proofs.Common.{arith, sym, ap, ◌∙◌, inl, inr}
use Rattle.std.proofs.lemmas.List.{get_or_past, take_all}
use Rattle.cif_defs.specs.Words.{Word, bit, digit, extend, extended_bit, number, operand, top, word, word_of}
use Rattle.cif_defs.specs.Meanings.{extended_to, shl_word, shr_word, sshr_word}
use Rattle.cif_defs.proofs.Numbers.{word-same}
use Rattle.cif_defs.proofs.WordLaws.{bit-word, le_or_lt, length-word, past_word}
use Rattle.rule_select.specs.declared.moves.Moves.TheVariants.{Left, Right, Signed}
use Rattle.rule_select.specs.Moves.{order_by}
use Rattle.rule_select.proofs.Leaves.{extended_leaf, leaf_differs, leaf_ignores}
use Rattle.rule_select.proofs.MoveReads.{left_place}
use Rattle.rule_select.proofs.MoveTrees.{left_moving, move_tree, moving_tree, place_by, right_moving, signed_moving}
use Rattle.rule_select.proofs.PlacedParts.{bit_within}
use Rattle.rule_select.proofs.SelectOperands.{operand_by}
use Rattle.rule_select.proofs.ShiftBits.{left_bits, moved_by, right_bits, signed_bits}
use Rattle.rule_select.proofs.ShiftKinds.{sign_stays}
use Rattle.rule_select.proofs.TreeLaws.{IsTree, Tree, differs, tree_bit}
use Rattle.word_numbers.specs.HeldWords.{lowered_word, raised_word}
use Rattle.word_numbers.proofs.Digits.{bit-held_by}
use Rattle.word_choices.specs.declared.shadowed.Shadowed.{Shadowed}
use Rattle.word_choices.specs.Shadows.{IsChosen, IsWithin, exact_word, two_taints, two_values}
use Rattle.word_choices.proofs.MovedWords.{down_reads, kept_reads, narrower, signed_reads, up_reads}
use Rattle.word_choices.proofs.ShadowLaws.{IsShadow, chosen_as, exact_by, next_shadow, part_shadow, same_exact, stage_shadow}

-- ---- operands

pub two_widths : (a b x y : ℕ) → map length (word_of a x ∷ word_of b y ∷ []) ≡ a ∷ b ∷ []
two_widths a b x y = ap (λ k. k ∷ length (word_of b y) ∷ []) (length-word a (digit x)) ∙ ap (λ k. a ∷ k ∷ []) (length-word b (digit y))

-- A as a tree begins with it
pub start_shadow : (n a b : ℕ) (signed : Bool) (p q r : Shadowed) → 1 ≤ a → word_of n r.value ≡ extend n signed (word_of a p.value) → word_of n r.taint ≡ extend n signed (word_of a p.taint) → IsWithin n r
    → IsShadow n (extended_leaf 0 signed) (two_values a b p q) (two_taints a b p q) r
start_shadow n a b signed p q r some e d inside = record {
  value = e;
  taint = d ∙ word-same n _ _ (λ i h. sym (leaf_differs 0 a signed (two_values a b p q) (two_taints a b p q) i (omega arith) (length-word a (digit p.value)) (length-word a (digit p.taint)) some));
  within = inside;
}

-- bit j of B, as a number has it
pub select_as : (b j : ℕ) (q zero one r : Shadowed) → j < b → IsChosen zero one (digit q.value j) (digit q.taint j) r → IsChosen zero one (bit (word_of b q.value) j) (bit (word_of b q.taint) j) r
select_as b j q zero one r h c = chosen_as zero one _ _ _ _ r (sym (bit-held_by b q.value j false h)) (sym (bit-held_by b q.taint j false h)) c

pub kept_part : (n : ℕ) (f : ℕ → List Word → Bool) (vs ts : List Word) (p : Shadowed) → IsShadow n f vs ts p → IsShadow n (λ i us. nat_lt i n && f i us) vs ts p
kept_part n f vs ts p g = part_shadow n n (λ i. i) (λ w. w) f vs ts p p (kept_reads n) g refl refl g.within

all_moved : (us : List Word) (b : ℕ) → length (operand us 1) ≡ b → moved_by us b ≡ number (operand us 1)
all_moved us b e = ap number (take_all b (operand us 1) (omega arith))

-- ---- to the left

abbrev pub left_tree : ℕ → ℕ → Bool → Tree
left_tree n m signed = move_tree (Left n) 1 m (λ j. n) (extended_leaf 0 signed)

left_is : (n a b m : ℕ) (signed : Bool) (p q : Shadowed) → 1 ≤ n → n ≤ 128 → m ≤ b → IsTree (left_tree n m signed) m (two_values a b p q) (two_taints a b p q)
left_is n a b m signed p q some few h =
    moving_tree (Left n) 1 m (λ j. n) (extended_leaf 0 signed) (two_values a b p q) (two_taints a b p q) (left_moving n m some (omega arith)) (omega arith)
    (let l : length (word_of b q.value) ≡ b = length-word b (digit q.value) in omega arith) (λ k i. leaf_ignores 0 signed 1 k i (λ o. absurd (omega arith)))

pub left_stage : (n a b j by : ℕ) (signed : Bool) (p q word moved r : Shadowed) → 1 ≤ n → n ≤ 128 → j < b → by ≡ 2 ^ j → IsShadow n (tree_bit (left_tree n b signed) j) (two_values a b p q) (two_taints a b p q) word
    → word_of n moved.value ≡ raised_word by (word_of n word.value) → word_of n moved.taint ≡ raised_word by (word_of n word.taint) → IsWithin n moved → IsChosen word moved (digit q.value j) (digit q.taint j) r
    → IsShadow n (tree_bit (left_tree n b signed) (j + 1)) (two_values a b p q) (two_taints a b p q) r
unfolding place_by order_by
left_stage n a b j by signed p q word moved r some few h e g ev et inside c =
    next_shadow (left_tree n b signed) n j (two_values a b p q) (two_taints a b p q) r (stage_shadow (left_tree n b signed) b j (two_values a b p q) (two_taints a b p q) word moved r (left_is n a b b signed p q some few (omega arith)) h
    (kept_part n (tree_bit (left_tree n b signed) j) _ _ word g)
    (part_shadow n n (left_place n (2 ^ j)) (raised_word (2 ^ j)) (tree_bit (left_tree n b signed) j) _ _ word moved (up_reads n (2 ^ j)) g
    (ev ∙ ap (λ k. raised_word k (word_of n word.value)) e) (et ∙ ap (λ k. raised_word k (word_of n word.taint)) e) inside)
    (select_as b j q word moved r h c))

left_gives : (n a b : ℕ) (signed : Bool) (us : List Word) → map length us ≡ a ∷ b ∷ [] → (i : ℕ) → i < n → bit (shl_word n signed (operand us 0) (operand us 1)) i ≡ tree_bit (left_tree n b signed) b i us
left_gives n a b signed us e i h =
    let second : length (operand us 1) ≡ b = (operand_by us (a ∷ b ∷ []) 1 b e refl).1 in
    bit-word n (λ k. nat_le (number (operand us 1)) k && extended_bit signed (k - number (operand us 1)) (operand us 0)) i false h
    ∙ sym (left_bits n b (extended_leaf 0 signed) us (omega arith) b (omega arith) i h
    ∙ ap (λ x. nat_le x i && extended_bit signed (i - x) (operand us 0)) (all_moved us b second))

pub left_end : (n a b j : ℕ) (signed : Bool) (p q r : Shadowed) → j ≡ b → IsShadow n (tree_bit (left_tree n b signed) j) (two_values a b p q) (two_taints a b p q) r
    → word_of n r.taint ≡ exact_word n (λ us. shl_word n signed (operand us 0) (operand us 1)) (two_values a b p q) (two_taints a b p q)
left_end n a b j signed p q r last g =
    exact_by n r.taint (tree_bit (left_tree n b signed) b) (λ us. shl_word n signed (operand us 0) (operand us 1)) (two_values a b p q) (two_taints a b p q)
    (g.taint ∙ ap (λ k. word n (differs (tree_bit (left_tree n b signed) k) (two_values a b p q) (two_taints a b p q))) last)
    (λ us e i h. left_gives n a b signed us (e ∙ two_widths a b p.value q.value) i h)

-- ---- to the right

abbrev pub right_tree : ℕ → ℕ → Bool → Tree
right_tree w m signed = move_tree (Right w) 1 m (λ j. w) (extended_leaf 0 signed)

pub right_is : (w a b m : ℕ) (signed : Bool) (p q : Shadowed) → 1 ≤ w → w ≤ 128 → m ≤ b → IsTree (right_tree w m signed) m (two_values a b p q) (two_taints a b p q)
right_is w a b m signed p q some few h =
    moving_tree (Right w) 1 m (λ j. w) (extended_leaf 0 signed) (two_values a b p q) (two_taints a b p q) (right_moving w m some (omega arith)) (omega arith)
    (let l : length (word_of b q.value) ≡ b = length-word b (digit q.value) in omega arith) (λ k i. leaf_ignores 0 signed 1 k i (λ o. absurd (omega arith)))

pub right_stage : (w a b m j by : ℕ) (signed : Bool) (p q word moved r : Shadowed) → 1 ≤ w → w ≤ 128 → j < m → m ≤ b → by ≡ 2 ^ j → IsShadow w (tree_bit (right_tree w m signed) j) (two_values a b p q) (two_taints a b p q) word
    → word_of w moved.value ≡ lowered_word by false (word_of w word.value) → word_of w moved.taint ≡ lowered_word by false (word_of w word.taint) → IsWithin w moved → IsChosen word moved (digit q.value j) (digit q.taint j) r
    → IsShadow w (tree_bit (right_tree w m signed) (j + 1)) (two_values a b p q) (two_taints a b p q) r
unfolding place_by order_by
right_stage w a b m j by signed p q word moved r some few h l e g ev et inside c =
    next_shadow (right_tree w m signed) w j (two_values a b p q) (two_taints a b p q) r (stage_shadow (right_tree w m signed) m j (two_values a b p q) (two_taints a b p q) word moved r (right_is w a b m signed p q some few l) h
    (kept_part w (tree_bit (right_tree w m signed) j) _ _ word g)
    (part_shadow w w (λ i. i + 2 ^ j) (lowered_word (2 ^ j) false) (tree_bit (right_tree w m signed) j) _ _ word moved (down_reads w (2 ^ j)) g
    (ev ∙ ap (λ k. lowered_word k false (word_of w word.value)) e) (et ∙ ap (λ k. lowered_word k false (word_of w word.taint)) e) inside)
    (select_as b j q word moved r (omega arith) c))

right_gives : (n a b w : ℕ) (signed : Bool) (us : List Word) → w ≡ max a n → map length us ≡ a ∷ b ∷ [] → (i : ℕ) → i < n → bit (shr_word n signed (operand us 0) (operand us 1)) i ≡ tree_bit (right_tree w b signed) b i us
right_gives n a b w signed us wide e i h =
    let first : length (operand us 0) ≡ a = (operand_by us (a ∷ b ∷ []) 0 a e refl).1 in
    let second : length (operand us 1) ≡ b = (operand_by us (a ∷ b ∷ []) 1 b e refl).1 in
    let whole : max (length (operand us 0)) n ≡ w = ap (λ k. max k n) first ∙ sym wide in
    bit-word n (λ k. bit (extended_to n signed (operand us 0)) (k + number (operand us 1))) i false h
    ∙ bit_within (max (length (operand us 0)) n) (λ k. extended_bit signed k (operand us 0)) (i + number (operand us 1))
    ∙ ap (λ x. nat_lt (i + number (operand us 1)) x && extended_bit signed (i + number (operand us 1)) (operand us 0)) whole
    ∙ sym (right_bits w b (extended_leaf 0 signed) us (omega arith) b (omega arith) i (omega arith)
    ∙ ap (λ x. nat_lt (i + x) w && extended_bit signed (i + x) (operand us 0)) (all_moved us b second))

pub right_end : (n a b w x j : ℕ) (signed : Bool) (p q r : Shadowed) → w ≡ max a n → j ≡ b → IsShadow w (tree_bit (right_tree w b signed) j) (two_values a b p q) (two_taints a b p q) r → word_of n x ≡ word_of n r.taint
    → word_of n x ≡ exact_word n (λ us. shr_word n signed (operand us 0) (operand us 1)) (two_values a b p q) (two_taints a b p q)
right_end n a b w x j signed p q r wide last g e =
    exact_by n x (tree_bit (right_tree w b signed) b) (λ us. shr_word n signed (operand us 0) (operand us 1)) (two_values a b p q) (two_taints a b p q)
    (e ∙ narrower w n r.taint _ (omega arith) g.taint ∙ ap (λ k. word n (differs (tree_bit (right_tree w b signed) k) (two_values a b p q) (two_taints a b p q))) last)
    (λ us d i h. right_gives n a b w signed us wide (d ∙ two_widths a b p.value q.value) i h)

-- ---- to the right with the sign

abbrev pub signed_tree : ℕ → ℕ → Tree
signed_tree w m = move_tree (Signed w) 1 m (λ j. w) (extended_leaf 0 true)

signed_is : (w a b : ℕ) (p q : Shadowed) → 1 ≤ w → w ≤ 128 → IsTree (signed_tree w b) b (two_values a b p q) (two_taints a b p q)
signed_is w a b p q some few =
    moving_tree (Signed w) 1 b (λ j. w) (extended_leaf 0 true) (two_values a b p q) (two_taints a b p q) (signed_moving w b some (omega arith)) (omega arith)
    (let l : length (word_of b q.value) ≡ b = length-word b (digit q.value) in omega arith) (λ k i. leaf_ignores 0 true 1 k i (λ o. absurd (omega arith)))

pub signed_stage : (w a b j by : ℕ) (p q word moved r : Shadowed) → 1 ≤ w → w ≤ 128 → j < b → by ≡ 2 ^ j → IsShadow w (tree_bit (signed_tree w b) j) (two_values a b p q) (two_taints a b p q) word
    → word_of w moved.value ≡ lowered_word by (top (word_of w word.value)) (word_of w word.value) → word_of w moved.taint ≡ lowered_word by (top (word_of w word.taint)) (word_of w word.taint) → IsWithin w moved
    → IsChosen word moved (digit q.value j) (digit q.taint j) r → IsShadow w (tree_bit (signed_tree w b) (j + 1)) (two_values a b p q) (two_taints a b p q) r
unfolding place_by order_by
signed_stage w a b j by p q word moved r some few h e g ev et inside c =
    next_shadow (signed_tree w b) w j (two_values a b p q) (two_taints a b p q) r (stage_shadow (signed_tree w b) b j (two_values a b p q) (two_taints a b p q) word moved r (signed_is w a b p q some few) h
    (kept_part w (tree_bit (signed_tree w b) j) _ _ word g)
    (part_shadow w w (λ i. min (i + 2 ^ j) (w - 1)) (λ v. lowered_word (2 ^ j) (top v) v) (tree_bit (signed_tree w b) j) _ _ word moved (λ f. signed_reads w (2 ^ j) f some) g
    (ev ∙ ap (λ k. lowered_word k (top (word_of w word.value)) (word_of w word.value)) e) (et ∙ ap (λ k. lowered_word k (top (word_of w word.taint)) (word_of w word.taint)) e) inside)
    (select_as b j q word moved r h c))

signed_gives : (n a b w : ℕ) (us : List Word) → 1 ≤ a → w ≡ max a n → map length us ≡ a ∷ b ∷ [] → (i : ℕ) → i < n → bit (sshr_word n true (operand us 0) (operand us 1)) i ≡ tree_bit (signed_tree w b) b i us
signed_gives n a b w us some wide e i h =
    let first : length (operand us 0) ≡ a = (operand_by us (a ∷ b ∷ []) 0 a e refl).1 in
    let second : length (operand us 1) ≡ b = (operand_by us (a ∷ b ∷ []) 1 b e refl).1 in
    bit-word n (λ k. extended_bit true (k + number (operand us 1)) (operand us 0)) i false h
    ∙ sign_stays w a (i + number (operand us 1)) (operand us 0) first some (omega arith)
    ∙ sym (signed_bits w b (extended_leaf 0 true) us (omega arith) b (omega arith) i (omega arith)
    ∙ ap (λ x. extended_bit true (min (i + x) (w - 1)) (operand us 0)) (all_moved us b second))

pub signed_end : (n a b w x j : ℕ) (p q r : Shadowed) → 1 ≤ a → w ≡ max a n → j ≡ b → IsShadow w (tree_bit (signed_tree w b) j) (two_values a b p q) (two_taints a b p q) r → word_of n x ≡ word_of n r.taint
    → word_of n x ≡ exact_word n (λ us. sshr_word n true (operand us 0) (operand us 1)) (two_values a b p q) (two_taints a b p q)
signed_end n a b w x j p q r some wide last g e =
    exact_by n x (tree_bit (signed_tree w b) b) (λ us. sshr_word n true (operand us 0) (operand us 1)) (two_values a b p q) (two_taints a b p q)
    (e ∙ narrower w n r.taint _ (omega arith) g.taint ∙ ap (λ k. word n (differs (tree_bit (signed_tree w b) k) (two_values a b p q) (two_taints a b p q))) last)
    (λ us d i h. signed_gives n a b w us some wide (d ∙ two_widths a b p.value q.value) i h)

-- an unsigned A moves to the right with zeros
zeros_stay : (w k : ℕ) (v : Word) → length v ≤ w → bit (extend w false v) k ≡ extended_bit false k v
zeros_stay w k v h = elim (le_or_lt k w) [
  | inl l ↦ bit-word w (λ i. extended_bit false i v) k false l
  | inr l ↦ past_word w (λ i. extended_bit false i v) k false l ∙ sym (get_or_past v k false (omega arith))
]

unsigned_is : (n : ℕ) (a b : Word) → shr_word n false a b ≡ sshr_word n false a b
unsigned_is n a b = word-same n _ _ (λ i h. zeros_stay (max (length a) n) (i + number b) a (omega arith))

pub signed_as : (n x : ℕ) (s : Bool) (vs ts : List Word) → s ≡ true → word_of n x ≡ exact_word n (λ us. sshr_word n true (operand us 0) (operand us 1)) vs ts → word_of n x ≡ exact_word n (λ us. sshr_word n s (operand us 0) (operand us 1)) vs ts
signed_as n x s vs ts e h = same_exact n x _ _ vs ts (λ us. ap (λ b. sshr_word n b (operand us 0) (operand us 1)) (sym e)) h

pub unsigned_as : (n x : ℕ) (s : Bool) (vs ts : List Word) → s ≡ false → word_of n x ≡ exact_word n (λ us. shr_word n s (operand us 0) (operand us 1)) vs ts → word_of n x ≡ exact_word n (λ us. sshr_word n s (operand us 0) (operand us 1)) vs ts
unsigned_as n x s vs ts e h = same_exact n x _ _ vs ts (λ us. ap (λ b. shr_word n b (operand us 0) (operand us 1)) e ∙ unsigned_is n (operand us 0) (operand us 1) ∙ ap (λ b. sshr_word n b (operand us 0) (operand us 1)) (sym e)) h
