-- What the parts of words read that stages move.
use Rattle.std.specs.Prelude.{ℕ, ◌+◌, ◌-◌, ◌^◌, ◌<◌, ◌≤◌, ◌≡◌, nat_le, nat_lt, min, Bool, true, false, List, [], ◌∷◌, length, refl, if◌then◌else◌}
use Rattle.std.specs.List.{range_with_len, list_all}
use Rattle.std.proofs.Common.{arith, ap, ◌∙◌}
use Rattle.std.proofs.lemmas.Bool.Decides.{nat_tests}
use Rattle.std.proofs.lemmas.List.{length-map, get_or-map}
use Rattle.std.proofs.lemmas.List.Folds.{list_all-map}
use Rattle.std.proofs.lemmas.List.FromFn.{fill_by_all, length-map-range_with_len, get_or-map-range_with_len}
use Rattle.cif_defs.specs.Words.{Word, bit, word}
use Rattle.cif_term.specs.Formulas.{picked, value_of}
use Rattle.cif_term.proofs.FormedFormulas.{formed_pick}
use Rattle.rule_select.specs.Moves.{moved_left, moved_right, moved_signed, signed_places, step_of}
use Rattle.rule_select.proofs.PlacedParts.{Reads, reads_window}
use Rattle.rule_select.proofs.WindowLaws.{IsWindow}

-- ---- to the left by p

abbrev pub left_place : ℕ → ℕ → ℕ → ℕ
left_place w p i = if nat_le p i then i - p else w

pub left_at : (w p i : ℕ) → p ≤ i → left_place w p i ≡ i - p
left_at w p i h = let t : nat_le p i ≡ true = grind (arith, nat_tests) in ap (λ b. if b then i - p else w) t

pub left_under : (w p i : ℕ) → i < p → left_place w p i ≡ w
left_under w p i h = let t : nat_le p i ≡ false = grind (arith, nat_tests) in ap (λ b. if b then i - p else w) t

left_window : (w p : ℕ) → IsWindow w (min p w) 0 (w - min p w) 0 (left_place w p)
left_window w p = record {
  under = λ i h. let e : left_place w p i ≡ w = left_under w p i (omega arith) in omega arith;
  inside = λ i h. let e : left_place w p (min p w + i) ≡ min p w + i - p = left_at w p (min p w + i) (omega arith) in omega arith;
  over = λ i h l. absurd (omega arith);
}

pub left_reads : (w k : ℕ) → 1 ≤ w → w ≤ 65536 → Reads (moved_left w k) w w (left_place w (2 ^ k))
left_reads w k a b = reads_window w (step_of w k) 0 (w - step_of w k) 0 w (left_place w (2 ^ k)) (left_window w (2 ^ k)) (let d : step_of w k ≤ w = omega arith in omega arith) (omega arith) a b

-- ---- to the right

right_window : (w p : ℕ) → IsWindow w 0 (min p w) (w - min p w) (min p w) (λ i. i + p)
right_window w p = record {
  under = λ i h. absurd (omega arith);
  inside = λ i h. omega arith;
  over = λ i h l. omega arith;
}

pub right_reads : (w k : ℕ) → 1 ≤ w → w ≤ 65536 → Reads (moved_right w k) w w (λ i. i + 2 ^ k)
right_reads w k a b = reads_window w 0 (step_of w k) (w - step_of w k) (step_of w k) w (λ i. i + 2 ^ k) (right_window w (2 ^ k)) (omega arith) (omega arith) a b

-- ---- to the right with the highest bit

length-signed : (w d : ℕ) → length (signed_places w d) ≡ w
length-signed w d = length-map-range_with_len (λ i. min (i + d) (w - 1)) 0 w

all_true : (p : ℕ → Bool) → ((i : ℕ) → p i ≡ true) → (is : List ℕ) → list_all p is ≡ true
all_true p h [] = refl
all_true p h (i ∷ is) = let first : p i ≡ true = h i in let rest : list_all p is ≡ true = all_true p h is in grind arith

signed_inside : (w d : ℕ) → 1 ≤ w → list_all (λ i. nat_lt i w) (signed_places w d) ≡ true
signed_inside w d h = list_all-map (λ i. nat_lt i w) (λ i. min (i + d) (w - 1)) (range_with_len 0 w)
    ∙ all_true _ (λ i. let l : min (i + d) (w - 1) < w = omega arith in grind (arith, nat_tests)) (range_with_len 0 w)

picked-signed : (w p : ℕ) (v : Word) → picked (signed_places w (min p w)) v ≡ word w (λ i. bit v (min (i + p) (w - 1)))
picked-signed w p v = fill_by_all (λ i. bit v (min (i + p) (w - 1))) (picked (signed_places w (min p w)) v) w false
    (length-map (signed_places w (min p w)) (λ i. bit v i) ∙ length-signed w (min p w))
    (λ i h. get_or-map (λ k. bit v k) (signed_places w (min p w)) i 0 false (omega (arith, length-signed w (min p w)))
    ∙ ap (bit v) (get_or-map-range_with_len (λ k. min (k + min p w) (w - 1)) 0 w i i 0 h (omega arith)) ∙ ap (bit v) (let e : min (i + min p w) (w - 1) ≡ min (i + p) (w - 1) = omega arith in e))

pub signed_reads : (w k : ℕ) → 1 ≤ w → w ≤ 65536 → Reads (moved_signed w k) w w (λ i. min (i + 2 ^ k) (w - 1))
signed_reads w k a b = record {
  value = λ f vs ts named e. picked-signed w (2 ^ k) (value_of f vs ts named);
  formed = λ f ws named h. formed_pick (signed_places w (step_of w k)) w h (signed_inside w (step_of w k) a) (length-signed w (step_of w k)) a b;
}
