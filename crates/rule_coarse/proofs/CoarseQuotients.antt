-- Unsigned quotients: every bit up to the highest place where the least and the largest quotient differ.
use Rattle.std.specs.Prelude.{ℕ, ◌+◌, ◌-◌, ◌/◌, ◌%◌, ◌^◌, ◌<◌, ◌≤◌, ◌≡◌, ◌⊎◌, ◌==◌, nat_lt, max, Bool, true, false, not, ◌&&◌, ◌||◌, List, [], ◌∷◌, length, take, drop, refl, if◌then◌else◌}
use Rattle.std.specs.List.{list_all, range_with_len}
use Rattle.std.proofs.Common.{arith, sym, ap, ◌∙◌, inl, inr}
use Rattle.std.proofs.Math.Nat.{div-eq_of_lt, div-le_self, mod-eq_of_lt, zero-div}
use Rattle.std.proofs.Math.Pow.{pow_mono}
use Rattle.std.proofs.lemmas.Bool.Decides.{nat_tests}
use Rattle.std.proofs.lemmas.List.{length-map}
use Rattle.std.proofs.lemmas.List.FromFn.{length-range_with_len}
use Rattle.std.proofs.lemmas.List.Folds.{list_all-map}
use Rattle.std.proofs.lemmas.Int.{ints}
use Rattle.cif_defs.specs.Coarse.{high_quotient, low_quotient, max_word, min_word, quotient_taint}
use Rattle.cif_defs.specs.Words.{Word, bit, extend, extended_bit, has_one, number, operand, word, word_of, zeros}
use Rattle.cif_defs.specs.Kinds.{is_coarse}
use Rattle.cif_defs.specs.Cells.{Cell, coarse_by, number_of, y_width}
use Rattle.cif_defs.specs.Weights.{weight}
use Rattle.cif_defs.specs.declared.kinds.Param.TheVariants.{AWidth, BWidth}
use Rattle.cif_defs.proofs.CoarseAgree.{divided_unsigned}
use Rattle.cif_defs.proofs.Numbers.{word-same}
use Rattle.cif_defs.proofs.WordLaws.{bit-word, length-word, le_or_lt, past_word}
use Rattle.cif_defs.proofs.WordNumbers.{int_number-extend, number-word_of, number_below, word_of-number}
use Rattle.cif_term.specs.declared.ops.Op1.TheVariants.{Not, ReduceOr}
use Rattle.cif_term.specs.declared.ops.Op2.TheVariants.{And, Div, Or, Xor}
use Rattle.cif_term.specs.Formulas.{Bound, Choose, Const, Formula, Two, IsFormed, picked, two_word, value_of}
use Rattle.cif_term.specs.Extended.{extended}
use Rattle.cif_term.proofs.FormedFormulas.{formed_bound, formed_const, formed_let, formed_pick}
use Rattle.cif_term.proofs.Values.{value-and, value-extended}
use Rattle.rule_logic.specs.LogicFormulas.{max_formula, min_formula}
use Rattle.rule_logic.proofs.LogicTaints.{IsRule}
use Rattle.rule_logic.proofs.LogicValues.{value-min, value-some}
use Rattle.rule_coarse.specs.CoarseFormulas.{differing, division_formula, from_lowest, largest, largest_quotient, least, least_quotient, places_down, quotient_formula, sure_divisor, to_highest, turned}
use Rattle.rule_coarse.proofs.CoarseWords.{difference, down, down_to, picked-down, quotients_differ, some_number}
use Rattle.rule_coarse.proofs.CoarseShapes.{IsNumeric, IsShort, choose_short, coarse_rule, extended_short, one_short, two_short}
use Rattle.rule_coarse.proofs.CoarseDivisions.{divides, formed_division, leaf_a, leaf_b, leaf_ta, leaf_tb, value-division}
use Rattle.rule_coarse.proofs.CoarseProducts.{formed_from_lowest, value-from_lowest}

-- ---- the places of a word, turned

all_true : {X : Type 0} (p : X → Bool) → ((x : X) → p x ≡ true) → (xs : List X) → list_all p xs ≡ true
all_true p h [] = refl
all_true p h (x ∷ xs) = let a : p x ≡ true = h x in let b : list_all p xs ≡ true = all_true p h xs in grind arith

down_inside : (m : ℕ) → 1 ≤ m → list_all (λ i. nat_lt i m) (places_down m) ≡ true
down_inside m h = list_all-map (λ i. nat_lt i m) (λ i. m - 1 - i) (range_with_len 0 m) ∙ all_true _ (λ i. let l : m - 1 - i < m = omega arith in grind (arith, nat_tests)) (range_with_len 0 m)

length-down : (m : ℕ) → length (places_down m) ≡ m
length-down m = length-map (range_with_len 0 m) (λ i. m - 1 - i) ∙ length-range_with_len 0 m

formed_turned : {f : Formula} {ws named : List ℕ} {k : ℕ} (m : ℕ) → IsShort m → IsFormed f ws named m k → IsFormed (turned m f) ws named m k
formed_turned m s h = let l = s.limit in formed_pick (places_down m) m h (down_inside m s.some) (length-down m) s.some (omega arith)

formed_highest : {f : Formula} {ws : List ℕ} {k : ℕ} (m : ℕ) → IsShort m → IsFormed f ws [] m k → IsFormed (to_highest m f) ws [] m (k + 3)
formed_highest {ws = ws} m s h =
    let l = s.limit in
    let inner : IsFormed (Bound 0) ws (m ∷ []) m 0 = formed_bound ws (m ∷ []) 0 m refl s.some (omega arith) in
    formed_let (formed_turned m s h) (formed_turned m s (formed_from_lowest 3 s inner (omega arith)))

value-turned : (m : ℕ) (f : Formula) (vs ts named : List Word) (w : Word) → value_of f vs ts named ≡ w → value_of (turned m f) vs ts named ≡ down m w
value-turned m f vs ts named w e = ap (picked (places_down m)) e ∙ picked-down m w

value-highest : (m : ℕ) (f : Formula) (vs ts : List Word) (w : Word) → value_of f vs ts [] ≡ w → length w ≡ m → value_of (to_highest m f) vs ts [] ≡ word m (λ i. has_one (drop i w))
value-highest m f vs ts w e long =
    ap (λ (u : Word). value_of (turned m (from_lowest m (Bound 0))) vs ts (u ∷ [])) (value-turned m f vs ts [] w e)
    ∙ value-turned m (from_lowest m (Bound 0)) vs ts (down m w ∷ []) _ (value-from_lowest m (Bound 0) vs ts (down m w ∷ []) (down m w) refl (length-word m (λ k. bit w (m - 1 - k))))
    ∙ word-same m _ _ (λ i h. bit-word m (λ k. has_one (take (k + 1) (down m w))) (m - 1 - i) false (omega arith) ∙ down_to m i w long h)

-- ---- numbers of m bits

number-extended : (m : ℕ) (w : Word) → length w ≤ m → number (extend m false w) ≡ number w
number-extended m w h = let e = int_number-extend m false w h in omega (arith, ints, e)

fits : (w : Word) (m : ℕ) → length w ≤ m → number w < 2 ^ m
fits w m h = let l : number w < 2 ^ length w = number_below w in let p : 2 ^ length w ≤ 2 ^ m = pow_mono h in omega arith

-- the quotient of two words, at m bits
quotient_word : (m : ℕ) (u v p q : Word) → p ≡ extend m false u → q ≡ extend m false v → length u ≤ m → length v ≤ m → two_word Div p q ≡ word_of m (number u / number v)
quotient_word m u v p q e f l k =
    ap (λ (x : Word). two_word Div x q) e ∙ ap (λ (x : Word). two_word Div (extend m false u) x) f
    ∙ divided_unsigned (length (extend m false u)) (extend m false u) (extend m false v)
    ∙ ap (λ n. word_of n (number (extend m false u) / number (extend m false v))) (length-word m _)
    ∙ ap (λ x. word_of m (x / number (extend m false v))) (number-extended m u l) ∙ ap (λ y. word_of m (number u / y)) (number-extended m v k)

zeros_word : (m : ℕ) → zeros m ≡ word_of m 0
zeros_word m = word-same m _ _ (λ i h. sym (ap (λ k. k % 2 == 1) (zero-div (2 ^ i))))

extended_word : (m : ℕ) (u : Word) → length u ≤ m → extend m false u ≡ word_of m (number u)
extended_word m u l = sym (word_of-number m (extend m false u) (length-word m _)) ∙ ap (word_of m) (number-extended m u l)

-- ---- the least and the largest quotient, over words v and w with taints x and z

-- the words of both operands, which have a and b bits, no more than m
record AreWords (m a b : ℕ) (v w x z : Word) : Type 0 where
  some_a : 1 ≤ a
  some_b : 1 ≤ b
  fit_a : a ≤ m
  fit_b : b ≤ m
  long_v : length v ≡ a
  long_w : length w ≡ b
  long_x : length x ≡ a
  long_z : length z ≡ b

length-min : (v x : Word) → length (min_word v x) ≡ length v
length-min v x = length-word (length v) _

length-max : (v x : Word) → length (max_word v x) ≡ length v
length-max v x = length-word (length v) _

value-least : (m k p : ℕ) (vs ts : List Word) → 1 ≤ k → length (operand vs p) ≡ k → length (operand ts p) ≡ k → value_of (least m k p) vs ts [] ≡ extend m false (min_word (operand vs p) (operand ts p))
value-least m k p vs ts some l t =
    let low : value_of (min_formula p) vs ts [] ≡ min_word (operand vs p) (operand ts p) = value-min p vs ts (t ∙ sym l) in
    value-extended m k false (min_formula p) vs ts [] (ap length low ∙ length-min (operand vs p) (operand ts p) ∙ l) some ∙ ap (extend m false) low

value-largest : (m k p : ℕ) (vs ts : List Word) → 1 ≤ k → length (operand vs p) ≡ k → value_of (largest m k p) vs ts [] ≡ extend m false (max_word (operand vs p) (operand ts p))
value-largest m k p vs ts some l = value-extended m k false (max_formula p) vs ts [] (length-max (operand vs p) (operand ts p) ∙ l) some

value-sure : (v w x z : Word) → length z ≡ length w → value_of sure_divisor (v ∷ w ∷ []) (x ∷ z ∷ []) [] ≡ has_one (min_word w z) ∷ []
value-sure v w x z e = value-some (min_formula 1) (v ∷ w ∷ []) (x ∷ z ∷ []) (min_word w z) (value-min 1 (v ∷ w ∷ []) (x ∷ z ∷ []) e)

value-chosen : (s f g : Formula) (vs ts : List Word) (b : Bool) (zero one : Word) → value_of s vs ts [] ≡ b ∷ [] → value_of f vs ts [] ≡ zero → value_of g vs ts [] ≡ one → value_of (Choose s f g) vs ts [] ≡ (if b then one else zero)
value-chosen s f g vs ts b zero one e x y =
    ap (λ (u : Word). if bit u 0 then value_of g vs ts [] else value_of f vs ts []) e ∙ ap (λ (u : Word). if b then u else value_of f vs ts []) y ∙ ap (λ (u : Word). if b then one else u) x

-- a choice of words is the word of a choice of numbers
chosen_number : (m p q : ℕ) (b : Bool) → (if not b then word_of m q else word_of m p) ≡ word_of m (if b then p else q)
chosen_number m p q true = refl
chosen_number m p q false = refl

value-low : (m a b : ℕ) (v w x z : Word) → AreWords m a b v w x z → value_of (least_quotient m a b) (v ∷ w ∷ []) (x ∷ z ∷ []) [] ≡ word_of m (low_quotient v x w z)
value-low m a b v w x z h =
    let vs : List Word = v ∷ w ∷ [] in
    let ts : List Word = x ∷ z ∷ [] in
    let quotient : value_of (Two Div (least m a 0) (largest m b 1)) vs ts [] ≡ word_of m (number (min_word v x) / number (max_word w z)) =
    quotient_word m (min_word v x) (max_word w z) _ _ (value-least m a 0 vs ts h.some_a h.long_v h.long_x) (value-largest m b 1 vs ts h.some_b h.long_w)
    (let f = h.fit_a in let l = h.long_v in omega (arith, length-min v x)) (let f = h.fit_b in let l = h.long_w in omega (arith, length-max w z)) in
    value-chosen sure_divisor (Const (zeros m)) (Two Div (least m a 0) (largest m b 1)) vs ts (has_one (min_word w z)) (word_of m 0) _ (value-sure v w x z (h.long_z ∙ sym h.long_w)) (zeros_word m) quotient
    ∙ ap (λ t. if t then word_of m (number (min_word v x) / number (max_word w z)) else word_of m 0) (some_number (min_word w z))
    ∙ chosen_number m 0 (number (min_word v x) / number (max_word w z)) (number (min_word w z) == 0)

value-high : (m a b : ℕ) (v w x z : Word) → AreWords m a b v w x z → value_of (largest_quotient m a b) (v ∷ w ∷ []) (x ∷ z ∷ []) [] ≡ word_of m (high_quotient v x w z)
value-high m a b v w x z h =
    let vs : List Word = v ∷ w ∷ [] in
    let ts : List Word = x ∷ z ∷ [] in
    let fit_a : length (max_word v x) ≤ m = (let f = h.fit_a in let l = h.long_v in omega (arith, length-max v x)) in
    let whole : value_of (largest m a 0) vs ts [] ≡ word_of m (number (max_word v x)) = value-largest m a 0 vs ts h.some_a h.long_v ∙ extended_word m (max_word v x) fit_a in
    let quotient : value_of (Two Div (largest m a 0) (least m b 1)) vs ts [] ≡ word_of m (number (max_word v x) / number (min_word w z)) =
    quotient_word m (max_word v x) (min_word w z) _ _ (value-largest m a 0 vs ts h.some_a h.long_v) (value-least m b 1 vs ts h.some_b h.long_w h.long_z)
    fit_a (let f = h.fit_b in let l = h.long_w in omega (arith, length-min w z)) in
    value-chosen sure_divisor (largest m a 0) (Two Div (largest m a 0) (least m b 1)) vs ts (has_one (min_word w z)) _ _ (value-sure v w x z (h.long_z ∙ sym h.long_w)) whole quotient
    ∙ ap (λ t. if t then word_of m (number (max_word v x) / number (min_word w z)) else word_of m (number (max_word v x))) (some_number (min_word w z))
    ∙ chosen_number m (number (max_word v x)) (number (max_word v x) / number (min_word w z)) (number (min_word w z) == 0)

-- ---- both fit m bits

small_choice : (p q n : ℕ) (b : Bool) → p < n → q < n → (if b then p else q) < n
small_choice p q n true h k = h
small_choice p q n false h k = k

low_fits : (m a b : ℕ) (v w x z : Word) → AreWords m a b v w x z → low_quotient v x w z < 2 ^ m
low_fits m a b v w x z h =
    let whole : number (min_word v x) < 2 ^ m = fits (min_word v x) m (let f = h.fit_a in let l = h.long_v in omega (arith, length-min v x)) in
    let l : number (min_word v x) / number (max_word w z) ≤ number (min_word v x) = div-le_self (number (min_word v x)) (number (max_word w z)) in
    small_choice 0 (number (min_word v x) / number (max_word w z)) (2 ^ m) (number (min_word w z) == 0) (omega arith) (omega arith)

high_fits : (m a b : ℕ) (v w x z : Word) → AreWords m a b v w x z → high_quotient v x w z < 2 ^ m
high_fits m a b v w x z h =
    let whole : number (max_word v x) < 2 ^ m = fits (max_word v x) m (let f = h.fit_a in let l = h.long_v in omega (arith, length-max v x)) in
    let l : number (max_word v x) / number (min_word w z) ≤ number (max_word v x) = div-le_self (number (max_word v x)) (number (min_word w z)) in
    small_choice (number (max_word v x)) (number (max_word v x) / number (min_word w z)) (2 ^ m) (number (min_word w z) == 0) whole (omega arith)

-- ---- where they differ

-- whether two numbers differ at place i or above it
abbrev apart : ℕ → ℕ → ℕ → Bool
apart p q i = not (p / 2 ^ i == q / 2 ^ i)

number-small : (m p : ℕ) → p < 2 ^ m → number (word_of m p) ≡ p
number-small m p h = number-word_of m p ∙ mod-eq_of_lt h

apart_is : (m p q i : ℕ) → p < 2 ^ m → q < 2 ^ m → has_one (drop i (difference (word_of m p) (word_of m q))) ≡ apart p q i
apart_is m p q i h k =
    sym (quotients_differ i (word_of m p) (word_of m q) (length-word m _ ∙ sym (length-word m _)))
    ∙ ap (λ x. apart x (number (word_of m q)) i) (number-small m p h) ∙ ap (λ x. apart p x i) (number-small m q k)

value-differing : (m a b : ℕ) (v w x z : Word) → AreWords m a b v w x z → value_of (differing m a b) (v ∷ w ∷ []) (x ∷ z ∷ []) [] ≡ word m (apart (low_quotient v x w z) (high_quotient v x w z))
value-differing m a b v w x z h =
    let vs : List Word = v ∷ w ∷ [] in
    let ts : List Word = x ∷ z ∷ [] in
    let low : Word = word_of m (low_quotient v x w z) in
    let high : Word = word_of m (high_quotient v x w z) in
    let both : value_of (Two Xor (least_quotient m a b) (largest_quotient m a b)) vs ts [] ≡ difference low high =
    ap (λ (u : Word). two_word Xor u (value_of (largest_quotient m a b) vs ts [])) (value-low m a b v w x z h) ∙ ap (λ (u : Word). two_word Xor low u) (value-high m a b v w x z h) in
    value-highest m (Two Xor (least_quotient m a b) (largest_quotient m a b)) vs ts (difference low high) both (length-word (length low) _ ∙ length-word m _)
    ∙ word-same m _ _ (λ i l. apart_is m (low_quotient v x w z) (high_quotient v x w z) i (low_fits m a b v w x z h) (high_fits m a b v w x z h))

-- no place past the end differs
not_apart : (m p q i : ℕ) → m ≤ i → p < 2 ^ m → q < 2 ^ m → apart p q i ≡ false
not_apart m p q i l h k =
    let power : 2 ^ m ≤ 2 ^ i = pow_mono l in
    let x : p / 2 ^ i ≡ 0 = div-eq_of_lt (omega arith) in
    let y : q / 2 ^ i ≡ 0 = div-eq_of_lt (omega arith) in
    ap (λ n. not (n == q / 2 ^ i)) x ∙ ap (λ n. not (0 == n)) y

shown_bit : (m p q i : ℕ) → (i < m) ⊎ (m ≤ i) → p < 2 ^ m → q < 2 ^ m → extended_bit false i (word m (apart p q)) ≡ apart p q i
shown_bit m p q i (inl l) h k = bit-word m (apart p q) i false l
shown_bit m p q i (inr l) h k = past_word m (apart p q) i false l ∙ sym (not_apart m p q i l h k)

value-shown : (n m a b : ℕ) (v w x z : Word) → 1 ≤ m → AreWords m a b v w x z
    → value_of (extended n false m (differing m a b)) (v ∷ w ∷ []) (x ∷ z ∷ []) [] ≡ word n (apart (low_quotient v x w z) (high_quotient v x w z))
value-shown n m a b v w x z some h =
    let places : value_of (differing m a b) (v ∷ w ∷ []) (x ∷ z ∷ []) [] ≡ word m (apart (low_quotient v x w z) (high_quotient v x w z)) = value-differing m a b v w x z h in
    value-extended n m false (differing m a b) (v ∷ w ∷ []) (x ∷ z ∷ []) [] (ap length places ∙ length-word m _) some ∙ ap (extend n false) places
    ∙ word-same n _ _ (λ i l. shown_bit m (low_quotient v x w z) (high_quotient v x w z) i (le_or_lt i m) (low_fits m a b v w x z h) (high_fits m a b v w x z h))

-- ---- quotient_formula

value-quotient : (n a b : ℕ) (v w x z : Word) → AreWords (max a b) a b v w x z → value_of (quotient_formula n a b) (v ∷ w ∷ []) (x ∷ z ∷ []) [] ≡ quotient_taint n v x w z
value-quotient n a b v w x z h =
    let some : 1 ≤ max a b = (let s = h.some_a in omega arith) in
    value-and n (λ i. divides x w z) (apart (low_quotient v x w z) (high_quotient v x w z)) (division_formula n) (extended n false (max a b) (differing (max a b) a b)) (v ∷ w ∷ []) (x ∷ z ∷ []) []
    (value-division n v w x z) (value-shown n (max a b) a b v w x z some h)
    ∙ ap (λ t. word n (λ i. (has_one x || has_one z) && t && apart (low_quotient v x w z) (high_quotient v x w z) i)) (some_number (max_word w z))

formed_min_a : (a b : ℕ) → IsShort a → IsFormed (min_formula 0) (a ∷ b ∷ []) [] a 2
formed_min_a a b s = two_short And 2 s (leaf_a a b [] s) (one_short Not 1 s (leaf_ta a b [] s) (omega arith)) (omega arith)

formed_min_b : (a b : ℕ) → IsShort b → IsFormed (min_formula 1) (a ∷ b ∷ []) [] b 2
formed_min_b a b s = two_short And 2 s (leaf_b a b [] s) (one_short Not 1 s (leaf_tb a b [] s) (omega arith)) (omega arith)

formed_max_a : (a b : ℕ) → IsShort a → IsFormed (max_formula 0) (a ∷ b ∷ []) [] a 1
formed_max_a a b s = two_short Or 1 s (leaf_a a b [] s) (leaf_ta a b [] s) (omega arith)

formed_max_b : (a b : ℕ) → IsShort b → IsFormed (max_formula 1) (a ∷ b ∷ []) [] b 1
formed_max_b a b s = two_short Or 1 s (leaf_b a b [] s) (leaf_tb a b [] s) (omega arith)

formed_sure : (a b : ℕ) → IsShort b → IsFormed sure_divisor (a ∷ b ∷ []) [] 1 3
formed_sure a b s = one_short ReduceOr 3 s (formed_min_b a b s) (omega arith)

formed_low : (m a b : ℕ) → IsShort m → IsShort a → IsShort b → IsFormed (least_quotient m a b) (a ∷ b ∷ []) [] m 8
formed_low m a b s x y =
    let l = s.limit in
    let none : IsFormed (Const (zeros m)) (a ∷ b ∷ []) [] m 0 = formed_const (zeros m) (a ∷ b ∷ []) [] m (length-word m (λ i. false)) s.some (omega arith) in
    choose_short 8 s (formed_sure a b y) none (two_short Div 4 s (extended_short m a false s x (formed_min_a a b x)) (extended_short m b false s y (formed_max_b a b y)) (omega arith)) (omega arith)

formed_high : (m a b : ℕ) → IsShort m → IsShort a → IsShort b → IsFormed (largest_quotient m a b) (a ∷ b ∷ []) [] m 9
formed_high m a b s x y =
    choose_short 9 s (formed_sure a b y) (extended_short m a false s x (formed_max_a a b x))
    (two_short Div 4 s (extended_short m a false s x (formed_max_a a b x)) (extended_short m b false s y (formed_min_b a b y)) (omega arith)) (omega arith)

formed_differing : (m a b : ℕ) → IsShort m → IsShort a → IsShort b → IsFormed (differing m a b) (a ∷ b ∷ []) [] m 21
formed_differing m a b s x y = formed_highest m s (two_short Xor 18 s (formed_low m a b s x y) (formed_high m a b s x y) (omega arith))

larger : (a b : ℕ) → IsShort a → IsShort b → IsShort (max a b)
larger a b x y = let p = x.some in let q = x.limit in let r = y.limit in record { some = omega arith; limit = omega arith }

formed_quotient : (n a b : ℕ) → IsShort n → IsShort a → IsShort b → IsFormed (quotient_formula n a b) (a ∷ b ∷ []) [] n 28
formed_quotient n a b s x y =
    two_short And 28 s (formed_division n a b s x y)
    (extended_short n (max a b) false s (larger a b x y) (formed_differing (max a b) a b (larger a b x y) x y)) (omega arith)

abbrev pub quotient_row : Cell → List Word → List Word → Word
quotient_row c vs ts = quotient_taint (y_width c) (operand vs 0) (operand ts 0) (operand vs 1) (operand ts 1)

pub quotient_rule : (c : Cell) → IsNumeric c → weight c ≡ 80 → is_coarse c.kind ≡ true → ((vs ts : List Word) → coarse_by c.kind c vs ts ≡ quotient_row c vs ts)
    → IsRule c (quotient_formula (y_width c) (number_of c AWidth) (number_of c BWidth))
quotient_rule c u weighs coarse is =
    let a : IsShort (number_of c AWidth) = u.a in
    let b : IsShort (number_of c BWidth) = u.b in
    coarse_rule c (quotient_formula (y_width c) (number_of c AWidth) (number_of c BWidth)) 28 (quotient_row c) u
    (formed_quotient (y_width c) (number_of c AWidth) (number_of c BWidth) u.y a b) (omega arith) coarse is
    (λ vs ts. length-word (y_width c) _)
    (λ v w x z p q r s. value-quotient (y_width c) (number_of c AWidth) (number_of c BWidth) v w x z
    (record { some_a = a.some; some_b = b.some; fit_a = omega arith; fit_b = omega arith; long_v = p; long_w = q; long_x = r; long_z = s }))
