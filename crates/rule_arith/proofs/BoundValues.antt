-- What formulas of bounds and cases stand for, place by place.
use Rattle.std.specs.Prelude.{ℕ, ◌+◌, ◌<◌, ◌≡◌, nat_lt, Bool, true, false, not, ◌&&◌, ◌||◌, List, [], ◌∷◌, ◌++◌, map, length, get_or, if◌then◌else◌, refl}
use Rattle.std.specs.List.{range_with_len}
use Rattle.std.proofs.Common.{arith, ap, ◌∙◌}
use Rattle.std.proofs.lemmas.List.{length-map, get_or-map, get_or_append_left, get_or-append_right}
use Rattle.std.proofs.lemmas.List.FromFn.{fill_by_all, map-range_with_len_more, length-range_with_len, get_or-range_with_len}
use Rattle.cif_defs.specs.Words.{Word, bit, word, xor, zeros}
use Rattle.cif_defs.proofs.WordLaws.{bit-word, length-word}
use Rattle.cif_defs.proofs.Numbers.{word-same}
use Rattle.cif_term.specs.declared.ops.Op1.TheVariants.{Not}
use Rattle.cif_term.specs.declared.ops.Op2.TheVariants.{And, Or, Xor}
use Rattle.cif_term.specs.Formulas.{Formula, Const, One, Two, Join, picked, value_of}
use Rattle.cif_term.proofs.Values.{value-and, value-not, value-or, value-xor}
use Rattle.rule_arith.specs.Bounds.{bounds, half_of, half_places, is_upper, taint_below}
use Rattle.rule_arith.specs.Cases.{case_taint, cases_taint, joined, second_taint}
use Rattle.rule_arith.proofs.Limits.{at_bound}
use Rattle.rule_arith.proofs.Turns.{case_turns, cases_turn, joined_bit, second_turns}

-- ---- pairs of words

-- one more place
pub place_push : (f : ℕ → ℕ) (n : ℕ) (u v : List ℕ) (k : ℕ) → u ≡ map f (range_with_len 0 n) → v ≡ u ++ k ∷ [] → k ≡ f n → v ≡ map f (range_with_len 0 (n + 1))
place_push f n u v k e g h = grind (arith, map-range_with_len_more f 0 n n)

pub joined_values : (f g : Formula) (vs ts named : List Word) (u w : Word) → value_of f vs ts named ≡ u → value_of g vs ts named ≡ w → value_of (Join f g) vs ts named ≡ u ++ w
joined_values f g vs ts named u w p q = ap (λ (x : Word). x ++ value_of g vs ts named) p ∙ ap (λ (x : Word). u ++ x) q

-- the least word, and above it the greatest
pub value-bounds : (n : ℕ) (p q : ℕ → Bool) (f t : Formula) (vs ts named : List Word) → value_of f vs ts named ≡ word n p → value_of t vs ts named ≡ word n q
    → value_of (bounds f t) vs ts named ≡ word n (λ i. p i && not (q i)) ++ word n (λ i. p i || q i)
value-bounds n p q f t vs ts named a b =
    joined_values (Two And f (One Not t)) (Two Or f t) vs ts named _ _
    (value-and n p (λ i. not (q i)) f (One Not t) vs ts named a (value-not n q t vs ts named b)) (value-or n p q f t vs ts named a b)

place_of_half : (n k : ℕ) (low high : Bool) (i : ℕ) → i < n → get_or (half_places n k low high) i 0 ≡ (if is_upper k low high i then n + i else i)
place_of_half n k low high i h =
    get_or-map (λ j. if is_upper k low high j then n + j else j) (range_with_len 0 n) i 0 0 (omega (arith, length-range_with_len 0 n))
    ∙ ap (λ j. if is_upper k low high j then n + j else j) (let e : get_or (range_with_len 0 n) i 0 ≡ i = omega (arith, get_or-range_with_len 0 n i 0 h) in e)

pub length-half_places : (n k : ℕ) (low high : Bool) → length (half_places n k low high) ≡ n
length-half_places n k low high = length-map (range_with_len 0 n) (λ i. if is_upper k low high i then n + i else i) ∙ length-range_with_len 0 n

bit_of_pair : (n i : ℕ) (p q : ℕ → Bool) (upper : Bool) → i < n → bit (word n p ++ word n q) (if upper then n + i else i) ≡ (if upper then q i else p i)
bit_of_pair n i p q true h =
    get_or-append_right (word n p) (word n q) n (n + i) false (length-word n p) (omega arith)
    ∙ ap (bit (word n q)) (omega arith) ∙ bit-word n q i false h
bit_of_pair n i p q false h = get_or_append_left (word n p) (word n q) false i (omega (arith, length-word n p)) ∙ bit-word n p i false h

picked_half : (n k : ℕ) (low high : Bool) (p q : ℕ → Bool) → picked (half_places n k low high) (word n p ++ word n q) ≡ word n (λ i. if is_upper k low high i then q i else p i)
picked_half n k low high p q = fill_by_all (λ i. if is_upper k low high i then q i else p i) (picked (half_places n k low high) (word n p ++ word n q)) n false
    (length-map (half_places n k low high) (λ i. bit (word n p ++ word n q) i) ∙ length-half_places n k low high)
    (λ i h. get_or-map (λ j. bit (word n p ++ word n q) j) (half_places n k low high) i 0 false (omega (arith, length-half_places n k low high))
    ∙ ap (bit (word n p ++ word n q)) (place_of_half n k low high i h) ∙ bit_of_pair n i p q (is_upper k low high i) h)

pub value-half_of : (n k : ℕ) (low high : Bool) (p q : ℕ → Bool) (pair : Formula) (vs ts named : List Word) → value_of pair vs ts named ≡ word n p ++ word n q
    → value_of (half_of n k low high pair) vs ts named ≡ word n (λ i. if is_upper k low high i then q i else p i)
value-half_of n k low high p q pair vs ts named e = ap (picked (half_places n k low high)) e ∙ picked_half n k low high p q

-- a bound, from both
pub value-bound : (n k : ℕ) (low high : Bool) (p q : ℕ → Bool) (pair : Formula) (vs ts named : List Word)
    → value_of pair vs ts named ≡ word n (λ i. p i && not (q i)) ++ word n (λ i. p i || q i)
    → value_of (half_of n k low high pair) vs ts named ≡ word n (λ i. at_bound (is_upper k low high i) (p i) (q i))
value-bound n k low high p q pair vs ts named e = value-half_of n k low high (λ i. p i && not (q i)) (λ i. p i || q i) pair vs ts named e

below_bit : (b t : Bool) → (if (if b then false else true) then false else t) ≡ (b && t)
below_bit true t = refl
below_bit false t = refl

pub value-taint_below : (n k : ℕ) (q : ℕ → Bool) (t : Formula) (vs ts named : List Word) → value_of t vs ts named ≡ word n q → value_of (taint_below n k t) vs ts named ≡ word n (λ i. nat_lt i k && q i)
value-taint_below n k q t vs ts named e =
    value-half_of n k false true q (λ i. false) (Join t (Const (zeros n))) vs ts named (joined_values t (Const (zeros n)) vs ts named _ _ e refl)
    ∙ word-same n _ _ (λ i h. below_bit (nat_lt i k) (q i))

-- ---- cases

-- g stands for the bits p in each case
abbrev pub StandsFor : ℕ → List Word → List Word → List Word → (Bool → Bool → Bool → Formula) → (ℕ → Bool → Bool → Bool → Bool) → Type 0
StandsFor n vs ts named g p = (upper a b : Bool) → value_of (g upper a b) vs ts named ≡ word n (λ i. p i upper a b)

pub value-joined : (n : ℕ) (p0 p1 q0 q1 : ℕ → Bool) (t0 t1 v0 v1 : Formula) (vs ts named : List Word)
    → value_of t0 vs ts named ≡ word n p0 → value_of t1 vs ts named ≡ word n p1 → value_of v0 vs ts named ≡ word n q0 → value_of v1 vs ts named ≡ word n q1
    → value_of (joined t0 t1 v0 v1) vs ts named ≡ word n (λ i. joined_bit (p0 i) (p1 i) (q0 i) (q1 i))
value-joined n p0 p1 q0 q1 t0 t1 v0 v1 vs ts named a b c d =
    value-or n (λ i. p0 i || p1 i) (λ i. xor (q0 i) (q1 i)) (Two Or t0 t1) (Two Xor v0 v1) vs ts named
    (value-or n p0 p1 t0 t1 vs ts named a b) (value-xor n q0 q1 v0 v1 vs ts named c d)

value-case : (n : ℕ) (g : Bool → Bool → Bool → Formula) (p : ℕ → Bool → Bool → Bool → Bool) (vs ts named : List Word) → StandsFor n vs ts named g p → (a b : Bool)
    → value_of (case_taint g a b) vs ts named ≡ word n (λ i. case_turns (p i) a b)
value-case n g p vs ts named s a b = value-xor n (λ i. p i false a b) (λ i. p i true a b) (g false a b) (g true a b) vs ts named (s false a b) (s true a b)

value-second : (n : ℕ) (split : Bool) (g : Bool → Bool → Bool → Formula) (p : ℕ → Bool → Bool → Bool → Bool) (vs ts named : List Word) → StandsFor n vs ts named g p → (a : Bool)
    → value_of (second_taint split g a) vs ts named ≡ word n (λ i. second_turns split (p i) a)
value-second n true g p vs ts named s a =
    value-joined n (λ i. case_turns (p i) a false) (λ i. case_turns (p i) a true) (λ i. p i false a false) (λ i. p i false a true)
    (case_taint g a false) (case_taint g a true) (g false a false) (g false a true) vs ts named
    (value-case n g p vs ts named s a false) (value-case n g p vs ts named s a true) (s false a false) (s false a true)
value-second n false g p vs ts named s a = value-case n g p vs ts named s a false

pub value-cases : (n : ℕ) (first second : Bool) (g : Bool → Bool → Bool → Formula) (p : ℕ → Bool → Bool → Bool → Bool) (vs ts named : List Word) → StandsFor n vs ts named g p
    → value_of (cases_taint first second g) vs ts named ≡ word n (λ i. cases_turn first second (p i))
value-cases n true second g p vs ts named s =
    value-joined n (λ i. second_turns second (p i) false) (λ i. second_turns second (p i) true) (λ i. p i false false false) (λ i. p i false true false)
    (second_taint second g false) (second_taint second g true) (g false false false) (g false true false) vs ts named
    (value-second n second g p vs ts named s false) (value-second n second g p vs ts named s true) (s false false false) (s false true false)
value-cases n false second g p vs ts named s = value-second n second g p vs ts named s false
