-- Products: every bit from the lowest tainted place on.
use Rattle.std.specs.Prelude.{ℕ, ◌+◌, ◌≤◌, ◌≡◌, Bool, true, not, ◌&&◌, List, [], ◌∷◌, length, take}
use Rattle.std.proofs.Common.{arith, sym, ap, ◌∙◌}
use Rattle.cif_defs.specs.Coarse.{either_taint, max_word, product_taint}
use Rattle.cif_defs.specs.Words.{Word, extend, extended_bit, has_one, operand, word}
use Rattle.cif_defs.specs.Kinds.{is_coarse}
use Rattle.cif_defs.specs.Cells.{Cell, both_signed, coarse_by, number_of, y_width}
use Rattle.cif_defs.specs.Weights.{weight}
use Rattle.cif_defs.specs.declared.kinds.Param.TheVariants.{AWidth, BWidth}
use Rattle.cif_defs.proofs.WordLaws.{length-word}
use Rattle.cif_term.specs.declared.ops.Op1.TheVariants.{Not, ReduceOr}
use Rattle.cif_term.specs.declared.ops.Op2.TheVariants.{Add, And, Or}
use Rattle.cif_term.specs.Formulas.{Const, Formula, Taint, Two, Value, IsFormed, one_word, two_word, value_of}
use Rattle.cif_term.proofs.FormedFormulas.{formed_const}
use Rattle.cif_term.proofs.Values.{value-and, value-extended, value-or}
use Rattle.rule_logic.specs.LogicFormulas.{taint_at}
use Rattle.rule_logic.proofs.LogicTaints.{IsRule}
use Rattle.rule_logic.proofs.LogicValues.{value-both}
use Rattle.rule_coarse.specs.CoarseFormulas.{everywhere, from_lowest, ones, product_formula, some_factor}
use Rattle.rule_coarse.proofs.CoarseWords.{risen}
use Rattle.rule_coarse.proofs.CoarseShapes.{IsNumeric, IsShort, coarse_rule, extended_short, one_bit, one_short, two_short}
use Rattle.rule_coarse.proofs.CoarseDivisions.{formed_everywhere, leaf_a, leaf_b, leaf_ta, leaf_tb, twice_not, value-everywhere}

-- ---- from the lowest 1 on

pub formed_from_lowest : {f : Formula} {ws named : List ℕ} {n k : ℕ} (i : ℕ) → IsShort n → IsFormed f ws named n k → k + k + 3 ≤ i → IsFormed (from_lowest n f) ws named n i
formed_from_lowest {ws = ws} {named = named} {n = n} {k = k} i y h l =
    let m = y.limit in
    let all : IsFormed (Const (ones n)) ws named n 0 = formed_const (ones n) ws named n (length-word n (λ j. true)) y.some (omega arith) in
    two_short Or i y h (one_short Not (k + 2) y (two_short Add (k + 1) y h all (omega arith)) (omega arith)) (omega arith)

pub value-from_lowest : (n : ℕ) (f : Formula) (vs ts named : List Word) (w : Word) → value_of f vs ts named ≡ w → length w ≡ n → value_of (from_lowest n f) vs ts named ≡ word n (λ i. has_one (take (i + 1) w))
value-from_lowest n f vs ts named w e long =
    ap (λ (u : Word). two_word Or u (one_word Not (two_word Add u (ones n)))) e ∙ sym (ap (λ k. two_word Or w (one_word Not (two_word Add w (ones k)))) long)
    ∙ risen w ∙ ap (λ k. word k (λ i. has_one (take (i + 1) w))) long

-- ---- product_formula

formed_factor_a : (n a b : ℕ) (s : Bool) → IsShort n → IsShort a → IsFormed (some_factor n s a 0) (a ∷ b ∷ []) [] 1 2
formed_factor_a n a b s y u = one_short ReduceOr 2 y (two_short Or 1 y (extended_short n a s y u (leaf_a a b [] u)) (extended_short n a s y u (leaf_ta a b [] u)) (omega arith)) (omega arith)

formed_factor_b : (n a b : ℕ) (s : Bool) → IsShort n → IsShort b → IsFormed (some_factor n s b 1) (a ∷ b ∷ []) [] 1 2
formed_factor_b n a b s y u = one_short ReduceOr 2 y (two_short Or 1 y (extended_short n b s y u (leaf_b a b [] u)) (extended_short n b s y u (leaf_tb a b [] u)) (omega arith)) (omega arith)

formed_product : (n a b : ℕ) (s : Bool) → IsShort n → IsShort a → IsShort b → IsFormed (product_formula n s a b) (a ∷ b ∷ []) [] n 11
formed_product n a b s y u v =
    two_short And 11 y (formed_everywhere n y (two_short And 5 one_bit (formed_factor_a n a b s y u) (formed_factor_b n a b s y v) (omega arith)))
    (formed_from_lowest 5 y (two_short Or 1 y (extended_short n a s y u (leaf_ta a b [] u)) (extended_short n b s y v (leaf_tb a b [] v)) (omega arith)) (omega arith)) (omega arith)

-- whether an operand, extended, can be other than 0
abbrev factor : ℕ → Bool → Word → Word → Bool
factor n s v x = has_one (max_word (extend n s v) (extend n s x))

value-factor : (n m p : ℕ) (s : Bool) (vs ts : List Word) → 1 ≤ m → length (operand vs p) ≡ m → length (operand ts p) ≡ m → value_of (some_factor n s m p) vs ts [] ≡ factor n s (operand vs p) (operand ts p) ∷ []
value-factor n m p s vs ts some l k =
    ap (λ (u : Word). one_word ReduceOr (two_word Or u (value_of (taint_at n s m p) vs ts []))) (value-extended n m s (Value p) vs ts [] l some)
    ∙ ap (λ (u : Word). one_word ReduceOr (two_word Or (extend n s (operand vs p)) u)) (value-extended n m s (Taint p) vs ts [] k some)

product_word : (n : ℕ) (s : Bool) (v w x z : Word) → word n (λ i. (factor n s v x && factor n s w z) && has_one (take (i + 1) (either_taint n s x z))) ≡ product_taint n s v x w z
product_word n s v w x z =
    ap (λ b. word n (λ i. (b && factor n s w z) && has_one (take (i + 1) (either_taint n s x z)))) (twice_not (factor n s v x))
    ∙ ap (λ b. word n (λ i. (not (not (factor n s v x)) && b) && has_one (take (i + 1) (either_taint n s x z)))) (twice_not (factor n s w z))

value-product : (n a b : ℕ) (s : Bool) (v w x z : Word) → 1 ≤ a → 1 ≤ b → length v ≡ a → length w ≡ b → length x ≡ a → length z ≡ b
    → value_of (product_formula n s a b) (v ∷ w ∷ []) (x ∷ z ∷ []) [] ≡ product_taint n s v x w z
value-product n a b s v w x z some_a some_b p q r t =
    let vs : List Word = v ∷ w ∷ [] in
    let ts : List Word = x ∷ z ∷ [] in
    let low : value_of (Two Or (taint_at n s a 0) (taint_at n s b 1)) vs ts [] ≡ either_taint n s x z =
    value-or n (λ i. extended_bit s i x) (λ i. extended_bit s i z) (taint_at n s a 0) (taint_at n s b 1) vs ts [] (value-extended n a s (Taint 0) vs ts [] r some_a) (value-extended n b s (Taint 1) vs ts [] t some_b) in
    value-and n (λ i. factor n s v x && factor n s w z) (λ i. has_one (take (i + 1) (either_taint n s x z)))
    (everywhere n (Two And (some_factor n s a 0) (some_factor n s b 1))) (from_lowest n (Two Or (taint_at n s a 0) (taint_at n s b 1))) vs ts []
    (value-everywhere n (Two And (some_factor n s a 0) (some_factor n s b 1)) vs ts (factor n s v x && factor n s w z)
    (value-both (some_factor n s a 0) (some_factor n s b 1) vs ts (factor n s v x) (factor n s w z) (value-factor n a 0 s vs ts some_a p r) (value-factor n b 1 s vs ts some_b q t)))
    (value-from_lowest n (Two Or (taint_at n s a 0) (taint_at n s b 1)) vs ts [] (either_taint n s x z) low (length-word n _))
    ∙ product_word n s v w x z

abbrev pub product_row : Cell → List Word → List Word → Word
product_row c vs ts = product_taint (y_width c) (both_signed c) (operand vs 0) (operand ts 0) (operand vs 1) (operand ts 1)

pub product_rule : (c : Cell) → IsNumeric c → weight c ≡ 32 → is_coarse c.kind ≡ true → ((vs ts : List Word) → coarse_by c.kind c vs ts ≡ product_row c vs ts)
    → IsRule c (product_formula (y_width c) (both_signed c) (number_of c AWidth) (number_of c BWidth))
product_rule c u weighs coarse is =
    coarse_rule c (product_formula (y_width c) (both_signed c) (number_of c AWidth) (number_of c BWidth)) 11 (product_row c) u
    (formed_product (y_width c) (number_of c AWidth) (number_of c BWidth) (both_signed c) u.y u.a u.b) (omega arith) coarse is
    (λ vs ts. length-word (y_width c) _)
    (λ v w x z p q r s. let a : IsShort (number_of c AWidth) = u.a in let b : IsShort (number_of c BWidth) = u.b in value-product (y_width c) (number_of c AWidth) (number_of c BWidth) (both_signed c) v w x z a.some b.some p q r s)
