-- What the formulas of reductions and of bitwise kinds stand for.
use Rattle.std.specs.Prelude.{ℕ, zero, suc, ◌≡◌, Bool, false, not, ◌&&◌, ◌||◌, ◌==◌, List, [], ◌∷◌, length, refl}
use Rattle.std.proofs.Common.{arith, sym, ap, ◌∙◌}
use Rattle.std.proofs.lemmas.Bool.Decides.{nat_tests}
use Rattle.cif_defs.specs.Coarse.{max_word, min_word}
use Rattle.cif_defs.specs.Words.{Word, bit, word, extended_bit, flag_word, has_one, is_all_ones, operand}
use Rattle.cif_defs.proofs.WordLaws.{bit-word}
use Rattle.cif_defs.proofs.Numbers.{word-same}
use Rattle.cif_term.specs.declared.ops.Op1.TheVariants.{Not, ReduceAnd, ReduceOr}
use Rattle.cif_term.specs.declared.ops.Op2.TheVariants.{And, Or}
use Rattle.cif_term.specs.Formulas.{Formula, One, Two, one_word, two_word, value_of}
use Rattle.cif_term.proofs.Values.{value-and, value-extended, value-or}
use Rattle.rule_logic.specs.LogicFormulas.{flag_formula, majority_formula, max_formula, min_formula, spread}

-- ---- min and max

pub value-max : (p : ℕ) (vs ts : List Word) → value_of (max_formula p) vs ts [] ≡ max_word (operand vs p) (operand ts p)
value-max p vs ts = refl

pub value-min : (p : ℕ) (vs ts : List Word) → length (operand ts p) ≡ length (operand vs p) → value_of (min_formula p) vs ts [] ≡ min_word (operand vs p) (operand ts p)
value-min p vs ts e = word-same (length (operand vs p)) _ _ (λ i h. ap (λ x. bit (operand vs p) i && x) (bit-word (length (operand ts p)) (λ k. not (bit (operand ts p) k)) i false (omega arith)))

-- ---- one bit

pub value-spread : (f g : Formula) (vs ts : List Word) (high low : Bool) → value_of f vs ts [] ≡ high ∷ [] → value_of g vs ts [] ≡ low ∷ [] → value_of (spread f g) vs ts [] ≡ (high && not low) ∷ []
value-spread f g vs ts high low a b = ap (λ (w : Word). two_word And w (one_word Not (value_of g vs ts []))) a ∙ ap (λ (w : Word). two_word And (high ∷ []) (one_word Not w)) b

pub value-both : (f g : Formula) (vs ts : List Word) (x y : Bool) → value_of f vs ts [] ≡ x ∷ [] → value_of g vs ts [] ≡ y ∷ [] → value_of (Two And f g) vs ts [] ≡ (x && y) ∷ []
value-both f g vs ts x y a b = ap (λ (w : Word). two_word And w (value_of g vs ts [])) a ∙ ap (λ (w : Word). two_word And (x ∷ []) w) b

pub value-either : (f g : Formula) (vs ts : List Word) (x y : Bool) → value_of f vs ts [] ≡ x ∷ [] → value_of g vs ts [] ≡ y ∷ [] → value_of (Two Or f g) vs ts [] ≡ (x || y) ∷ []
value-either f g vs ts x y a b = ap (λ (w : Word). two_word Or w (value_of g vs ts [])) a ∙ ap (λ (w : Word). two_word Or (x ∷ []) w) b

pub value-ones : (f : Formula) (vs ts : List Word) (w : Word) → value_of f vs ts [] ≡ w → value_of (One ReduceAnd f) vs ts [] ≡ is_all_ones w ∷ []
value-ones f vs ts w e = ap (one_word ReduceAnd) e

pub value-some : (f : Formula) (vs ts : List Word) (w : Word) → value_of f vs ts [] ≡ w → value_of (One ReduceOr f) vs ts [] ≡ has_one w ∷ []
value-some f vs ts w e = ap (one_word ReduceOr) e

flag_bit : (b : Bool) (i : ℕ) → extended_bit false i (b ∷ []) ≡ (i == 0 && b)
flag_bit b zero = refl
flag_bit b (suc i) = let later : (suc i == 0) ≡ false = grind (arith, nat_tests) in sym (ap (λ x. x && b) later)

pub value-flag : (n : ℕ) (f : Formula) (vs ts : List Word) (b : Bool) → value_of f vs ts [] ≡ b ∷ [] → value_of (flag_formula n f) vs ts [] ≡ flag_word n b
value-flag n f vs ts b e = value-extended n 1 false f vs ts [] (ap length e) (omega arith) ∙ ap (λ (w : Word). word n (λ i. extended_bit false i w)) e ∙ word-same n _ _ (λ i h. flag_bit b i)

-- ---- majorities

pub value-majority : (n : ℕ) (x y z : ℕ → Bool) (f g h : Formula) (vs ts : List Word) → value_of f vs ts [] ≡ word n x → value_of g vs ts [] ≡ word n y → value_of h vs ts [] ≡ word n z
    → value_of (majority_formula f g h) vs ts [] ≡ word n (λ i. (x i && y i) || (z i && (x i || y i)))
value-majority n x y z f g h vs ts a b c =
    value-or n (λ i. x i && y i) (λ i. z i && (x i || y i)) (Two And f g) (Two And h (Two Or f g)) vs ts []
    (value-and n x y f g vs ts [] a b) (value-and n z (λ i. x i || y i) h (Two Or f g) vs ts [] c (value-or n x y f g vs ts [] a b))
