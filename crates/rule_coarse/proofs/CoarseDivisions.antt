-- Divisions that taint every bit or none.
use Rattle.std.specs.Prelude.{ℕ, zero, suc, ◌≡◌, Bool, true, false, not, ◌&&◌, ◌||◌, List, [], ◌∷◌, length, refl}
use Rattle.std.proofs.Common.{arith, ap, ◌∙◌}
use Rattle.cif_defs.specs.Coarse.{division_taint, max_word}
use Rattle.cif_defs.specs.Words.{Word, extend, extended_bit, has_one, operand, word}
use Rattle.cif_defs.specs.Kinds.{is_coarse}
use Rattle.cif_defs.specs.Cells.{Cell, coarse_by, number_of, y_width}
use Rattle.cif_defs.specs.Weights.{weight}
use Rattle.cif_defs.specs.declared.kinds.Param.TheVariants.{AWidth, BWidth}
use Rattle.cif_defs.proofs.Numbers.{word-same}
use Rattle.cif_defs.proofs.WordLaws.{length-word}
use Rattle.cif_term.specs.declared.ops.Op1.TheVariants.{ReduceOr}
use Rattle.cif_term.specs.declared.ops.Op2.TheVariants.{And, Or}
use Rattle.cif_term.specs.Formulas.{Formula, One, Taint, Two, Value, IsFormed, value_of}
use Rattle.cif_term.proofs.FormedFormulas.{formed_taint, formed_value}
use Rattle.cif_term.proofs.Values.{value-extended}
use Rattle.rule_logic.specs.LogicFormulas.{max_formula}
use Rattle.rule_logic.proofs.LogicTaints.{IsRule}
use Rattle.rule_logic.proofs.LogicValues.{value-both, value-either, value-max, value-some}
use Rattle.rule_coarse.specs.CoarseFormulas.{any_taint, division_formula, everywhere, some_divisor}
use Rattle.rule_coarse.proofs.CoarseShapes.{IsNumeric, IsShort, coarse_rule, extended_short, one_bit, one_short, two_short}

-- ---- leaves, over operands of a and b bits

pub leaf_a : (a b : ℕ) (named : List ℕ) → IsShort a → IsFormed (Value 0) (a ∷ b ∷ []) named a 0
leaf_a a b named s = let l = s.limit in formed_value (a ∷ b ∷ []) named 0 a refl s.some (omega arith)

pub leaf_b : (a b : ℕ) (named : List ℕ) → IsShort b → IsFormed (Value 1) (a ∷ b ∷ []) named b 0
leaf_b a b named s = let l = s.limit in formed_value (a ∷ b ∷ []) named 1 b refl s.some (omega arith)

pub leaf_ta : (a b : ℕ) (named : List ℕ) → IsShort a → IsFormed (Taint 0) (a ∷ b ∷ []) named a 0
leaf_ta a b named s = let l = s.limit in formed_taint (a ∷ b ∷ []) named 0 a refl s.some (omega arith)

pub leaf_tb : (a b : ℕ) (named : List ℕ) → IsShort b → IsFormed (Taint 1) (a ∷ b ∷ []) named b 0
leaf_tb a b named s = let l = s.limit in formed_taint (a ∷ b ∷ []) named 1 b refl s.some (omega arith)

-- ---- one bit everywhere

pub formed_everywhere : {f : Formula} {ws : List ℕ} {k : ℕ} (n : ℕ) → IsShort n → IsFormed f ws [] 1 k → IsFormed (everywhere n f) ws [] n k
formed_everywhere n y h = extended_short n 1 true y one_bit h

same_bit : (b : Bool) (i : ℕ) → extended_bit true i (b ∷ []) ≡ b
same_bit b zero = refl
same_bit b (suc i) = refl

pub value-everywhere : (n : ℕ) (f : Formula) (vs ts : List Word) (b : Bool) → value_of f vs ts [] ≡ b ∷ [] → value_of (everywhere n f) vs ts [] ≡ word n (λ i. b)
value-everywhere n f vs ts b e = value-extended n 1 true f vs ts [] (ap length e) (omega arith) ∙ ap (extend n true) e ∙ word-same n _ _ (λ i h. same_bit b i)

-- ---- division_formula

formed_any : (a b : ℕ) → IsShort a → IsShort b → IsFormed any_taint (a ∷ b ∷ []) [] 1 3
formed_any a b x y = two_short Or 3 one_bit (one_short ReduceOr 1 x (leaf_ta a b [] x) (omega arith)) (one_short ReduceOr 1 y (leaf_tb a b [] y) (omega arith)) (omega arith)

formed_divisor : (a b : ℕ) → IsShort b → IsFormed some_divisor (a ∷ b ∷ []) [] 1 2
formed_divisor a b y = one_short ReduceOr 2 y (two_short Or 1 y (leaf_b a b [] y) (leaf_tb a b [] y) (omega arith)) (omega arith)

pub formed_division : (n a b : ℕ) → IsShort n → IsShort a → IsShort b → IsFormed (division_formula n) (a ∷ b ∷ []) [] n 6
formed_division n a b y u v = formed_everywhere n y (two_short And 6 one_bit (formed_any a b u v) (formed_divisor a b v) (omega arith))

-- whether any bit is tainted and the divisor can be other than 0
abbrev pub divides : Word → Word → Word → Bool
divides x w z = (has_one x || has_one z) && has_one (max_word w z)

pub value-division : (n : ℕ) (v w x z : Word) → value_of (division_formula n) (v ∷ w ∷ []) (x ∷ z ∷ []) [] ≡ word n (λ i. divides x w z)
value-division n v w x z =
    let vs : List Word = v ∷ w ∷ [] in
    let ts : List Word = x ∷ z ∷ [] in
    value-everywhere n (Two And any_taint some_divisor) vs ts (divides x w z)
    (value-both any_taint some_divisor vs ts (has_one x || has_one z) (has_one (max_word w z))
    (value-either (One ReduceOr (Taint 0)) (One ReduceOr (Taint 1)) vs ts (has_one x) (has_one z) (value-some (Taint 0) vs ts x refl) (value-some (Taint 1) vs ts z refl))
    (value-some (max_formula 1) vs ts (max_word w z) (value-max 1 vs ts)))

pub twice_not : (b : Bool) → b ≡ not (not b)
twice_not true = refl
twice_not false = refl

division_word : (n : ℕ) (x w z : Word) → word n (λ i. divides x w z) ≡ division_taint n x w z
division_word n x w z = ap (λ b. word n (λ i. (has_one x || has_one z) && b)) (twice_not (has_one (max_word w z)))

-- the row of the kinds that taint every bit or none
abbrev pub division_row : Cell → List Word → List Word → Word
division_row c vs ts = division_taint (y_width c) (operand ts 0) (operand vs 1) (operand ts 1)

pub division_rule : (c : Cell) → IsNumeric c → weight c ≡ 80 → is_coarse c.kind ≡ true → ((vs ts : List Word) → coarse_by c.kind c vs ts ≡ division_row c vs ts) → IsRule c (division_formula (y_width c))
division_rule c u weighs coarse is =
    coarse_rule c (division_formula (y_width c)) 6 (division_row c) u (formed_division (y_width c) (number_of c AWidth) (number_of c BWidth) u.y u.a u.b) (omega arith) coarse is
    (λ vs ts. length-word (y_width c) _)
    (λ v w x z p q r s. value-division (y_width c) v w x z ∙ division_word (y_width c) x w z)
