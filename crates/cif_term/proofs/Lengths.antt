-- What the width of a formula says of its parts and of its value.
use Rattle.std.specs.Prelude.{ℕ, zero, suc, ◌+◌, ◌≤◌, ◌==◌, ◌≡◌, nat_le, Bool, true, false, not, ◌&&◌, List, [], ◌∷◌, map, length, get_or, slice_get, Option, Some, None, option_and_then, if◌then◌else◌, IsTrue, refl}
use Rattle.std.proofs.Common.{arith, ap, sym, ◌∙◌, cond, length-append}
use Rattle.std.proofs.lemmas.Bool.Decides.{nat_tests}
use Rattle.std.proofs.lemmas.List.{length-map}
use Rattle.cif_defs.specs.Words.{Word, bit}
use Rattle.cif_defs.proofs.WordLaws.{length-word}
use Rattle.cif_term.specs.declared.ops.Op1.{Op1}
use Rattle.cif_term.specs.declared.ops.Op1.TheVariants.{Not, ReduceAnd, ReduceOr, ReduceXor}
use Rattle.cif_term.specs.declared.ops.Op2.{Op2}
use Rattle.cif_term.specs.declared.ops.Op2.TheVariants.{And, Or, Xor, Add, Mul, Div, LessUnsigned, LessSigned, Equal}
use Rattle.cif_term.specs.Formulas.{Formula, Value, Taint, Const, Bound, Pick, Join, One, Two, Choose, Let, sized, sized_option, is_on_numbers, one_width, two_width, pick_width, join_width, one_width_option, same_width, two_width_option, choose_width, width_of, one_word, two_word, value_of}

-- ---- where a part has a width

abbrev pub InRange : ℕ → Type 0
InRange n = (1 ≤ n) × (n ≤ 65536)

sized_test : (m n : ℕ) (t : Bool) → (nat_le 1 m && nat_le m 65536) ≡ t → cond t (Some m) None ≡ Some n → (m ≡ n) × InRange n
sized_test m n true e h = let same : m ≡ n = (cc) in (same, grind (arith, nat_tests))
sized_test m n false e h = absurd (cc)

pub sized_some : (m n : ℕ) → sized m ≡ Some n → (m ≡ n) × InRange n
sized_some m n h = sized_test m n _ refl h

pub sized_option_some : (o : Option ℕ) (n : ℕ) → sized_option o ≡ Some n → (o ≡ Some n) × InRange n
sized_option_some None n h = absurd (cc)
sized_option_some (Some m) n h = let r = sized_some m n h in (ap (λ (x : ℕ). Some x) r.0, r.1)

pick_test : (places : List ℕ) (n : ℕ) (t : Bool) → cond t (sized (length places)) None ≡ Some n → (length places ≡ n) × InRange n
pick_test places n true h = sized_some (length places) n h
pick_test places n false h = absurd (cc)

pub pick_some : (places : List ℕ) (o : Option ℕ) (n : ℕ) → pick_width places o ≡ Some n → (m : ℕ) × (o ≡ Some m) × (length places ≡ n) × InRange n
pick_some places None n h = absurd (cc)
pick_some places (Some m) n h = let r = pick_test places n _ h in (m, refl, r.0, r.1)

pub join_some : (a b : Option ℕ) (k : ℕ) → join_width a b ≡ Some k → (m : ℕ) × (n : ℕ) × (a ≡ Some m) × (b ≡ Some n) × (m + n ≡ k) × InRange k
join_some None b k h = absurd (cc)
join_some (Some m) None k h = absurd (cc)
join_some (Some m) (Some n) k h = let r = sized_some (m + n) k h in (m, n, refl, refl, r.0, r.1)

pub one_some : (op : Op1) (o : Option ℕ) (n : ℕ) → one_width_option op o ≡ Some n → (m : ℕ) × (o ≡ Some m) × (one_width op m ≡ n)
one_some op None n h = absurd (cc)
one_some op (Some m) n h = (m, refl, (cc))

same_test : (m n k : ℕ) (t : Bool) → (m == n) ≡ t → cond t (Some m) None ≡ Some k → (m ≡ k) × (n ≡ k)
same_test m n k true e h = let x : m ≡ k = (cc) in let y : m ≡ n = grind (arith, nat_tests) in (x, sym y ∙ x)
same_test m n k false e h = absurd (cc)

pub same_some : (a b : Option ℕ) (k : ℕ) → same_width a b ≡ Some k → (a ≡ Some k) × (b ≡ Some k)
same_some None b k h = absurd (cc)
same_some (Some m) None k h = absurd (cc)
same_some (Some m) (Some n) k h = let r = same_test m n k _ refl h in (ap (λ (x : ℕ). Some x) r.0, ap (λ (x : ℕ). Some x) r.1)

numbers_test : (b : Bool) (m : ℕ) (k : Option ℕ) (n : ℕ) → (if b && not (nat_le m 128) then None else k) ≡ Some n → (k ≡ Some n) × (IsTrue b → m ≤ 128)
numbers_test false m k n h = (h, λ e. absurd (cc))
numbers_test true m k n h = numbers_limit m k n _ refl h
  where
    numbers_limit : (m : ℕ) (k : Option ℕ) (n : ℕ) (t : Bool) → nat_le m 128 ≡ t → cond (not t) None k ≡ Some n → (k ≡ Some n) × (IsTrue true → m ≤ 128)
    numbers_limit m k n true e h = (h, λ _. grind (arith, nat_tests))
    numbers_limit m k n false e h = absurd (cc)

pub two_some : (op : Op2) (o : Option ℕ) (n : ℕ) → two_width_option op o ≡ Some n → (m : ℕ) × (o ≡ Some m) × (two_width op m ≡ n) × (IsTrue (is_on_numbers op) → m ≤ 128)
two_some op None n h = absurd (cc)
two_some op (Some m) n h = let r = numbers_test (is_on_numbers op) m (Some (two_width op m)) n h in (m, refl, (cc r.0), r.1)

choose_test : (m n : ℕ) (b : Option ℕ) (t : Bool) → (m == 1) ≡ t → cond t b None ≡ Some n → (m ≡ 1) × (b ≡ Some n)
choose_test m n b true e h = (grind (arith, nat_tests), h)
choose_test m n b false e h = absurd (cc)

pub choose_some : (a b : Option ℕ) (n : ℕ) → choose_width a b ≡ Some n → (a ≡ Some 1) × (b ≡ Some n)
choose_some None b n h = absurd (cc)
choose_some (Some m) b n h = let r = choose_test m n b _ refl h in (ap (λ (x : ℕ). Some x) r.0, r.1)

pub let_some : (a : Option ℕ) (f : ℕ → Option ℕ) (k : ℕ) → option_and_then f a ≡ Some k → (m : ℕ) × (a ≡ Some m) × (f m ≡ Some k)
let_some None f k h = absurd (cc)
let_some (Some m) f k h = (m, refl, h)

-- ---- widths are 1 to 65,536

one_range : (op : Op1) (m : ℕ) → InRange m → InRange (one_width op m)
one_range Not m h = h
one_range ReduceAnd m h = (omega arith, omega arith)
one_range ReduceOr m h = (omega arith, omega arith)
one_range ReduceXor m h = (omega arith, omega arith)

two_range : (op : Op2) (m : ℕ) → InRange m → InRange (two_width op m)
two_range LessUnsigned m h = (omega arith, omega arith)
two_range LessSigned m h = (omega arith, omega arith)
two_range Equal m h = (omega arith, omega arith)
two_range And m h = h
two_range Or m h = h
two_range Xor m h = h
two_range Add m h = h
two_range Mul m h = h
two_range Div m h = h

along : (m n : ℕ) → m ≡ n → InRange m → InRange n
along m n e h = (omega arith, omega arith)

pub width_range : (f : Formula) (ws named : List ℕ) (n : ℕ) → width_of f ws named ≡ Some n → InRange n
width_range (Value p) ws named n h = (sized_option_some (slice_get ws p) n h).1
width_range (Taint p) ws named n h = (sized_option_some (slice_get ws p) n h).1
width_range (Const w) ws named n h = (sized_some (length w) n h).1
width_range (Bound i) ws named n h = (sized_option_some (slice_get named i) n h).1
width_range (Pick f places) ws named n h = (pick_some places (width_of f ws named) n h).3
width_range (Join f g) ws named n h = (join_some (width_of f ws named) (width_of g ws named) n h).5
width_range (One op f) ws named n h =
    let r = one_some op (width_of f ws named) n h in
    along (one_width op r.0) n r.2 (one_range op r.0 (width_range f ws named r.0 r.1))
width_range (Two op f g) ws named n h =
    let r = two_some op (same_width (width_of f ws named) (width_of g ws named)) n h in
    along (two_width op r.0) n r.2 (two_range op r.0 (width_range f ws named r.0 (same_some (width_of f ws named) (width_of g ws named) r.0 r.1).0))
width_range (Choose s f g) ws named n h =
    let r = choose_some (width_of s ws named) (same_width (width_of f ws named) (width_of g ws named)) n h in
    width_range f ws named n (same_some (width_of f ws named) (width_of g ws named) n r.1).0
width_range (Let f g) ws named n h =
    let r = let_some (width_of f ws named) (λ m. width_of g ws (m ∷ named)) n h in
    width_range g ws (r.0 ∷ named) n r.2

-- ---- a value is as long as its formula is wide

place_long : (vs : List Word) (i n : ℕ) → slice_get (map length vs) i ≡ Some n → length (get_or vs i []) ≡ n
place_long [] i n e = absurd (cc)
place_long (v ∷ vs) zero n e = cc
place_long (v ∷ vs) (suc i) n e = place_long vs i n e

one_long : (op : Op1) (a : Word) (m : ℕ) → length a ≡ m → length (one_word op a) ≡ one_width op m
one_long Not a m h = length-word _ _ ∙ h
one_long ReduceAnd a m h = refl
one_long ReduceOr a m h = refl
one_long ReduceXor a m h = refl

two_long : (op : Op2) (a b : Word) (m : ℕ) → length a ≡ m → length (two_word op a b) ≡ two_width op m
two_long And a b m h = length-word _ _ ∙ h
two_long Or a b m h = length-word _ _ ∙ h
two_long Xor a b m h = length-word _ _ ∙ h
two_long Add a b m h = length-word _ _ ∙ h
two_long Mul a b m h = length-word _ _ ∙ h
two_long Div a b m h = length-word _ _ ∙ h
two_long LessUnsigned a b m h = refl
two_long LessSigned a b m h = refl
two_long Equal a b m h = refl

either_long : (t : Bool) (x y : Word) (n : ℕ) → length x ≡ n → length y ≡ n → length (cond t x y) ≡ n
either_long true x y n e f = e
either_long false x y n e f = f

pub length-value : (f : Formula) (vs ts named : List Word) (n : ℕ) → map length ts ≡ map length vs → width_of f (map length vs) (map length named) ≡ Some n → length (value_of f vs ts named) ≡ n
length-value (Value p) vs ts named n e h = place_long vs p n (sized_option_some (slice_get (map length vs) p) n h).0
length-value (Taint p) vs ts named n e h = place_long ts p n (ap (λ (ws : List ℕ). slice_get ws p) e ∙ (sized_option_some (slice_get (map length vs) p) n h).0)
length-value (Const w) vs ts named n e h = (sized_some (length w) n h).0
length-value (Bound i) vs ts named n e h = place_long named i n (sized_option_some (slice_get (map length named) i) n h).0
length-value (Pick f places) vs ts named n e h = length-map places _ ∙ (pick_some places (width_of f (map length vs) (map length named)) n h).2
length-value (Join f g) vs ts named n e h =
    let r = join_some (width_of f (map length vs) (map length named)) (width_of g (map length vs) (map length named)) n h in
    let low : length (value_of f vs ts named) ≡ r.0 = length-value f vs ts named r.0 e r.2 in
    let high : length (value_of g vs ts named) ≡ r.1 = length-value g vs ts named r.1 e r.3 in
    let both : r.0 + r.1 ≡ n = r.4 in
    omega (arith, length-append (value_of f vs ts named) (value_of g vs ts named))
length-value (One op f) vs ts named n e h =
    let r = one_some op (width_of f (map length vs) (map length named)) n h in
    one_long op (value_of f vs ts named) r.0 (length-value f vs ts named r.0 e r.1) ∙ r.2
length-value (Two op f g) vs ts named n e h =
    let r = two_some op (same_width (width_of f (map length vs) (map length named)) (width_of g (map length vs) (map length named))) n h in
    let both = same_some (width_of f (map length vs) (map length named)) (width_of g (map length vs) (map length named)) r.0 r.1 in
    two_long op (value_of f vs ts named) (value_of g vs ts named) r.0 (length-value f vs ts named r.0 e both.0) ∙ r.2
length-value (Choose s f g) vs ts named n e h =
    let r = choose_some (width_of s (map length vs) (map length named)) (same_width (width_of f (map length vs) (map length named)) (width_of g (map length vs) (map length named))) n h in
    let both = same_some (width_of f (map length vs) (map length named)) (width_of g (map length vs) (map length named)) n r.1 in
    either_long (bit (value_of s vs ts named) 0) (value_of g vs ts named) (value_of f vs ts named) n (length-value g vs ts named n e both.1) (length-value f vs ts named n e both.0)
length-value (Let f g) vs ts named n e h =
    let r = let_some (width_of f (map length vs) (map length named)) (λ m. width_of g (map length vs) (m ∷ map length named)) n h in
    let first : length (value_of f vs ts named) ≡ r.0 = length-value f vs ts named r.0 e r.1 in
    length-value g vs ts (value_of f vs ts named ∷ named) n e (ap (λ m. width_of g (map length vs) (m ∷ map length named)) first ∙ r.2)
