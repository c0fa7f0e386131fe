-- Taints of bitwise kinds on numbers.
use Rattle.std.specs.Prelude.{ℕ, ◌≤◌, ◌<◌, ◌≡◌, ◌-◌, ◌^◌, Bool, true, false, not, ◌&&◌, ◌||◌, bit_and, bit_or}
use Rattle.std.proofs.Common.{sym, ap, ◌∙◌}
use Rattle.std.proofs.lemmas.Nat.{or_lt}
use Rattle.cif_defs.specs.Words.{Word, bit, extend, extended_bit, word, word_of}
use Rattle.cif_defs.specs.declared.kinds.Kind.{Kind}
use Rattle.cif_defs.specs.declared.kinds.Kind.TheVariants.{And, Or, Xnor, Xor}
use Rattle.cif_defs.proofs.Numbers.{word-same}
use Rattle.word_logic.specs.LogicWords.{binary_taint, is_bitwise, shown_by_and, shown_by_or}
use Rattle.word_numbers.proofs.Digits.{and_lt, word_of-and_by, word_of-or, word_of-or_by}
use Rattle.word_numbers.proofs.MaskLaws.{word_of-not}
use Rattle.word_logic.proofs.Bitwise.{own_bits, shown_bit, shown_two}

-- both tainted, or either tainted where the other is given by y or x
pub word_of-shown : (n x tx y ty : ℕ) (f g : ℕ → Bool) → word_of n x ≡ word n f → word_of n y ≡ word n g
    → word_of n (bit_or (bit_and tx ty) (bit_or (bit_and tx y) (bit_and ty x))) ≡ word n (λ i. (bit (word_of n tx) i && bit (word_of n ty) i) || ((bit (word_of n tx) i && g i) || (bit (word_of n ty) i && f i)))
word_of-shown n x tx y ty f g p q =
    let t : ℕ → Bool = bit (word_of n tx) in
    let u : ℕ → Bool = bit (word_of n ty) in
    word_of-or_by n (bit_and tx ty) (bit_or (bit_and tx y) (bit_and ty x)) (λ i. t i && u i) (λ i. (t i && g i) || (u i && f i))
    (word_of-and_by n tx ty t u (own_bits n tx) (own_bits n ty))
    (word_of-or_by n (bit_and tx y) (bit_and ty x) (λ i. t i && g i) (λ i. u i && f i)
    (word_of-and_by n tx y t g (own_bits n tx) q) (word_of-and_by n ty x u f (own_bits n ty) p))

pub taint-and : (k : Kind) (n x tx y ty : ℕ) → k ≡ And
    → word_of n (bit_or (bit_and tx ty) (bit_or (bit_and tx y) (bit_and ty x))) ≡ binary_taint k n false (word_of n x) (word_of n tx) (word_of n y) (word_of n ty)
unfolding binary_taint
taint-and k n x tx y ty e = word_of-shown n x tx y ty (bit (word_of n x)) (bit (word_of n y)) (own_bits n x) (own_bits n y)
    ∙ sym (ap (λ j. binary_taint j n false (word_of n x) (word_of n tx) (word_of n y) (word_of n ty)) e)

pub taint-or : (k : Kind) (n x tx y ty : ℕ) → k ≡ Or → n ≤ 128 → x < 2 ^ 128 → y < 2 ^ 128
    → word_of n (bit_or (bit_and tx ty) (bit_or (bit_and tx (2 ^ 128 - 1 - y)) (bit_and ty (2 ^ 128 - 1 - x)))) ≡ binary_taint k n false (word_of n x) (word_of n tx) (word_of n y) (word_of n ty)
unfolding binary_taint
taint-or k n x tx y ty e l h m =
    word_of-shown n (2 ^ 128 - 1 - x) tx (2 ^ 128 - 1 - y) ty (λ i. not (bit (word_of n x) i)) (λ i. not (bit (word_of n y) i)) (word_of-not n x l h) (word_of-not n y l m)
    ∙ sym (ap (λ j. binary_taint j n false (word_of n x) (word_of n tx) (word_of n y) (word_of n ty)) e)

abbrev pub is_exclusive : Kind → Bool
is_exclusive Xor = true
is_exclusive Xnor = true
is_exclusive _ = false

pub taint-exclusive : (k : Kind) (n x tx y ty : ℕ) → is_exclusive k ≡ true → word_of n (bit_or tx ty) ≡ binary_taint k n false (word_of n x) (word_of n tx) (word_of n y) (word_of n ty)
unfolding binary_taint
taint-exclusive Xor n x tx y ty e = word_of-or n tx ty
taint-exclusive Xnor n x tx y ty e = word_of-or n tx ty
taint-exclusive _ n x tx y ty e = absurd (cc)

pub shown-fits : (n x tx y ty : ℕ) → tx < 2 ^ n → ty < 2 ^ n → bit_or (bit_and tx ty) (bit_or (bit_and tx y) (bit_and ty x)) < 2 ^ n
shown-fits n x tx y ty h l = or_lt n _ _ (and_lt n tx ty h) (or_lt n _ _ (and_lt n tx y h) (and_lt n ty x l))

-- ---- operands that are extended already

shown_four : (op : Bool → Bool → Bool → Bool → Bool) (n : ℕ) (s : Bool) (a t b u : Word)
    → word n (λ i. op (bit (extend n s a) i) (bit (extend n s t) i) (bit (extend n s b) i) (bit (extend n s u) i)) ≡ word n (λ i. op (extended_bit s i a) (extended_bit s i t) (extended_bit s i b) (extended_bit s i u))
shown_four op n s a t b u = word-same n _ _ (λ i h.
    ap (λ x. op x (bit (extend n s t) i) (bit (extend n s b) i) (bit (extend n s u) i)) (shown_bit n s a i h)
    ∙ ap (λ x. op (extended_bit s i a) x (bit (extend n s b) i) (bit (extend n s u) i)) (shown_bit n s t i h)
    ∙ ap (λ x. op (extended_bit s i a) (extended_bit s i t) x (bit (extend n s u) i)) (shown_bit n s b i h)
    ∙ ap (λ x. op (extended_bit s i a) (extended_bit s i t) (extended_bit s i b) x) (shown_bit n s u i h))

shown_by : (k : Kind) (n : ℕ) (s : Bool) (a t b u : Word) → is_bitwise k ≡ true → binary_taint k n false (extend n s a) (extend n s t) (extend n s b) (extend n s u) ≡ binary_taint k n s a t b u
unfolding binary_taint
shown_by And n s a t b u h = shown_four shown_by_and n s a t b u
shown_by Or n s a t b u h = shown_four shown_by_or n s a t b u
shown_by Xor n s a t b u h = shown_two (λ x y. x || y) n s t u
shown_by Xnor n s a t b u h = shown_two (λ x y. x || y) n s t u
shown_by _ n s a t b u h = absurd (cc)

-- the words of four numbers are those of the operands and taints, extended
pub record AreShown (n m p : ℕ) (s : Bool) (x tx y ty a t b u : ℕ) : Type 0 where
  pub x_word : word_of n x ≡ extend n s (word_of m a)
  pub tx_word : word_of n tx ≡ extend n s (word_of m t)
  pub y_word : word_of n y ≡ extend n s (word_of p b)
  pub ty_word : word_of n ty ≡ extend n s (word_of p u)

pub shown_taint : (k : Kind) (n m p : ℕ) (s : Bool) (x tx y ty a t b u r : ℕ) → is_bitwise k ≡ true → AreShown n m p s x tx y ty a t b u
    → word_of n r ≡ binary_taint k n false (word_of n x) (word_of n tx) (word_of n y) (word_of n ty)
    → word_of n r ≡ binary_taint k n s (word_of m a) (word_of m t) (word_of p b) (word_of p u)
shown_taint k n m p s x tx y ty a t b u r h e g =
    g ∙ ap (λ (w : Word). binary_taint k n false w (word_of n tx) (word_of n y) (word_of n ty)) e.x_word
    ∙ ap (λ (w : Word). binary_taint k n false (extend n s (word_of m a)) w (word_of n y) (word_of n ty)) e.tx_word
    ∙ ap (λ (w : Word). binary_taint k n false (extend n s (word_of m a)) (extend n s (word_of m t)) w (word_of n ty)) e.y_word
    ∙ ap (λ (w : Word). binary_taint k n false (extend n s (word_of m a)) (extend n s (word_of m t)) (extend n s (word_of p b)) w) e.ty_word
    ∙ shown_by k n s (word_of m a) (word_of m t) (word_of p b) (word_of p u) h
