-- Words of bitwise operations on numbers, as kinds give them.
use Rattle.std.specs.Prelude.{ℕ, ◌<◌, ◌≡◌, ◌≢◌, Bool, true, false, not, ◌&&◌, ◌||◌, bit_and, bit_or, bit_xor, refl}
use Rattle.std.proofs.Common.{sym, ap, ◌∙◌}
use Rattle.cif_defs.specs.Coarse.{max_word, min_word}
use Rattle.cif_defs.specs.Meanings.{not_word}
use Rattle.cif_defs.specs.Words.{Word, bit, digit, extend, extended_bit, word, word_of, xor}
use Rattle.cif_defs.specs.declared.kinds.Kind.{Kind}
use Rattle.cif_defs.specs.declared.kinds.Kind.TheVariants.{And, LogicAnd, LogicOr, Or, Xnor, Xor}
use Rattle.cif_defs.proofs.Numbers.{word-same}
use Rattle.cif_defs.proofs.WordLaws.{bit-word, length-word}
use Rattle.rule_logic.specs.LogicFormulas.{is_binary}
use Rattle.word_logic.specs.LogicWords.{binary_word, is_bitwise}
use Rattle.word_numbers.proofs.Digits.{bit-held_by, not_word-by, word_of-and, word_of-and_by, word_of-digits, word_of-or, word_of-or_by, word_of-xor, word_of-xor_by}

-- the word of a number by its own bits
pub own_bits : (n x : ℕ) → word_of n x ≡ word n (bit (word_of n x))
own_bits n x = word_of-digits n x _ (λ i h. sym (bit-held_by n x i false h))

-- a word of n bits, by its bits
pub by_bits : (n x : ℕ) (w : Word) → word_of n x ≡ w → word_of n x ≡ word n (bit w)
by_bits n x w e = own_bits n x ∙ ap (λ (v : Word). word n (bit v)) e

-- ---- tainted bits set, and cleared

pub word_of-max : (n v t : ℕ) → word_of n (bit_or v t) ≡ max_word (word_of n v) (word_of n t)
word_of-max n v t =
    word_of-or_by n v t (bit (word_of n v)) (bit (word_of n t)) (own_bits n v) (own_bits n t)
    ∙ ap (λ k. word k (λ i. bit (word_of n v) i || bit (word_of n t) i)) (sym (length-word n (λ i. digit v i)))

pub word_of-min : (n v t c : ℕ) → word_of n c ≡ not_word n false (word_of n t) → word_of n (bit_and v c) ≡ min_word (word_of n v) (word_of n t)
word_of-min n v t c e =
    word_of-and_by n v c (bit (word_of n v)) (λ i. not (bit (word_of n t) i)) (own_bits n v) e
    ∙ ap (λ k. word k (λ i. bit (word_of n v) i && not (bit (word_of n t) i))) (sym (length-word n (λ i. digit v i)))

-- ---- kinds

pub bitwise-and : (k : Kind) (n x y : ℕ) → k ≡ And → word_of n (bit_and x y) ≡ binary_word k n false (word_of n x) (word_of n y)
unfolding binary_word
bitwise-and k n x y e = word_of-and n x y ∙ sym (ap (λ j. binary_word j n false (word_of n x) (word_of n y)) e)

pub bitwise-or : (k : Kind) (n x y : ℕ) → k ≡ Or → word_of n (bit_or x y) ≡ binary_word k n false (word_of n x) (word_of n y)
unfolding binary_word
bitwise-or k n x y e = word_of-or n x y ∙ sym (ap (λ j. binary_word j n false (word_of n x) (word_of n y)) e)

pub bitwise-xor : (k : Kind) (n x y : ℕ) → k ≡ Xor → word_of n (bit_xor x y) ≡ binary_word k n false (word_of n x) (word_of n y)
unfolding binary_word
bitwise-xor k n x y e = word_of-xor n x y ∙ sym (ap (λ j. binary_word j n false (word_of n x) (word_of n y)) e)

pub bitwise-xnor : (k : Kind) (n x y c : ℕ) → k ≡ Xnor → word_of n c ≡ not_word n false (word_of n (bit_xor x y)) → word_of n c ≡ binary_word k n false (word_of n x) (word_of n y)
unfolding binary_word
bitwise-xnor k n x y c e h =
    not_word-by n (bit_xor x y) c (λ i. xor (bit (word_of n x) i) (bit (word_of n y) i)) h (word_of-xor_by n x y (bit (word_of n x)) (bit (word_of n y)) (own_bits n x) (own_bits n y))
    ∙ sym (ap (λ j. binary_word j n false (word_of n x) (word_of n y)) e)

-- a kind with two operands that isn't a logic kind
pub is_bitwise-rest : (k : Kind) → is_binary k ≡ true → k ≢ LogicAnd → k ≢ LogicOr → is_bitwise k ≡ true
is_bitwise-rest And h a b = refl
is_bitwise-rest Or h a b = refl
is_bitwise-rest Xor h a b = refl
is_bitwise-rest Xnor h a b = refl
is_bitwise-rest LogicAnd h a b = absurd (a refl)
is_bitwise-rest LogicOr h a b = absurd (b refl)
is_bitwise-rest _ h a b = absurd (cc)

-- ---- operands that are extended already

pub shown_bit : (n : ℕ) (s : Bool) (a : Word) (i : ℕ) → i < n → bit (extend n s a) i ≡ extended_bit s i a
shown_bit n s a i h = bit-word n (λ j. extended_bit s j a) i false h

pub shown_two : (op : Bool → Bool → Bool) (n : ℕ) (s : Bool) (a b : Word) → word n (λ i. op (bit (extend n s a) i) (bit (extend n s b) i)) ≡ word n (λ i. op (extended_bit s i a) (extended_bit s i b))
shown_two op n s a b = word-same n _ _ (λ i h. ap (λ x. op x (bit (extend n s b) i)) (shown_bit n s a i h) ∙ ap (op (extended_bit s i a)) (shown_bit n s b i h))

shown_by : (k : Kind) (n : ℕ) (s : Bool) (a b : Word) → is_bitwise k ≡ true → binary_word k n false (extend n s a) (extend n s b) ≡ binary_word k n s a b
unfolding binary_word
shown_by And n s a b h = shown_two (λ x y. x && y) n s a b
shown_by Or n s a b h = shown_two (λ x y. x || y) n s a b
shown_by Xor n s a b h = shown_two xor n s a b
shown_by Xnor n s a b h = shown_two (λ x y. not (xor x y)) n s a b
shown_by _ n s a b h = absurd (cc)

pub shown_value : (k : Kind) (n m p : ℕ) (s : Bool) (x y a b r : ℕ) → is_bitwise k ≡ true → word_of n x ≡ extend n s (word_of m a) → word_of n y ≡ extend n s (word_of p b)
    → word_of n r ≡ binary_word k n false (word_of n x) (word_of n y) → word_of n r ≡ binary_word k n s (word_of m a) (word_of p b)
shown_value k n m p s x y a b r h e f g =
    g ∙ ap (λ (w : Word). binary_word k n false w (word_of n y)) e ∙ ap (λ (w : Word). binary_word k n false (extend n s (word_of m a)) w) f ∙ shown_by k n s (word_of m a) (word_of p b) h
