-- The values of cells, from the numbers that code computes.
use Rattle.std.specs.Prelude.{ℕ, ◌-◌, ◌%◌, ◌^◌, ◌<◌, ◌≤◌, ◌≡◌, max, Bool, true, false, not, ◌&&◌, length, ℤ, pos, ◌-ℤ◌, if◌then◌else◌, int_lt, int_le}
use Rattle.std.specs.Ordering.{int_eq}
use Rattle.std.proofs.Common.{arith, sym, ap, ◌∙◌, Decides}
use Rattle.std.proofs.lemmas.Bool.Decides.{Decides-int_eq, same_from_decides}
use Rattle.std.proofs.lemmas.Int.{ints}
use Rattle.std.proofs.lemmas.Nat.{pow_pos}
use Rattle.std.proofs.Math.Nat.{mod-eq_of_lt, mod-lt}
use Rattle.cif_defs.specs.Meanings.{divided}
use Rattle.cif_defs.specs.Words.{Word, digit, extend, int_number, number, word_of}
use Rattle.cif_defs.proofs.WordLaws.{length-word}
use Rattle.cif_defs.proofs.WordNumbers.{compared-numbers, number-word_of}
use Rattle.cif_arith.specs.NumbersOfBits.{division, integer_of, residue}
use Rattle.cif_arith.proofs.Residues.{residue_below}
use Rattle.cif_arith.proofs.Meanings.{compared-less, compared-not_less, integer_of-number, word_of-division}
use Rattle.word_sums.specs.declared.shape.Pair.{Pair}
use Rattle.word_sums.specs.declared.shape.Shape.{Shape}
use Rattle.word_sums.specs.Operands.{compared_of, row_of}

-- the number of a word that it holds
pub number_is : (n x : ℕ) (w : Word) → x < 2 ^ n → word_of n x ≡ w → x ≡ number w
number_is n x w h e = sym (mod-eq_of_lt h) ∙ sym (number-word_of n x) ∙ ap number e

pub cut_fits : (n x r : ℕ) → r ≡ x % 2 ^ n → r < 2 ^ n
cut_fits n x r e = let low : x % 2 ^ n < 2 ^ n = mod-lt x (pow_pos n) in omega arith

held_fits : (m k x : ℕ) → k ≤ m → length (word_of k x) ≤ m
held_fits m k x h = let long : length (word_of k x) ≡ k = length-word k _ in omega arith

-- ---- divisions

pub division_is : (f : ℤ → ℤ → ℤ) (s : Shape) (x : Pair) (m a b r q : ℕ) → s.a ≤ m → s.b ≤ m → s.y ≤ m → a ≡ number (extend m s.signed (word_of s.a x.a)) → b ≡ number (extend m s.signed (word_of s.b x.b))
    → q ≡ division f m s.signed a b → word_of s.y r ≡ word_of s.y q → word_of s.y r ≡ row_of (divided f) s x
division_is f s x m a b r q h k l e g is cut = cut ∙ word_of-division f m s.y s.signed (word_of s.a x.a) (word_of s.b x.b) a b q (held_fits m s.a x.a h) (held_fits m s.b x.b k) l e g is

-- ---- comparisons

pub less_is : (s : Shape) (x : Pair) (m a b : ℕ) (r : Bool) → m ≡ max s.a s.b → a ≡ number (extend m s.signed (word_of s.a x.a)) → b ≡ number (extend m s.signed (word_of s.b x.b))
    → r ≡ int_lt (integer_of m s.signed a) (integer_of m s.signed b) → r ≡ compared_of int_lt s x
unfolding compared_of
less_is s x m a b r w e g is = compared-less m s.signed (word_of s.a x.a) (word_of s.b x.b) a b r (held_fits m s.a x.a (omega arith)) (held_fits m s.b x.b (omega arith)) e g is

pub greater_is : (s : Shape) (x : Pair) (m a b : ℕ) (r : Bool) → m ≡ max s.a s.b → a ≡ number (extend m s.signed (word_of s.a x.a)) → b ≡ number (extend m s.signed (word_of s.b x.b))
    → r ≡ int_lt (integer_of m s.signed b) (integer_of m s.signed a) → not r ≡ compared_of int_le s x
unfolding compared_of
greater_is s x m a b r w e g is = compared-not_less m s.signed (word_of s.a x.a) (word_of s.b x.b) a b r (held_fits m s.a x.a (omega arith)) (held_fits m s.b x.b (omega arith)) e g is

same_number : (n x y : ℕ) (s t : Bool) → x < n → y < n → pos x -ℤ pos (if s then n else 0) ≡ pos y -ℤ pos (if t then n else 0) → x ≡ y
same_number n x y true true h k e = omega (arith, ints)
same_number n x y true false h k e = omega (arith, ints)
same_number n x y false true h k e = omega (arith, ints)
same_number n x y false false h k e = omega (arith, ints)

same_integers : (m : ℕ) (signed : Bool) (a b : ℕ) (r : Bool) → a < 2 ^ m → b < 2 ^ m → Decides r (a ≡ b) → r ≡ int_eq (integer_of m signed a) (integer_of m signed b)
same_integers m signed a b r h k d =
    same_from_decides r (int_eq (integer_of m signed a) (integer_of m signed b))
    (λ t. ap (integer_of m signed) (d.0 t), λ e. d.1 (same_number (2 ^ m) a b (signed && digit a (m - 1)) (signed && digit b (m - 1)) h k e))
    (Decides-int_eq (integer_of m signed a) (integer_of m signed b))

pub equal_is : (s : Shape) (x : Pair) (m a b : ℕ) (r : Bool) → m ≡ max s.a s.b → a ≡ number (extend m s.signed (word_of s.a x.a)) → b ≡ number (extend m s.signed (word_of s.b x.b))
    → a < 2 ^ m → b < 2 ^ m → Decides r (a ≡ b) → r ≡ compared_of int_eq s x
unfolding compared_of
equal_is s x m a b r w e g a_fits b_fits d =
    same_integers m s.signed a b r a_fits b_fits d
    ∙ ap (λ z. int_eq z (integer_of m s.signed b)) (integer_of-number m s.signed (word_of s.a x.a) a (held_fits m s.a x.a (omega arith)) e)
    ∙ ap (λ z. int_eq (int_number s.signed (word_of s.a x.a)) z) (integer_of-number m s.signed (word_of s.b x.b) b (held_fits m s.b x.b (omega arith)) g)
    ∙ sym (compared-numbers int_eq s.signed (word_of s.a x.a) (word_of s.b x.b))

pub residue_fits : (n : ℕ) (z : ℤ) (r : ℕ) → r ≡ residue n z → r < 2 ^ n
residue_fits n z r e = let low : residue n z < 2 ^ n = residue_below n z in omega arith
