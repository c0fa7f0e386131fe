-- Numbers of words that are as wide as an operation already.
use Rattle.std.proofs.Common.{◌≡◌, ◌∙◌, ◌↔◌, IsTrue, Decides, ℕ, ℤ, Bool, false, length, ap, sym, arith}
use Rattle.std.specs.Ordering.{int_eq}
use Rattle.std.proofs.lemmas.Bool.Decides.{same_from_decides, Decides-int_eq}
use Rattle.std.proofs.lemmas.Int.{ints}
use Rattle.cif_defs.specs.Words.{Word, extend, number, int_number, word_of}
use Rattle.cif_defs.specs.Meanings.{compared}
use Rattle.cif_defs.proofs.WordNumbers.{extend-same, word_of-number, compared-numbers}

-- x is the number of a word of n bits
pub number_extended : (n : ℕ) (signed : Bool) (w : Word) (x : ℕ) → length w ≡ n → x ≡ number w → x ≡ number (extend n signed w)
number_extended n signed w x h e = cc (ap number (extend-same n signed w h))

-- words of one width are the same where their numbers are
same_by_number : (a b : Word) → length b ≡ length a → int_number false a ≡ int_number false b → a ≡ b
same_by_number a b h e =
    let same : number a ≡ number b = omega (arith, ints) in
    sym (word_of-number (length a) a (omega arith)) ∙ ap (λ k. word_of (length a) k) same ∙ word_of-number (length a) b h

pub compared-equal : (r : Bool) (a b : Word) → length b ≡ length a → (IsTrue r ↔ (a ≡ b)) → r ≡ compared int_eq false a b
compared-equal r a b h told =
    let x : ℤ = int_number false a in
    let y : ℤ = int_number false b in
    let test = Decides-int_eq x y in
    let numbers : Decides (int_eq x y) (a ≡ b) = (λ t. same_by_number a b h (test.0 t), λ e. test.1 (ap (λ w. int_number false w) e)) in
    same_from_decides r (int_eq x y) told numbers ∙ sym (compared-numbers int_eq false a b)
