-- The words that cells on numbers give, from the steps of the code.
use Rattle.std.specs.Prelude.{ℕ, zero, suc, ◌<◌, ◌≡◌, ◌==◌, ◌&&◌, ◌↔◌, IsTrue, IfOk, Result, Bool, true, false, max, length, slice_set, pos, ◌-ℤ◌, if◌then◌else◌, ◌^◌}
use Rattle.std.specs.Ordering.{int_eq}
use Rattle.std.proofs.Common.{arith, sym, ap, ◌∙◌, Decides}
use Rattle.std.proofs.lemmas.Bool.Decides.{Decides-int_eq, nat_tests, same_from_decides}
use Rattle.std.proofs.lemmas.Int.{ints}
use Rattle.std.proofs.lemmas.List.{get_or-set_same, get_or-set_other, length-set}
use Rattle.std.proofs.lemmas.Result.{IfOk-weaker}
use Rattle.cif_defs.specs.Words.{Word, bit, extend, flag_word, int_number, number, top, word_of, zeros}
use Rattle.cif_defs.specs.Meanings.{compared}
use Rattle.cif_defs.proofs.WordLaws.{bit-word, length-word, same_words}
use Rattle.cif_defs.proofs.WordNumbers.{word_of-number, number_below}

-- what a last call gives, in other words
pub gives : {X E : Type 0} (r : Result X E) (x y : X) → IfOk r (λ z. z ≡ x) → x ≡ y → IfOk r (λ z. z ≡ y)
gives r x y made e = IfOk-weaker r (λ z. z ≡ x) (λ z. z ≡ y) (λ z h. h ∙ e) made

-- ---- a flag

above : (i : ℕ) (b : Bool) → false ≡ (suc i == 0 && b)
above i b = let t : (suc i == 0) ≡ false = grind (arith, nat_tests) in sym (ap (λ x. x && b) t)

flag_bit : (n i : ℕ) (b : Bool) → i < n → bit (slice_set (zeros n) 0 b) i ≡ (i == 0 && b)
flag_bit n zero b h = get_or-set_same (zeros n) 0 b false (omega (arith, length-word n (λ k. false)))
flag_bit n (suc i) b h = get_or-set_other (zeros n) 0 (suc i) b false (omega arith) ∙ bit-word n (λ k. false) (suc i) false h ∙ above i b

pub flag_is : (n : ℕ) (b : Bool) → slice_set (zeros n) 0 b ≡ flag_word n b
flag_is n b =
    let long : length (slice_set (zeros n) 0 b) ≡ n = length-set (zeros n) 0 b ∙ length-word n (λ k. false) in
    same_words _ _ (long ∙ sym (length-word n (λ i. i == 0 && b)))
    (λ i l. let k : i < n = omega arith in flag_bit n i b k ∙ sym (bit-word n (λ i. i == 0 && b) i false k))

-- ---- equality: two words of one width are the same where they stand for the same integer

same_number : (n x y : ℕ) (s t : Bool) → x < n → y < n → pos x -ℤ pos (if s then n else 0) ≡ pos y -ℤ pos (if t then n else 0) → x ≡ y
same_number n x y true true h k e = omega (arith, ints)
same_number n x y true false h k e = omega (arith, ints)
same_number n x y false true h k e = omega (arith, ints)
same_number n x y false false h k e = omega (arith, ints)

number_fits : (n : ℕ) (u : Word) → length u ≡ n → number u < 2 ^ n
number_fits n u h = let below : number u < 2 ^ length u = number_below u in let same : 2 ^ length u ≡ 2 ^ n = ap (λ k. 2 ^ k) h in omega arith

value_at : (n : ℕ) (signed : Bool) (u : Word) → length u ≡ n → int_number signed u ≡ pos (number u) -ℤ pos (if signed && top u then 2 ^ n else 0)
value_at n signed u h = ap (λ k. pos (number u) -ℤ pos (if signed && top u then 2 ^ k else 0)) h

same_word : (n : ℕ) (signed : Bool) (u v : Word) → length u ≡ n → length v ≡ n → int_number signed u ≡ int_number signed v → u ≡ v
same_word n signed u v h k e =
    let same : number u ≡ number v = same_number (2 ^ n) (number u) (number v) (signed && top u) (signed && top v) (number_fits n u h) (number_fits n v k)
    (sym (value_at n signed u h) ∙ e ∙ value_at n signed v k) in
    sym (word_of-number n u h) ∙ ap (word_of n) same ∙ word_of-number n v k

equal_words : (n : ℕ) (signed : Bool) (u v : Word) (r : Bool) → length u ≡ n → length v ≡ n → (IsTrue r ↔ (u ≡ v)) → r ≡ int_eq (int_number signed u) (int_number signed v)
equal_words n signed u v r h k d =
    let one : Decides r (int_number signed u ≡ int_number signed v) = (λ t. ap (int_number signed) (d.0 t), λ e. d.1 (same_word n signed u v h k e)) in
    same_from_decides r (int_eq (int_number signed u) (int_number signed v)) one (Decides-int_eq (int_number signed u) (int_number signed v))

pub equal_is : (m : ℕ) (signed : Bool) (u v a b : Word) (r : Bool) → m ≡ max (length u) (length v) → a ≡ extend m signed u → b ≡ extend m signed v
    → (IsTrue r ↔ (a ≡ b)) → r ≡ compared int_eq signed u v
equal_is m signed u v a b r w e f h =
    equal_words m signed a b r (ap length e ∙ length-word m _) (ap length f ∙ length-word m _) h
    ∙ ap (λ x. int_eq (int_number signed x) (int_number signed b)) e
    ∙ ap (λ y. int_eq (int_number signed (extend m signed u)) (int_number signed y)) f
    ∙ ap (λ k. int_eq (int_number signed (extend k signed u)) (int_number signed (extend k signed v))) w
