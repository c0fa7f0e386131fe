-- Words that are the same when extended, and words without a one.
use Rattle.std.specs.Prelude.{ℕ, suc, ◌^◌, ◌<◌, ◌≤◌, ◌≡◌, Bool, true, false, ◌&&◌, if◌then◌else◌, [], ◌∷◌, length, pos, ◌-ℤ◌, refl}
use Rattle.std.specs.Ordering.{int_eq}
use Rattle.std.proofs.Common.{arith, sym, ap, ◌∙◌}
use Rattle.std.proofs.lemmas.Bool.Decides.{Decides-int_eq}
use Rattle.std.proofs.lemmas.Int.{ints}
use Rattle.cif_defs.specs.Meanings.{compared}
use Rattle.cif_defs.specs.Words.{Word, bit, extend, extended_bit, has_one, int_number, number, top, word_of}
use Rattle.cif_defs.proofs.WordLaws.{length-word}
use Rattle.cif_defs.proofs.Exact.{bit-extend}
use Rattle.cif_defs.proofs.Numbers.{word-same}
use Rattle.cif_defs.proofs.WordNumbers.{compared-numbers, int_number-extend, number_below, word_of-number}

-- ---- words are the same where their numbers are

number_same : (x y : Word) → length x ≡ length y → number x ≡ number y → x ≡ y
number_same x y e h = sym (word_of-number (length x) x refl) ∙ ap (λ k. word_of (length x) k) h ∙ word_of-number (length x) y (sym e)

-- p is the power of 2 above both numbers, which the sign takes away
signed_same : (x y p : ℕ) (s t : Bool) → x < p → y < p → pos x -ℤ pos (if s then p else 0) ≡ pos y -ℤ pos (if t then p else 0) → x ≡ y
signed_same x y p true true h k e = omega (arith, ints)
signed_same x y p true false h k e = omega (arith, ints)
signed_same x y p false true h k e = omega (arith, ints)
signed_same x y p false false h k e = omega (arith, ints)

int_same : (signed : Bool) (x y : Word) → length x ≡ length y → int_number signed x ≡ int_number signed y → x ≡ y
int_same signed x y e h =
    let small : number x < 2 ^ length x = number_below x in
    let small_y : number y < 2 ^ length x = (let k : number y < 2 ^ length y = number_below y in let q : 2 ^ length y ≡ 2 ^ length x = ap (λ j. 2 ^ j) (sym e) in omega arith) in
    let of_y : int_number signed y ≡ pos (number y) -ℤ pos (if signed && top y then 2 ^ length x else 0) = ap (λ j. pos (number y) -ℤ pos (if signed && top y then 2 ^ j else 0)) (sym e) in
    number_same x y e (signed_same (number x) (number y) (2 ^ length x) (signed && top x) (signed && top y) small small_y (h ∙ of_y))

equal_extended : (m : ℕ) (signed : Bool) (u w : Word) → length u ≤ m → length w ≤ m → compared int_eq signed u w ≡ int_eq (int_number signed (extend m signed u)) (int_number signed (extend m signed w))
equal_extended m signed u w h k =
    compared-numbers int_eq signed u w
    ∙ sym (ap (λ z. int_eq z (int_number signed (extend m signed w))) (int_number-extend m signed u h) ∙ ap (λ z. int_eq (int_number signed u) z) (int_number-extend m signed w k))

pub same_extended : (m : ℕ) (signed : Bool) (u w : Word) → length u ≤ m → length w ≤ m → compared int_eq signed u w ≡ true → (i : ℕ) → i < m → extended_bit signed i u ≡ extended_bit signed i w
same_extended m signed u w h k e i l =
    let x : Word = extend m signed u in
    let y : Word = extend m signed w in
    let numbers : int_number signed x ≡ int_number signed y = (Decides-int_eq (int_number signed x) (int_number signed y)).0 (sym (equal_extended m signed u w h k) ∙ e) in
    let same : x ≡ y = int_same signed x y (length-word m _ ∙ sym (length-word m _)) numbers in
    sym (bit-extend m signed u i l) ∙ ap (λ (z : Word). bit z i) same ∙ bit-extend m signed w i l

pub extended_same_back : (m : ℕ) (signed : Bool) (u w : Word) → length u ≤ m → length w ≤ m → ((i : ℕ) → i < m → extended_bit signed i u ≡ extended_bit signed i w) → compared int_eq signed u w ≡ true
extended_same_back m signed u w h k e =
    equal_extended m signed u w h k
    ∙ (Decides-int_eq (int_number signed (extend m signed u)) (int_number signed (extend m signed w))).1 (ap (int_number signed) (word-same m _ _ e))

-- ---- whether a word has a one

pub some_one : (w : Word) → has_one w ≡ true → (i : ℕ) × (i < length w) × (bit w i ≡ true)
some_one [] h = absurd (cc)
some_one (true ∷ w) h = (0, omega arith, refl)
some_one (false ∷ w) h = let r = some_one w h in (suc r.0, (let l : r.0 < length w = r.1 in omega arith), r.2)

pub all_clear : (w : Word) → ((i : ℕ) → i < length w → bit w i ≡ false) → has_one w ≡ false
all_clear [] h = refl
all_clear (true ∷ w) h = absurd (let q : true ≡ false = h 0 (omega arith) in cc)
all_clear (false ∷ w) h = all_clear w (λ i l. h (suc i) (omega arith))
