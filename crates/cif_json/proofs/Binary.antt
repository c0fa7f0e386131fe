-- Numbers read digit by digit, highest first.
use Rattle.std.specs.Prelude.{ℕ, ◌+◌, ◌*◌, ◌^◌, ◌<◌, ◌≤◌, nat_lt, ◌≡◌, ◌==◌, Bool, true, false, not, ◌&&◌, List, [], ◌∷◌, length, drop, get_or, map, Option, Some, None, if◌then◌else◌, refl}
use Rattle.std.specs.List.{list_all}
use Rattle.std.proofs.Common.{ap, sym, ◌∙◌, arith, add-one, drop-cons}
use Rattle.std.proofs.lemmas.Bool.Decides.{nat_tests}
use Rattle.std.proofs.lemmas.Bool.{eqb-true}
use mathlib.Core.List.{reverse_aux}
use Rattle.cif_defs.specs.Words.{bit_value, number}
use Rattle.cif_defs.specs.WordText.{is_no_digit}
use Rattle.cif_defs.specs.RawModule.{below_limit, needed_number}
use Rattle.cif_defs.specs.declared.raw_module.ParamValue.TheVariants.{Text}
use Rattle.cif_json.specs.Top.{binary_digit}

-- the number n, continued by further digits
abbrev digits_after : ℕ → List ℕ → ℕ
digits_after n [] = n
digits_after n (b ∷ bs) = digits_after (bit_value (b == 49) + 2 * n) bs

abbrev are_digits : List ℕ → Bool
are_digits bs = list_all (λ b. not (is_no_digit b)) bs

-- the needed number of n, continued by further bytes
abbrev pub number_after : ℕ → List ℕ → Option ℕ
number_after n bs = if are_digits bs then below_limit (digits_after n bs) else None

number_reversed : (bs done : List ℕ) → number (map (λ b. b == 49) (reverse_aux bs done)) ≡ digits_after (number (map (λ b. b == 49) done)) bs
number_reversed [] done = refl
number_reversed (b ∷ bs) done = number_reversed bs (b ∷ done)

pub number_of_text : (b : ℕ) (bs : List ℕ) → needed_number (Text (b ∷ bs)) ≡ number_after 0 (b ∷ bs)
unfolding needed_number
number_of_text b bs =
    let some : nat_lt 0 (length (b ∷ bs)) ≡ true = grind (arith, nat_tests) in
    rw some (ap (λ n. if are_digits (b ∷ bs) then below_limit n else None) (number_reversed (b ∷ bs) []))

pub number_of_nothing : needed_number (Text []) ≡ None
unfolding needed_number
number_of_nothing = refl

digits_grow : (n : ℕ) (bs : List ℕ) → n ≤ digits_after n bs
digits_grow n [] = omega arith
digits_grow n (b ∷ bs) = omega (arith, digits_grow (bit_value (b == 49) + 2 * n) bs)

too_large : (x : ℕ) → 2 ^ 32 ≤ x → below_limit x ≡ None
too_large x h = grind (arith, nat_tests)

none_either_way : (b : Bool) (o : Option ℕ) → o ≡ None → (if b then o else None) ≡ None
none_either_way true o e = e
none_either_way false o e = refl

pub number_too_large : (n : ℕ) (bs : List ℕ) → 2 ^ 32 ≤ n → number_after n bs ≡ None
number_too_large n bs h = none_either_way (are_digits bs) _ (too_large _ (omega (arith, digits_grow n bs)))

pub number_done : (n : ℕ) → n < 2 ^ 32 → number_after n [] ≡ Some n
number_done n h = grind (arith, nat_tests)

digit_at : (t v : Bool) (n x : ℕ) (bs : List ℕ) → Some x ≡ (if t then None else Some (bit_value v))
    → (if not t && are_digits bs then below_limit (digits_after (bit_value v + 2 * n) bs) else None) ≡ number_after (2 * n + x) bs
digit_at true v n x bs e = absurd (cc)
digit_at false v n x bs e =
    let is : x ≡ bit_value v = (cc) in
    ap (λ m. number_after m bs) (omega arith)

no_digit_at : (t v : Bool) (n : ℕ) (bs : List ℕ) → None ≡ (if t then None else Some (bit_value v))
    → (if not t && are_digits bs then below_limit (digits_after (bit_value v + 2 * n) bs) else None) ≡ None
no_digit_at true v n bs e = refl
no_digit_at false v n bs e = absurd (cc)

drop_next : (text : List ℕ) (i : ℕ) → i < length text → drop i text ≡ get_or text i 0 ∷ drop (i + 1) text
drop_next text i h = rw add-one (drop-cons text i 0 h)

-- one byte, which is a digit
pub next_digit : (text : List ℕ) (i n x : ℕ) → i < length text → Some x ≡ binary_digit (get_or text i 0) → number_after n (drop i text) ≡ number_after (2 * n + x) (drop (i + 1) text)
next_digit text i n x h e =
    let b = get_or text i 0 in
    ap (number_after n) (drop_next text i h) ∙ digit_at (is_no_digit b) (b == 49) n x (drop (i + 1) text) e

-- or isn't
pub no_digit : (text : List ℕ) (i n : ℕ) → i < length text → None ≡ binary_digit (get_or text i 0) → number_after n (drop i text) ≡ None
no_digit text i n h e =
    let b = get_or text i 0 in
    ap (number_after n) (drop_next text i h) ∙ no_digit_at (is_no_digit b) (b == 49) n (drop (i + 1) text) e

-- the text of a needed number, by a test of whether it has a byte
pub number_if_empty : (text : List ℕ) (b : Bool) → b ≡ (length text == 0) → b ≡ true → None ≡ needed_number (Text text)
number_if_empty [] b is e = sym number_of_nothing
number_if_empty (x ∷ xs) b is e = absurd (let none : length (x ∷ xs) ≡ 0 = eqb-true _ _ (sym is ∙ e) in omega arith)

pub number_if_some : (text : List ℕ) (b : Bool) → b ≡ (length text == 0) → b ≡ false → needed_number (Text text) ≡ number_after 0 text
number_if_some [] b is e = absurd (let no : true ≡ false = sym is ∙ e in (cc))
number_if_some (x ∷ xs) b is e = number_of_text x xs
