-- Digits of masks: whether one among the lowest is 1, or 0.
use Rattle.std.specs.Prelude.{ℕ, zero, suc, ◌+◌, ◌<◌, ◌≤◌, ◌≡◌, min, nat_lt, Bool, true, false, not, ◌&&◌, ◌||◌, [], ◌∷◌, length, if◌then◌else◌}
use Rattle.std.proofs.Common.{arith, ap, refl, sym, ◌∙◌, inl, inr}
use Rattle.std.proofs.lemmas.Bool.{le-ltb, lt-ltb}
use mathlib.Core.Bool.{beq}
use Rattle.std.proofs.lemmas.List.{get_or_past}
use Rattle.std.proofs.lemmas.List.Folds.{list_any-append, list_any_at}
use Rattle.cif_defs.specs.Words.{Word, bit, word}
use Rattle.cif_defs.proofs.WordLaws.{word_more, length-word, bit-word, le_or_lt}
use Rattle.cif_checks.specs.Checks.{has_digit}

abbrev is_digit : Bool → Bool → Bool
is_digit d b = if d then b else not b

is_wanted : (b d : Bool) → b ≡ d → is_digit d b ≡ true
is_wanted true true e = refl
is_wanted true false e = sym e
is_wanted false true e = e
is_wanted false false e = refl

is_other : (b d : Bool) → (b ≡ d → ⊥) → is_digit d b ≡ false
is_other true true n = absurd (n refl)
is_other true false n = refl
is_other false true n = refl
is_other false false n = absurd (n refl)

pub digit_found : (d : Bool) (f : ℕ → Bool) (n i : ℕ) → i < n → f i ≡ d → has_digit d (word n f) ≡ true
digit_found d f n i h e =
    let within : i < length (word n f) = rw (length-word n f) h in
    list_any_at (is_digit d) (word n f) i false within (ap (is_digit d) (bit-word n f i false h) ∙ is_wanted (f i) d e)

pub digit_more : (d : Bool) (f : ℕ → Bool) (n : ℕ) → has_digit d (word n f) ≡ false → (f n ≡ d → ⊥) → has_digit d (word (n + 1) f) ≡ false
digit_more d f n none other =
    ap (has_digit d) (word_more f n) ∙ list_any-append (is_digit d) (word n f) (f n ∷ [])
    ∙ ap (λ b. b || (is_digit d (f n) || false)) none ∙ ap (λ b. b || false) (is_other (f n) d other)

none_past : (d : Bool) (f : ℕ → Bool) (given n : ℕ) → given ≤ n → has_digit d (word given f) ≡ false → ((i : ℕ) → given ≤ i → f i ≡ d → ⊥) → has_digit d (word n f) ≡ false
none_past d f given zero h none past = ap (λ k. has_digit d (word k f)) (let e : 0 ≡ given = omega arith in e) ∙ none
none_past d f given (suc n) h none past = elim (le_or_lt n given) [
  | inl below ↦ ap (λ k. has_digit d (word k f)) (let e : suc n ≡ given = omega arith in e) ∙ none
  | inr above ↦
      let step : has_digit d (word (n + 1) f) ≡ false = digit_more d f n (none_past d f given n above none past) (past n above) in
      ap (λ k. has_digit d (word k f)) (let e : suc n ≡ n + 1 = omega arith in e) ∙ step
]

past_all : (d : Bool) (f : ℕ → Bool) (count given : ℕ) → given < count → ((i : ℕ) → given ≤ i → f i ≡ false) → has_digit d (word given f) ≡ false → has_digit d (word count f) ≡ not d
past_all true f count given h past none = none_past true f given count (omega arith) none (λ i k e. absurd (let q : false ≡ true = sym (past i k) ∙ e in cc))
past_all false f count given h past none = digit_found false f count given h (past given (omega arith))

-- the digits that a value has, and past them zeros
pub digits_done : (d : Bool) (f : ℕ → Bool) (count given : ℕ) → ((i : ℕ) → given ≤ i → f i ≡ false) → has_digit d (word (min count given) f) ≡ false → has_digit d (word count f) ≡ (not d && nat_lt given count)
digits_done d f count given past none = elim (le_or_lt given count) [
  | inl below ↦
      let shown : has_digit d (word given f) ≡ false = ap (λ k. has_digit d (word k f)) (let e : given ≡ min count given = omega arith in e) ∙ none in
      past_all d f count given below past shown ∙ and_true (not d) ∙ ap (λ b. not d && b) (sym (lt-ltb given count below))
  | inr above ↦
      ap (λ k. has_digit d (word k f)) (let e : count ≡ min count given = omega arith in e) ∙ none ∙ and_false (not d) ∙ ap (λ b. not d && b) (sym (le-ltb given count above))
]
  where
    and_true : (b : Bool) → b ≡ (b && true)
    and_true true = refl
    and_true false = refl

    and_false : (b : Bool) → false ≡ (b && false)
    and_false true = refl
    and_false false = refl

pub no_digits : (d : Bool) (count : ℕ) → has_digit d (word count (λ i. bit [] i)) ≡ (not d && nat_lt 0 count)
no_digits d count = digits_done d (λ i. bit [] i) count 0 (λ i h. refl) (ap (λ k. has_digit d (word k (λ i. bit [] i))) (let e : min count 0 ≡ 0 = omega arith in e))

-- ---- what a loop over the digits that a value has finds

pub same_bits : (a b : Bool) → beq a b ≡ true → a ≡ b
same_bits true true e = refl
same_bits true false e = sym e
same_bits false true e = e
same_bits false false e = refl

pub other_bits : (a b : Bool) → beq a b ≡ false → a ≡ b → ⊥
other_bits true true e q = absurd (cc)
other_bits true false e q = absurd (cc)
other_bits false true e q = absurd (cc)
other_bits false false e q = absurd (cc)

pub word_read : (d : Bool) (us : Word) (count given bound index : ℕ) → given ≡ length us → bound ≡ min count given → index ≤ bound → bound ≤ index
    → has_digit d (word index (λ i. bit us i)) ≡ false → has_digit d (word count (λ i. bit us i)) ≡ (not d && nat_lt given count)
word_read d us count given bound index g b below above none =
    let here : index ≡ min count given = omega arith in
    digits_done d (λ i. bit us i) count given (λ i h. get_or_past us i false (let k : length us ≤ i = omega arith in k)) (ap (λ k. has_digit d (word k (λ i. bit us i))) (sym here) ∙ none)

pub last_wanted : (d b r : Bool) → d ≡ false → r ≡ (not d && b) → b ≡ r
last_wanted d b r e q = sym (q ∙ ap (λ w. not w && b) e)

pub last_unwanted : (d b r : Bool) → d ≡ true → r ≡ (not d && b) → not d ≡ r
last_unwanted d b r e q = ap not e ∙ sym (q ∙ ap (λ w. not w && b) e)
