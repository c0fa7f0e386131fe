-- What a raw cell gives for a name, found from front to back, and numbers of texts of binary digits.
use Rattle.std.specs.Prelude.{ℕ, zero, suc, ◌+◌, ◌-◌, ◌*◌, ◌^◌, ◌<◌, ◌≤◌, ◌≡◌, Bool, true, false, ◌==◌, List, [], ◌∷◌, ◌++◌, length, get_or, take, drop, map, reverse, bytes_eq, Option, Some, None}
use Rattle.std.proofs.Common.{arith, ap, cond, add-one, ◌∙◌, refl}
use Rattle.std.proofs.lemmas.List.{take_more, reverse-append, get_or-map, get_or-reverse, get_or_past, length-map, length-reverse}
use Rattle.cif_defs.specs.Words.{number, bit_value, bit, digit}
use Rattle.cif_defs.proofs.WordLaws.{bit-word, length-word}
use Rattle.cif_defs.specs.WordText.{word_of_text}
use Rattle.std.specs.Prelude.{ℤ, pos, negsuc, ◌≤ℤ◌, unsigned_abs}
use Rattle.std.proofs.lemmas.Int.{ints}
use Rattle.std.proofs.Math.Pow.{pow_mono}
use Rattle.std.proofs.Math.Nat.{mul-le-mul_right}
use Rattle.cif_defs.specs.RawModule.{value_named, bits_named, int_digits, below_limit, below_limit_int, is_binary, needed_number}
use Rattle.std.specs.Prelude.{◌<ℤ◌, unwrap_or, option_and_then, if◌then◌else◌}
use Rattle.std.proofs.lemmas.Bool.Decides.{nat_tests}
use Rattle.cif_defs.specs.Table.{param_text}
use Rattle.cif_defs.specs.declared.kinds.Param.{Param}
use Rattle.cif_defs.specs.declared.raw_module.RawCell.{RawCell}
use Rattle.cif_defs.specs.declared.raw_module.ParamValue.TheVariants.{Text, Number}
use Rattle.cif_checks.specs.Checks.{number_or_0}
use Rattle.cif_defs.specs.declared.raw_module.RawParam.{RawParam}
use Rattle.cif_defs.specs.declared.raw_module.ParamValue.{ParamValue}
use Rattle.cif_defs.specs.declared.raw_module.Connection.{Connection}

pub value_at : (ps : List RawParam) (i : ℕ) (name : List ℕ) (d : RawParam) → i < length ps → bytes_eq (get_or ps i d).name name ≡ true → value_named name (drop i ps) ≡ Some (get_or ps i d).value
value_at [] i name d h e = absurd (omega arith)
value_at (p ∷ ps) zero name d h e = ap (λ (b : Bool). cond b (Some p.value) (value_named name ps)) e
value_at (p ∷ ps) (suc i) name d h e = value_at ps i name d (omega arith) e

value_past_suc : (ps : List RawParam) (i : ℕ) (name : List ℕ) (d : RawParam) → i < length ps → bytes_eq (get_or ps i d).name name ≡ false → value_named name (drop i ps) ≡ value_named name (drop (suc i) ps)
value_past_suc [] i name d h e = absurd (omega arith)
value_past_suc (p ∷ ps) zero name d h e = ap (λ (b : Bool). cond b (Some p.value) (value_named name ps)) e
value_past_suc (p ∷ ps) (suc i) name d h e = value_past_suc ps i name d (omega arith) e

pub value_past : (ps : List RawParam) (i : ℕ) (name : List ℕ) (d : RawParam) → i < length ps → bytes_eq (get_or ps i d).name name ≡ false → value_named name (drop i ps) ≡ value_named name (drop (i + 1) ps)
value_past ps i name d h e = rw add-one (value_past_suc ps i name d h e)

pub bits_at : (xs : List Connection) (i : ℕ) (name : List ℕ) (d : Connection) → i < length xs → bytes_eq (get_or xs i d).name name ≡ true → bits_named name (drop i xs) ≡ Some (get_or xs i d).bits
bits_at [] i name d h e = absurd (omega arith)
bits_at (x ∷ xs) zero name d h e = ap (λ (b : Bool). cond b (Some x.bits) (bits_named name xs)) e
bits_at (x ∷ xs) (suc i) name d h e = bits_at xs i name d (omega arith) e

bits_past_suc : (xs : List Connection) (i : ℕ) (name : List ℕ) (d : Connection) → i < length xs → bytes_eq (get_or xs i d).name name ≡ false → bits_named name (drop i xs) ≡ bits_named name (drop (suc i) xs)
bits_past_suc [] i name d h e = absurd (omega arith)
bits_past_suc (x ∷ xs) zero name d h e = ap (λ (b : Bool). cond b (Some x.bits) (bits_named name xs)) e
bits_past_suc (x ∷ xs) (suc i) name d h e = bits_past_suc xs i name d (omega arith) e

pub bits_past : (xs : List Connection) (i : ℕ) (name : List ℕ) (d : Connection) → i < length xs → bytes_eq (get_or xs i d).name name ≡ false → bits_named name (drop i xs) ≡ bits_named name (drop (i + 1) xs)
bits_past xs i name d h e = rw add-one (bits_past_suc xs i name d h e)

-- ---- numbers of texts

word_of_more : (text : List ℕ) (b : ℕ) → word_of_text (text ++ b ∷ []) ≡ (b == 49) ∷ word_of_text text
word_of_more text b = ap (map (λ x. x == 49)) (reverse-append text (b ∷ []))

pub number_more : (text : List ℕ) (i : ℕ) (d : ℕ) → i < length text → number (word_of_text (take (i + 1) text)) ≡ bit_value (get_or text i d == 49) + 2 * number (word_of_text (take i text))
number_more text i d h = ap (λ t. number (word_of_text t)) (take_more text i d h) ∙ ap number (word_of_more (take i text) (get_or text i d))

-- ---- digits

length_word_of_text : (text : List ℕ) → length (word_of_text text) ≡ length text
length_word_of_text text = length-map (reverse text) (λ b. b == 49) ∙ length-reverse text

pub text_digit_at : (text : List ℕ) (i : ℕ) (d : ℕ) → i < length text → bit (word_of_text text) i ≡ (get_or text (length text - 1 - i) d == 49)
text_digit_at text i d h =
    let within : i < length (reverse text) = rw length-reverse h in
    get_or-map (λ b. b == 49) (reverse text) i d false within ∙ ap (λ b. b == 49) (get_or-reverse text i d h)

pub text_digit_past : (text : List ℕ) (i : ℕ) → length text ≤ i → bit (word_of_text text) i ≡ false
text_digit_past text i h = get_or_past (word_of_text text) i false (rw (length_word_of_text text) h)

pub whole_digit_at : (z : ℤ) (i : ℕ) → i < 32 → pos 0 ≤ℤ z → bit (int_digits z) i ≡ digit (unsigned_abs z) i
whole_digit_at (pos x) i h p = bit-word 32 (λ k. digit x k) i false h
whole_digit_at (negsuc x) i h p = absurd (omega (arith, ints))

-- ---- widths

pub blocks_past : (count power : ℕ) → 1 ≤ count → 64 ≤ power → 2 ^ 64 ≤ count * 2 ^ power
blocks_past count power one many =
    let at_64 : 2 ^ 64 ≤ 2 ^ power = pow_mono many in
    let grown : 1 * 2 ^ power ≤ count * 2 ^ power = mul-le-mul_right (2 ^ power) one in
    omega arith

-- ---- numbers are below 2 ^ 32

below_limit_small : (x : ℕ) → unwrap_or (below_limit x) 0 < 4294967296
below_limit_small x = grind (arith, nat_tests)

int_small : (z : ℤ) → unwrap_or (below_limit_int z) 0 < 4294967296
int_small (pos x) = below_limit_small x
int_small (negsuc x) = omega arith

text_small : (b : Bool) (x : ℕ) → unwrap_or (if b then below_limit x else None) 0 < 4294967296
text_small true x = below_limit_small x
text_small false x = omega arith

needed_small : (v : ParamValue) → unwrap_or (needed_number v) 0 < 4294967296
unfolding needed_number
needed_small (Text text) = text_small (is_binary text) (number (word_of_text text))
needed_small (Number z) = int_small z

given_small : (o : Option ParamValue) → unwrap_or (option_and_then needed_number o) 0 < 4294967296
given_small None = omega arith
given_small (Some v) = needed_small v

pub number_small : (c : RawCell) (p : Param) → number_or_0 c p < 4294967296
number_small c p = given_small (value_named (param_text p) c.parameters)

pub count_of_text : (text : List ℕ) → length (word_of_text text) ≡ length text
count_of_text text = length_word_of_text text

pub count_of_number : (z : ℤ) → pos 0 ≤ℤ z → length (int_digits z) ≡ 32
count_of_number (pos x) h = length-word 32 (λ k. digit x k)
count_of_number (negsuc x) h = absurd (omega (arith, ints))

pub count_of_negative : (z : ℤ) → z <ℤ pos 0 → length (int_digits z) ≡ 0
count_of_negative (pos x) h = absurd (omega (arith, ints))
count_of_negative (negsuc x) h = refl

pub ruleset counts_of_digits = (count_of_text, count_of_number, count_of_negative)
