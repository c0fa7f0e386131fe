-- Laws of the text of a word.
use Rattle.std.specs.Prelude.{ℕ, ◌-◌, ◌<◌, ◌≡◌, ◌==◌, Bool, true, false, List, length, get_or, reverse, position, None, Some, refl, nat_lt}
use Rattle.std.specs.List.{position_or_len}
use Rattle.std.proofs.Common.{arith, ap, ◌∙◌, cond, inl, inr}
use Rattle.std.proofs.lemmas.Bool.Decides.{nat_tests}
use Rattle.std.proofs.lemmas.List.{length-reverse, length-map, get_or-map, get_or-reverse, get_or_default, same_lists}
use Rattle.std.proofs.lemmas.List.Sums.{fails_before_first, position_or_len_is}
use Rattle.cif_defs.specs.Words.{Word, bit}
use Rattle.cif_defs.specs.WordText.{byte_of_bit, text_of, word_of_text, is_no_digit}
use Rattle.cif_defs.proofs.WordLaws.{same_words, le_or_lt}

-- ---- lengths and places

pub length-text_of : (w : Word) → length (text_of w) ≡ length w
length-text_of w = length-map (reverse w) byte_of_bit ∙ length-reverse w

pub length-word_of_text : (text : List ℕ) → length (word_of_text text) ≡ length text
length-word_of_text text = length-map (reverse text) (λ b. b == 49) ∙ length-reverse text

pub get_or-text_of : (w : Word) (i d : ℕ) → i < length w → get_or (text_of w) i d ≡ byte_of_bit (bit w (length w - 1 - i))
get_or-text_of w i d h =
    get_or-map byte_of_bit (reverse w) i false d (omega (arith, length-reverse w)) ∙ ap byte_of_bit (get_or-reverse w i false h)

pub bit-word_of_text : (text : List ℕ) (i d : ℕ) → i < length text → bit (word_of_text text) i ≡ (get_or text (length text - 1 - i) d == 49)
bit-word_of_text text i d h =
    get_or-map (λ b. b == 49) (reverse text) i d false (omega (arith, length-reverse text)) ∙ ap (λ b. b == 49) (get_or-reverse text i d h)

-- ---- there and back

bit_of_byte : (b : Bool) → (byte_of_bit b == 49) ≡ b
bit_of_byte true = refl
bit_of_byte false = refl

byte_is_digit : (b : Bool) → is_no_digit (byte_of_bit b) ≡ false
byte_is_digit true = refl
byte_is_digit false = refl

digit_byte : (b : ℕ) → is_no_digit b ≡ false → byte_of_bit (b == 49) ≡ b
digit_byte b h = grind (arith, nat_tests)

pub word_of_text-text_of : (w : Word) → word_of_text (text_of w) ≡ w
word_of_text-text_of w = same_words _ _ (length-word_of_text (text_of w) ∙ length-text_of w)
    (λ i h. let inside : i < length w = omega (arith, length-word_of_text (text_of w), length-text_of w) in
    let back : length w - 1 - (length (text_of w) - 1 - i) ≡ i = omega (arith, length-text_of w) in
    bit-word_of_text (text_of w) i 48 (omega (arith, length-text_of w))
    ∙ ap (λ b. b == 49) (get_or-text_of w (length (text_of w) - 1 - i) 48 (omega (arith, length-text_of w)))
    ∙ ap (λ k. byte_of_bit (bit w k) == 49) back
    ∙ bit_of_byte (bit w i))

-- where no byte fails, none is found
none_found : (text : List ℕ) → ((k : ℕ) → k < length text → is_no_digit (get_or text k 48) ≡ false) → position is_no_digit text ≡ None
none_found text h =
    let end : position_or_len is_no_digit text ≡ length text = position_or_len_is is_no_digit text (length text) 48 (omega arith) h (λ l. absurd (omega arith)) in
    let past : nat_lt (position_or_len is_no_digit text) (length text) ≡ false = grind (arith, nat_tests) in
    ap (λ b. cond b (Some (position_or_len is_no_digit text)) None) past

-- each byte of a text in which none fails is a digit
pub each_is_digit : (text : List ℕ) → position is_no_digit text ≡ None → (k : ℕ) → k < length text → is_no_digit (get_or text k 48) ≡ false
each_is_digit text h k l = elim (le_or_lt (position_or_len is_no_digit text) (length text)) [
  | inl within ↦ absurd (
      let before : nat_lt (position_or_len is_no_digit text) (length text) ≡ true = grind (arith, nat_tests) in
      let found : position is_no_digit text ≡ Some (position_or_len is_no_digit text) = ap (λ b. cond b (Some (position_or_len is_no_digit text)) None) before in
      cc)
  | inr past ↦ fails_before_first is_no_digit text k 48 (omega arith)
]

pub position-text_of : (w : Word) → position is_no_digit (text_of w) ≡ None
position-text_of w = none_found (text_of w)
    (λ k h. ap is_no_digit (get_or-text_of w k 48 (omega (arith, length-text_of w))) ∙ byte_is_digit (bit w (length w - 1 - k)))

pub text_of-word_of_text : (text : List ℕ) → position is_no_digit text ≡ None → text_of (word_of_text text) ≡ text
text_of-word_of_text text digits = same_lists _ _ (length-text_of (word_of_text text) ∙ length-word_of_text text)
    (λ k d h. let inside : k < length text = omega (arith, length-text_of (word_of_text text), length-word_of_text text) in
    let back : length text - 1 - (length (word_of_text text) - 1 - k) ≡ k = omega (arith, length-word_of_text text) in
    get_or-text_of (word_of_text text) k d (omega (arith, length-word_of_text text))
    ∙ ap byte_of_bit (bit-word_of_text text (length (word_of_text text) - 1 - k) 48 (omega (arith, length-word_of_text text)))
    ∙ ap (λ j. byte_of_bit (get_or text j 48 == 49)) back
    ∙ digit_byte (get_or text k 48) (each_is_digit text digits k inside)
    ∙ get_or_default text k 48 d inside)
