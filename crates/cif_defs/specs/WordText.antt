-- The text of a word: a byte for each bit, `1` or `0`, highest bit first.
use Rattle.std.specs.Prelude.{ℕ, Bool, not, ◌||◌, ◌==◌, List, map, reverse, if◌then◌else◌}
use Rattle.cif_defs.specs.Words.{Word}

-- the byte of a bit: 49 is `1`, and 48 is `0`
abbrev pub byte_of_bit : Bool → ℕ
byte_of_bit b = if b then 49 else 48

abbrev pub text_of : Word → List ℕ
text_of w = map byte_of_bit (reverse w)

-- the word of a text, in which each byte that isn't `1` reads as 0
abbrev pub word_of_text : List ℕ → Word
word_of_text text = map (λ b. b == 49) (reverse text)

-- whether a byte is neither `0` nor `1`
abbrev pub is_no_digit : ℕ → Bool
is_no_digit b = not (b == 48 || b == 49)
