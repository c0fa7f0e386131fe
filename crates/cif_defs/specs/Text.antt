-- Lines, words, numbers and coded names in texts.
use Rattle.std.specs.Prelude.{ℕ, ◌+◌, ◌-◌, ◌*◌, ◌/◌, ◌%◌, ◌^◌, nat_lt, nat_le, Bool, not, ◌&&◌, ◌||◌, ◌==◌, List, [], ◌∷◌, filter, fold, length, get_or, Option, Some, None, option_and_then, option_map, if◌then◌else◌}
use Rattle.std.specs.List.{list_all, flat_map}

abbrev pub line_end : ℕ
line_end = 10

abbrev pub space : ℕ
space = 32

abbrev pub percent : ℕ
percent = 37

-- `#`
abbrev pub number_sign : ℕ
number_sign = 35

-- ---- lines and words

-- b put before the first of the pieces
abbrev pub with_first : ℕ → List (List ℕ) → List (List ℕ)
with_first b [] = (b ∷ []) ∷ []
with_first b (piece ∷ pieces) = (b ∷ piece) ∷ pieces

-- what stands between the bytes c: one piece more than there are such bytes
abbrev pub pieces : ℕ → List ℕ → List (List ℕ)
pieces c [] = [] ∷ []
pieces c (b ∷ bs) = if b == c then [] ∷ pieces c bs else with_first b (pieces c bs)

-- without an empty piece at the end
abbrev pub without_empty_last : List (List ℕ) → List (List ℕ)
without_empty_last [] = []
without_empty_last ([] ∷ []) = []
without_empty_last (piece ∷ pieces) = piece ∷ without_empty_last pieces

-- lines are separated by LF, and the last LF may be missing
unfoldable pub lines_of : List ℕ → List (List ℕ)
lines_of bytes = without_empty_last (pieces line_end bytes)

-- the words of a line: one or more spaces separate them, and spaces at its beginning or end are passed over
unfoldable pub words_of : List ℕ → List (List ℕ)
words_of line = filter (λ word. nat_lt 0 (length word)) (pieces space line)

-- a line that is passed over, though counted: it has no word, or its first byte is `#`
abbrev pub is_skipped : List ℕ → Bool
is_skipped line = length (words_of line) == 0 || get_or line 0 space == number_sign

-- a byte that a word may have
abbrev pub is_visible : ℕ → Bool
is_visible b = nat_le 33 b && nat_le b 126

-- ---- numbers: decimal digits without sign, without a leading zero except `0` itself, below 2 ^ 64

abbrev pub is_decimal_digit : ℕ → Bool
is_decimal_digit b = nat_le 48 b && nat_le b 57

abbrev pub is_decimal : List ℕ → Bool
is_decimal text = nat_lt 0 (length text) && list_all is_decimal_digit text && (length text == 1 || not (get_or text 0 0 == 48))

abbrev pub decimal_value : List ℕ → ℕ
decimal_value text = fold (λ n b. n * 10 + (b - 48)) 0 text

unfoldable pub number_read : List ℕ → Option ℕ
number_read text = if is_decimal text && nat_lt (decimal_value text) (2 ^ 64) then Some (decimal_value text) else None

-- ---- names: a byte outside 33 to 126, and `%`, is coded as `%` and two hexadecimal digits

abbrev pub upper_hex_digit : ℕ → ℕ
upper_hex_digit d = if nat_lt d 10 then 48 + d else 55 + d

abbrev pub coded_byte : ℕ → List ℕ
coded_byte b = if is_visible b && not (b == percent) then b ∷ [] else percent ∷ upper_hex_digit (b / 16) ∷ upper_hex_digit (b % 16) ∷ []

unfoldable pub coded : List ℕ → List ℕ
coded name = flat_map coded_byte name

-- ---- and back, in upper and lower case

abbrev pub hex_value : ℕ → Option ℕ
hex_value b =
    if nat_le 48 b && nat_le b 57 then Some (b - 48) else
    if nat_le 65 b && nat_le b 70 then Some (b - 55) else
    if nat_le 97 b && nat_le b 102 then Some (b - 87) else None

-- a byte that is written coded: no other may be
abbrev pub if_coded : ℕ → Option ℕ
if_coded b = if is_visible b && not (b == percent) then None else Some b

-- the byte that two hexadecimal digits code
abbrev pub byte_of_digits : ℕ → ℕ → Option ℕ
byte_of_digits c d = option_and_then (λ high. option_and_then (λ low. if_coded (high * 16 + low)) (hex_value d)) (hex_value c)

-- a byte before a name
abbrev pub with_byte : Option ℕ → Option (List ℕ) → Option (List ℕ)
with_byte byte name = option_and_then (λ b. option_map (λ bs. b ∷ bs) name) byte

-- a byte that stands for itself
abbrev pub plain_byte : ℕ → Option ℕ
plain_byte b = if is_visible b && not (b == percent) then Some b else None

-- the name that a word codes; none where the coding is wrong
abbrev pub decoded : List ℕ → Option (List ℕ)
decoded [] = Some []
decoded (b ∷ []) = with_byte (plain_byte b) (Some [])
decoded (b ∷ c ∷ []) = with_byte (plain_byte b) (with_byte (plain_byte c) (Some []))
decoded (b ∷ c ∷ d ∷ rest) = if b == percent then with_byte (byte_of_digits c d) (decoded rest) else with_byte (plain_byte b) (decoded (c ∷ d ∷ rest))
