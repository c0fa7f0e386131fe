-- Names of new cells are UTF-8 where the name of the cell that they are made for is.
use Rattle.std.specs.Prelude.{ℕ, zero, suc, ◌/◌, ◌%◌, ◌<◌, ◌==◌, ◌≡◌, Bool, true, false, List, [], ◌∷◌, codes, nat_lt, unwrap_or, IsUtf8, if◌then◌else◌, refl}
use Rattle.std.specs.Fmt.{decimal, digit_glyph, digits, digits_onto}
use Rattle.std.specs.Str.{IsAscii}
use Rattle.std.proofs.Common.{arith}
use Rattle.std.proofs.lemmas.Bool.Decides.{nat_tests}
use Rattle.std.proofs.lemmas.Str.{IsUtf8-append, IsUtf8-from_ascii}
use Rattle.std.proofs.lemmas.Str.Ascii.{IsAscii-nil, IsAscii-cons}
use Rattle.cif_emit.specs.Makers.{Maker, further_name, name_in}
use Rattle.cif_emit.proofs.TextLaws.{utf8_by}

ascii_either : (b : Bool) (xs ys : List ℕ) → IsAscii xs → IsAscii ys → IsAscii (if b then xs else ys)
ascii_either true xs ys h k = h
ascii_either false xs ys h k = k

glyph_is_ascii : (d : ℕ) → d < 10 → digit_glyph false d < 128
glyph_is_ascii d h = let small : nat_lt d 10 ≡ true = grind (arith, nat_tests) in rw small (omega arith)

digits_are_ascii : (k n : ℕ) (bs : List ℕ) → IsAscii bs → IsAscii (digits_onto k 10 false n bs)
digits_are_ascii zero n bs h = h
digits_are_ascii (suc k) n bs h =
    let more : IsAscii (digit_glyph false (n % 10) ∷ bs) = IsAscii-cons (digit_glyph false (n % 10)) bs (glyph_is_ascii (n % 10) (omega arith)) h in
    ascii_either (n / 10 == 0) _ _ more (digits_are_ascii k (n / 10) _ more)

decimal_is_ascii : (n : ℕ) → IsAscii (decimal n)
unfolding digits
decimal_is_ascii n = digits_are_ascii 64 n [] IsAscii-nil

pub further_name-IsUtf8 : (cell : List ℕ) (i : ℕ) → IsUtf8 cell → IsUtf8 (further_name cell i)
further_name-IsUtf8 cell i h =
    IsUtf8-append cell _ h (IsUtf8-append (codes "__t") (decimal i) (utf8_by (codes "__t") refl) (IsUtf8-from_ascii (decimal i) (decimal_is_ascii i)))

pub name_in-IsUtf8 : (m : Maker) (i : ℕ) → IsUtf8 (unwrap_or m.cell []) → IsUtf8 (name_in m i)
name_in-IsUtf8 m i h = further_name-IsUtf8 (unwrap_or m.cell []) i h
