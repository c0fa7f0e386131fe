-- What the words of a line that is written say.
use Rattle.std.specs.Prelude.{ℕ, ◌^◌, ◌<◌, ◌≡◌, ◌==◌, nat_lt, Bool, true, false, not, ◌||◌, List, [], ◌∷◌, ◌++◌, length, map, reverse, codes, Some, None, option_map, option_and_then, refl, if◌then◌else◌}
use Rattle.std.specs.List.{list_all}
use Rattle.std.specs.Fmt.{decimal}
use Rattle.std.proofs.Common.{arith, ap, ◌∙◌, append_assoc}
use Rattle.std.proofs.lemmas.Fmt.{decimal_nonempty}
use Rattle.cif_defs.specs.Words.{Word}
use Rattle.cif_defs.specs.WordText.{byte_of_bit, text_of, word_of_text, is_no_digit}
use Rattle.cif_defs.specs.RawModule.{is_binary}
use Rattle.cif_defs.specs.Stimulus.{StimLine as LineData, TaintedWord, reg_line, mem_line, release_line, cycle_line, set_line}
use Rattle.cif_defs.specs.Text.{is_visible, number_read, coded, line_end}
use Rattle.cif_defs.specs.declared.nets.Src.{Src}
use Rattle.cif_defs.specs.declared.nets.Src.TheVariants.{Bit, Zero, One}
use Rattle.cif_defs.specs.declared.raw_module.Raw.{Raw}
use Rattle.cif_defs.proofs.WordText.{word_of_text-text_of, length-text_of}
use Rattle.cif_cells.specs.Finding.{FoundOf, a_wire, not_two_valued, missing, found_of}
use Rattle.cif_stimulus.specs.Fitting.{has_name, is_same_source, are_same_sources, is_found_as}
use Rattle.cif_stimulus.specs.Places.{is_word, is_written}
use Rattle.cif_text.specs.Bytes.{are_bytes}
use Rattle.cif_stim_write.specs.Ranges.{is_in_range}
use Rattle.cif_stimulus.specs.StimulusText.{tainted_said, reg_said, mem_said, set_said, found_bits, release_said, cycle_said, line_said, line_text, tainted_text, is_release}
use Rattle.cif_text.proofs.BoolTests.{both, and_true, positive, test_positive, below, same_number}
use Rattle.cif_text.proofs.Coding.{decoded-coded, coded_visible, coded_some}
use Rattle.cif_text.proofs.Decimals.{number_read-decimal, decimal_visible}
use Rattle.cif_stim_write.proofs.WrittenLines.{joined, has_bytes, IsLine}

-- ---- words of bits

bit_binary : (b : Bool) → not (is_no_digit (byte_of_bit b)) ≡ true
bit_binary true = refl
bit_binary false = refl

bits_binary : (w : Word) → list_all (λ b. not (is_no_digit b)) (map byte_of_bit w) ≡ true
bits_binary [] = refl
bits_binary (b ∷ w) = and_true _ _ (bit_binary b) (bits_binary w)

bit_visible : (b : Bool) → is_visible (byte_of_bit b) ≡ true
bit_visible true = refl
bit_visible false = refl

bits_visible : (w : Word) → list_all is_visible (map byte_of_bit w) ≡ true
bits_visible [] = refl
bits_visible (b ∷ w) = and_true _ _ (bit_visible b) (bits_visible w)

text_some : (w : Word) → 0 < length w → has_bytes (text_of w) ≡ true
text_some w h = let n = length-text_of w in test_positive (length (text_of w)) (omega arith)

text_binary : (w : Word) → 0 < length w → is_binary (text_of w) ≡ true
text_binary w h = and_true _ _ (text_some w h) (bits_binary (reverse w))

-- a word and its taint have bits
record HasBits (w : TaintedWord) : Type 0 where
  value : 0 < length w.value
  taint : 0 < length w.taint

has_bits : (w : TaintedWord) → is_word w ≡ true → HasBits w
has_bits w h =
    let parts = both (nat_lt 0 (length w.value)) (length w.taint == length w.value) h in
    let some : 0 < length w.value = positive (length w.value) parts.0 in
    let long : length w.taint ≡ length w.value = same_number (length w.taint) (length w.value) parts.1 in
    record { value = some; taint = omega arith }

abbrev given : Word → Word → TaintedWord
given value taint = record { value = value; taint = taint }

tainted_back : (w : TaintedWord) → HasBits w → tainted_said (text_of w.value ∷ text_of w.taint ∷ []) ≡ Some w
tainted_back w h =
    ap (λ s. if s then Some (given (word_of_text (text_of w.value)) (word_of_text (text_of w.taint))) else None) (and_true _ _ (text_binary w.value h.value) (text_binary w.taint h.taint))
    ∙ ap (λ v. Some (given v (word_of_text (text_of w.taint)))) (word_of_text-text_of w.value)
    ∙ ap (λ t. Some (given w.value t)) (word_of_text-text_of w.taint)

-- ---- the words of a line

abbrev pub bits_words : TaintedWord → List (List ℕ)
bits_words w = text_of w.value ∷ text_of w.taint ∷ []

abbrev pub line_words : LineData → List (List ℕ)
line_words (reg_line cell w) = codes "reg" ∷ coded cell ∷ bits_words w
line_words (mem_line cell address w) = codes "mem" ∷ coded cell ∷ decimal address ∷ bits_words w
line_words (release_line name bits) = codes "release" ∷ coded name ∷ []
line_words (cycle_line k) = codes "@" ∷ decimal k ∷ []
line_words (set_line port w) = codes "set" ∷ coded port ∷ bits_words w

pub name_visible : (name : List ℕ) (rest : List (List ℕ)) → are_bytes name ≡ true → list_all (list_all is_visible) rest ≡ true → list_all (list_all is_visible) (coded name ∷ rest) ≡ true
name_visible name rest h r = and_true _ _ (coded_visible name h) r

pub name_some : (name : List ℕ) (rest : List (List ℕ)) → nat_lt 0 (length name) ≡ true → list_all has_bytes rest ≡ true → list_all has_bytes (coded name ∷ rest) ≡ true
name_some name rest h r = and_true _ _ (test_positive (length (coded name)) (coded_some name (positive (length name) h))) r

pub number_visible : (k : ℕ) (rest : List (List ℕ)) → k < 2 ^ 64 → list_all (list_all is_visible) rest ≡ true → list_all (list_all is_visible) (decimal k ∷ rest) ≡ true
number_visible k rest h r = and_true _ _ (decimal_visible k h) r

pub number_some : (k : ℕ) (rest : List (List ℕ)) → k < 2 ^ 64 → list_all has_bytes rest ≡ true → list_all has_bytes (decimal k ∷ rest) ≡ true
number_some k rest h r = and_true _ _ (test_positive (length (decimal k)) (decimal_nonempty k h)) r

word_visible : (w : TaintedWord) → list_all (list_all is_visible) (bits_words w) ≡ true
word_visible w = and_true _ _ (bits_visible (reverse w.value)) (and_true _ _ (bits_visible (reverse w.taint)) refl)

word_some : (w : TaintedWord) → HasBits w → list_all has_bytes (bits_words w) ≡ true
word_some w h = and_true _ _ (text_some w.value h.value) (and_true _ _ (text_some w.taint h.taint) refl)

pub line_of : (line : LineData) → is_written line ≡ true → is_in_range line ≡ true → IsLine (line_words line)
line_of (reg_line cell w) h r =
    let parts = both (nat_lt 0 (length cell)) (is_word w) h in
    record { visible = name_visible cell (bits_words w) r (word_visible w); some = name_some cell (bits_words w) parts.0 (word_some w (has_bits w parts.1)); counted = refl }
line_of (mem_line cell address w) h r =
    let parts = both (nat_lt 0 (length cell)) (is_word w) h in
    let range = both (are_bytes cell) (nat_lt address (2 ^ 64)) r in
    let small : address < 2 ^ 64 = below address (2 ^ 64) range.1 in
    record {
      visible = name_visible cell (decimal address ∷ bits_words w) range.0 (number_visible address (bits_words w) small (word_visible w));
      some = name_some cell (decimal address ∷ bits_words w) parts.0 (number_some address (bits_words w) small (word_some w (has_bits w parts.1)));
      counted = refl;
    }
line_of (release_line name bits) h r = record { visible = name_visible name [] r refl; some = name_some name [] h refl; counted = refl }
line_of (cycle_line k) h r = record { visible = number_visible k [] (below k (2 ^ 64) r) refl; some = number_some k [] (below k (2 ^ 64) r) refl; counted = refl }
line_of (set_line port w) h r =
    let parts = both (nat_lt 0 (length port)) (is_word w) h in
    record { visible = name_visible port (bits_words w) r (word_visible w); some = name_some port (bits_words w) parts.0 (word_some w (has_bits w parts.1)); counted = refl }

-- ---- what is said by the words of a line

same_source : (a b : Src) → is_same_source a b ≡ true → a ≡ b
same_source (Bit b) (Bit d) h = ap Bit (same_number b d h)
same_source (Bit b) Zero h = absurd (cc)
same_source (Bit b) One h = absurd (cc)
same_source Zero (Bit d) h = absurd (cc)
same_source Zero Zero h = refl
same_source Zero One h = absurd (cc)
same_source One (Bit d) h = absurd (cc)
same_source One Zero h = absurd (cc)
same_source One One h = refl

same_sources : (us vs : List Src) → are_same_sources us vs ≡ true → us ≡ vs
same_sources [] [] h = refl
same_sources [] (v ∷ vs) h = absurd (cc)
same_sources (u ∷ us) [] h = absurd (cc)
same_sources (u ∷ us) (v ∷ vs) h =
    let parts = both (is_same_source u v) (are_same_sources us vs) h in
    ap (λ x. x ∷ us) (same_source u v parts.0) ∙ ap (λ xs. v ∷ xs) (same_sources us vs parts.1)

same_found : (bits : List Src) (f : FoundOf) → is_found_as bits f ≡ true → found_bits f ≡ bits
same_found bits (a_wire w) h = same_sources w.bits bits h
same_found bits not_two_valued h = absurd (cc)
same_found bits missing h = absurd (cc)

-- a line that may stand in a text of a version
abbrev pub is_known : ℕ → LineData → Bool
is_known version line = not (is_release line) || version == 2

reg_back : (cell : List ℕ) (w : TaintedWord) → are_bytes cell ≡ true → is_word w ≡ true → reg_said (coded cell ∷ bits_words w) ≡ Some (reg_line cell w)
reg_back cell w h b =
    ap (λ o. option_and_then (λ name. option_map (λ u. reg_line name u) (tainted_said (bits_words w))) o) (decoded-coded cell h)
    ∙ ap (λ o. option_map (λ u. reg_line cell u) o) (tainted_back w (has_bits w b))

set_back : (port : List ℕ) (w : TaintedWord) → are_bytes port ≡ true → is_word w ≡ true → set_said (coded port ∷ bits_words w) ≡ Some (set_line port w)
set_back port w h b =
    ap (λ o. option_and_then (λ name. option_map (λ u. set_line name u) (tainted_said (bits_words w))) o) (decoded-coded port h)
    ∙ ap (λ o. option_map (λ u. set_line port u) o) (tainted_back w (has_bits w b))

mem_back : (cell : List ℕ) (address : ℕ) (w : TaintedWord) → are_bytes cell ≡ true → address < 2 ^ 64 → is_word w ≡ true → mem_said (coded cell ∷ decimal address ∷ bits_words w) ≡ Some (mem_line cell address w)
mem_back cell address w h small b =
    ap (λ o. option_and_then (λ name. option_and_then (λ a. option_map (λ u. mem_line name a u) (tainted_said (bits_words w))) (number_read (decimal address))) o) (decoded-coded cell h)
    ∙ ap (λ o. option_and_then (λ a. option_map (λ u. mem_line cell a u) (tainted_said (bits_words w))) o) (number_read-decimal address small)
    ∙ ap (λ o. option_map (λ u. mem_line cell address u) o) (tainted_back w (has_bits w b))

release_back : (raw : Raw) (name : List ℕ) (bits : List Src) → are_bytes name ≡ true → is_found_as bits (found_of raw name) ≡ true → release_said raw (coded name ∷ []) ≡ Some (release_line name bits)
release_back raw name bits h found =
    ap (λ o. option_map (λ n. release_line n (found_bits (found_of raw n))) o) (decoded-coded name h)
    ∙ ap (λ us. Some (release_line name us)) (same_found bits (found_of raw name) found)

cycle_back : (k : ℕ) → k < 2 ^ 64 → cycle_said (decimal k ∷ []) ≡ Some (cycle_line k)
cycle_back k h = ap (λ o. option_map (λ j. cycle_line j) o) (number_read-decimal k h)

-- the words of a line say it again
pub said_back : (raw : Raw) (version : ℕ) (line : LineData) → is_written line ≡ true → is_in_range line ≡ true → has_name raw line ≡ true → is_known version line ≡ true → line_said raw version (line_words line) ≡ Some line
unfolding line_said
said_back raw version (reg_line cell w) h r n k =
    ap (λ s. if s then reg_said (coded cell ∷ bits_words w) else None) (line_of (reg_line cell w) h r).visible
    ∙ reg_back cell w r (both (nat_lt 0 (length cell)) (is_word w) h).1
said_back raw version (mem_line cell address w) h r n k =
    let range = both (are_bytes cell) (nat_lt address (2 ^ 64)) r in
    ap (λ s. if s then mem_said (coded cell ∷ decimal address ∷ bits_words w) else None) (line_of (mem_line cell address w) h r).visible
    ∙ mem_back cell address w range.0 (below address (2 ^ 64) range.1) (both (nat_lt 0 (length cell)) (is_word w) h).1
said_back raw version (release_line name bits) h r n k =
    ap (λ s. if s then (if version == 2 then release_said raw (coded name ∷ []) else None) else None) (line_of (release_line name bits) h r).visible
    ∙ ap (λ s. if s then release_said raw (coded name ∷ []) else None) k
    ∙ release_back raw name bits r n
said_back raw version (cycle_line j) h r n k =
    ap (λ s. if s then cycle_said (decimal j ∷ []) else None) (line_of (cycle_line j) h r).visible
    ∙ cycle_back j (below j (2 ^ 64) r)
said_back raw version (set_line port w) h r n k =
    ap (λ s. if s then set_said (coded port ∷ bits_words w) else None) (line_of (set_line port w) h r).visible
    ∙ set_back port w r (both (nat_lt 0 (length port)) (is_word w) h).1

-- ---- the text of a line

pub line_text_is : (line : LineData) → line_text line ≡ joined (line_words line) ++ line_end ∷ []
line_text_is (reg_line cell w) = simp append_assoc
line_text_is (mem_line cell address w) =
    ap (λ text. codes "mem " ++ text) (append_assoc (coded cell ++ codes " ") (decimal address) (tainted_text w) ∙ append_assoc (coded cell) (codes " ") (decimal address ++ tainted_text w))
    ∙ simp append_assoc
line_text_is (release_line name bits) = simp append_assoc
line_text_is (cycle_line k) = simp append_assoc
line_text_is (set_line port w) = simp append_assoc
