-- Where no bit of the operands is tainted, no bit of the outputs is.
use Rattle.std.specs.Prelude.{ℕ, zero, suc, ◌+◌, ◌-◌, ◌/◌, ◌^◌, ◌≡◌, ◌==◌, Bool, true, false, not, ◌&&◌, ◌||◌, List, [], ◌∷◌, map, length, get_or, take, refl, if◌then◌else◌}
use Rattle.std.specs.List.{list_any, range_with_len}
use Rattle.std.proofs.Common.{ap, sym, ◌∙◌, inl, inr}
use Rattle.std.proofs.lemmas.List.{ext_get_or}
use Rattle.cif_defs.specs.Words.{Word, bit, extended_bit, extend, has_one, number, operand, top, word, zeros}
use Rattle.cif_defs.specs.Kinds.{is_coarse}
use Rattle.cif_defs.specs.Cells.{Cell, both_signed, coarse_by, y_width}
use Rattle.cif_defs.specs.Coarse.{division_taint, either_taint, high_quotient, is_known_zero, low_quotient, max_word, product_taint, quotient_taint}
use Rattle.cif_defs.specs.Completions.{AllComplete, CanDiffer, can_differ}
use Rattle.cif_defs.specs.Table.{outputs_of}
use Rattle.cif_defs.specs.Taint.{output_bit, output_taint}
use Rattle.cif_defs.specs.declared.kinds.Kind.{Kind}
use Rattle.cif_defs.specs.declared.kinds.Kind.TheVariants.{Mul, Div, Mod, DivFloor, ModFloor}
use Rattle.cif_defs.proofs.WordLaws.{bit-word, le_or_lt, past_word, same_words}
use Rattle.cif_defs.proofs.Numbers.{word-same}
use Rattle.cif_defs.proofs.Agree.{has_none}
use Rattle.cif_defs.proofs.Differ.{CanDiffer-from_test}
use Rattle.cif_defs.proofs.Exact.{or_parts}
use Rattle.cif_term.specs.CellTaints.{output_width, taint_word, taint_words}
use Rattle.cif_shapes.specs.Untainted.{IsUntainted, untainted_words}
use Rattle.cif_shapes.proofs.ShapeTaints.{map_same}

-- ---- exact taint: there is one completion alone

only_completion : (vs ts us : List Word) → IsUntainted ts → AllComplete vs ts us → us ≡ vs
only_completion vs ts us u a = ext_get_or [] us vs a.as_many
    (λ p l. same_words (operand us p) (operand vs p) (a.each p).as_long (λ i m. (a.each p).same i (u.clear p i)))

cannot_differ : (f : List Word → Bool) (vs ts : List Word) → IsUntainted ts → CanDiffer f vs ts → ⊥
cannot_differ f vs ts u d = d.differ (ap f (only_completion vs ts d.first u d.first_completes ∙ sym (only_completion vs ts d.second u d.second_completes)))

false_by : (b : Bool) → (b ≡ true → ⊥) → b ≡ false
false_by true h = absurd (h refl)
false_by false h = refl

exact_clear : (f : List Word → Bool) (vs ts : List Word) → IsUntainted ts → can_differ f vs ts ≡ false
exact_clear f vs ts u = false_by (can_differ f vs ts) (λ q. cannot_differ f vs ts u (CanDiffer-from_test f vs ts q))

-- ---- words without a bit that is set

has_one_clear : (w : Word) → ((i : ℕ) → bit w i ≡ false) → has_one w ≡ false
has_one_clear [] h = refl
has_one_clear (b ∷ w) h = let here : b ≡ false = h 0 in let rest : has_one w ≡ false = has_one_clear w (λ i. h (suc i)) in rw (here, rest) refl

take_clear : (k : ℕ) (w : Word) → ((i : ℕ) → bit w i ≡ false) → (i : ℕ) → bit (take k w) i ≡ false
take_clear zero w h i = refl
take_clear (suc k) [] h i = refl
take_clear (suc k) (b ∷ w) h zero = h 0
take_clear (suc k) (b ∷ w) h (suc i) = take_clear k w (λ j. h (suc j)) i

word_clear : (n : ℕ) (f : ℕ → Bool) → ((i : ℕ) → f i ≡ false) → (i : ℕ) → bit (word n f) i ≡ false
word_clear n f h i = elim (le_or_lt i n) [
  | inl l ↦ bit-word n f i false l ∙ h i
  | inr l ↦ past_word n f i false l
]

signed_clear : (signed b : Bool) → b ≡ false → (signed && b) ≡ false
signed_clear true b h = h
signed_clear false b h = refl

extended_clear : (signed : Bool) (i : ℕ) (t : Word) → ((j : ℕ) → bit t j ≡ false) → extended_bit signed i t ≡ false
extended_clear signed i t h = ap (λ b. get_or t i b) (signed_clear signed (top t) (h (length t - 1))) ∙ h i

or_clear : (a b : Bool) → a ≡ false → b ≡ false → (a || b) ≡ false
or_clear a b e f = rw (e, f) refl

and_clear : (a b : Bool) → b ≡ false → (a && b) ≡ false
and_clear true b h = h
and_clear false b h = refl

-- ---- coarse taint

abbrev IsClear : Word → Type 0
IsClear w = (i : ℕ) → bit w i ≡ false

product_clear : (n : ℕ) (signed : Bool) (a ta b tb : Word) → IsClear ta → IsClear tb → IsClear (product_taint n signed a ta b tb)
product_clear n signed a ta b tb g h = word_clear n _ (λ i. and_clear
    (not (is_known_zero (extend n signed a) (extend n signed ta)) && not (is_known_zero (extend n signed b) (extend n signed tb)))
    (has_one (take (i + 1) (either_taint n signed ta tb)))
    (has_one_clear _ (take_clear (i + 1) (either_taint n signed ta tb) (word_clear n _ (λ k. or_clear _ _ (extended_clear signed k ta g) (extended_clear signed k tb h))))))

neither : (ta tb : Word) → IsClear ta → IsClear tb → (has_one ta || has_one tb) ≡ false
neither ta tb g h = or_clear (has_one ta) (has_one tb) (has_one_clear ta g) (has_one_clear tb h)

division_clear : (n : ℕ) (ta b tb : Word) → IsClear ta → IsClear tb → IsClear (division_taint n ta b tb)
division_clear n ta b tb g h = word_clear n _ (λ i. ap (λ x. x && not (is_known_zero b tb)) (neither ta tb g h))

quotient_clear : (n : ℕ) (a ta b tb : Word) → IsClear ta → IsClear tb → IsClear (quotient_taint n a ta b tb)
quotient_clear n a ta b tb g h = word_clear n _ (λ i.
    ap (λ x. x && not (number (max_word b tb) == 0) && not (low_quotient a ta b tb / 2 ^ i == high_quotient a ta b tb / 2 ^ i)) (neither ta tb g h))

div_clear : (signed : Bool) (n : ℕ) (a ta b tb : Word) → IsClear ta → IsClear tb → IsClear (if signed then division_taint n ta b tb else quotient_taint n a ta b tb)
div_clear true n a ta b tb g h = division_clear n ta b tb g h
div_clear false n a ta b tb g h = quotient_clear n a ta b tb g h

coarse_clear : (k : Kind) (c : Cell) (vs ts : List Word) → IsUntainted ts → IsClear (coarse_by k c vs ts)
unfolding coarse_by
coarse_clear Mul c vs ts u = product_clear (y_width c) (both_signed c) (operand vs 0) (operand ts 0) (operand vs 1) (operand ts 1) (u.clear 0) (u.clear 1)
coarse_clear Div c vs ts u = div_clear (both_signed c) (y_width c) (operand vs 0) (operand ts 0) (operand vs 1) (operand ts 1) (u.clear 0) (u.clear 1)
coarse_clear Mod c vs ts u = division_clear (y_width c) (operand ts 0) (operand vs 1) (operand ts 1) (u.clear 0) (u.clear 1)
coarse_clear DivFloor c vs ts u = division_clear (y_width c) (operand ts 0) (operand vs 1) (operand ts 1) (u.clear 0) (u.clear 1)
coarse_clear ModFloor c vs ts u = division_clear (y_width c) (operand ts 0) (operand vs 1) (operand ts 1) (u.clear 0) (u.clear 1)
coarse_clear _ c vs ts u = λ i. refl

-- ---- every kind

either_clear : (b x y : Bool) → x ≡ false → y ≡ false → (if b then x else y) ≡ false
either_clear true x y g h = g
either_clear false x y g h = h

output_clear : (c : Cell) (p i : ℕ) (vs ts : List Word) → IsUntainted ts → output_taint c p i vs ts ≡ false
output_clear c p i vs ts u = either_clear (is_coarse c.kind) (bit (coarse_by c.kind c vs ts) i) (can_differ (output_bit c p i) vs ts)
    (coarse_clear c.kind c vs ts u i) (exact_clear (output_bit c p i) vs ts u)

-- the taint words are words of zeros
pub words_are_zeros : (c : Cell) (vs ts : List Word) → IsUntainted ts → taint_words c vs ts ≡ untainted_words c
words_are_zeros c vs ts u = map_same (taint_word c vs ts) (λ p. zeros (output_width c p)) (range_with_len 0 (length (outputs_of c.kind)))
    (λ p. word-same (output_width c p) (λ i. output_taint c p i vs ts) (λ i. false) (λ i l. output_clear c p i vs ts u))

-- ---- their bits and their widths

clear_words : (f : ℕ → ℕ) (ps : List ℕ) (p i : ℕ) → bit (operand (map (λ q. zeros (f q)) ps) p) i ≡ false
clear_words f [] p i = refl
clear_words f (q ∷ ps) zero i = word_clear (f q) (λ k. false) (λ k. refl) i
clear_words f (q ∷ ps) (suc p) i = clear_words f ps p i

pub bits_are_clear : (c : Cell) (vs ts : List Word) → IsUntainted ts → (p i : ℕ) → bit (operand (taint_words c vs ts) p) i ≡ false
bits_are_clear c vs ts u p i = ap (λ (ws : List Word). bit (operand ws p) i) (words_are_zeros c vs ts u) ∙ clear_words (output_width c) (range_with_len 0 (length (outputs_of c.kind))) p i

-- ---- the test

pub from_test : (ts : List Word) → list_any has_one ts ≡ false → IsUntainted ts
from_test ts h = record { clear = clear_from ts h }
  where
    clear_from : (us : List Word) → list_any has_one us ≡ false → (p i : ℕ) → bit (operand us p) i ≡ false
    clear_from [] e p i = refl
    clear_from (u ∷ us) e zero i = has_none u (or_parts (has_one u) (list_any has_one us) e).0 i
    clear_from (u ∷ us) e (suc p) i = clear_from us (or_parts (has_one u) (list_any has_one us) e).1 p i
