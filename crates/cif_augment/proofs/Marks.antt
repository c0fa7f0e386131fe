-- Tables of net bits, and words without the taint of marked bits.
use Rattle.std.specs.Prelude.{ℕ, ◌<◌, ◌≡◌, Bool, false, not, ◌&&◌, List, length, get_or, refl}
use Rattle.std.proofs.Common.{arith, sym, ap, ◌∙◌}
use Rattle.cif_defs.specs.Words.{Word, bit, word}
use Rattle.cif_defs.proofs.WordLaws.{same_words, length-word, bit-word}
use Rattle.cif_defs.specs.Stimulus.{StimLine, is_released}
use Rattle.cif_defs.specs.declared.nets.Src.{Src}
use Rattle.cif_defs.specs.declared.nets.Src.TheVariants.{Bit, Zero, One}
use Rattle.cif_augment.specs.Stimuli.{is_marked, is_released_bit, unreleased}

marked_released : (marks : List Bool) (lines : List StimLine) → ((b : ℕ) → bit marks b ≡ is_released lines b) → (x : Src) → is_marked marks x ≡ is_released_bit lines x
marked_released marks lines h (Bit b) = h b
marked_released marks lines h Zero = refl
marked_released marks lines h One = refl

kept_word : (marks : List Bool) (lines : List StimLine) (bits : List Src) (t : Word) → ((b : ℕ) → bit marks b ≡ is_released lines b) → word (length t) (λ i. bit t i && not (is_marked marks (get_or bits i Zero))) ≡ unreleased lines bits t
kept_word marks lines bits t h =
    let f : ℕ → Bool = λ i. bit t i && not (is_marked marks (get_or bits i Zero)) in
    let g : ℕ → Bool = λ i. bit t i && not (is_released_bit lines (get_or bits i Zero)) in
    same_words (word (length t) f) (word (length t) g) (length-word (length t) f ∙ sym (length-word (length t) g))
    (λ i l. let inside : i < length t = (let e = length-word (length t) f in omega arith) in
    bit-word (length t) f i false inside
    ∙ ap (λ b. bit t i && not b) (marked_released marks lines h (get_or bits i Zero))
    ∙ sym (bit-word (length t) g i false inside))

-- the bits of a word that were kept
pub is_unreleased : (marks : List Bool) (lines : List StimLine) (sources bits : List Src) (t w : Word) → ((b : ℕ) → bit marks b ≡ is_released lines b) → sources ≡ bits → w ≡ word (length t) (λ i. bit t i && not (is_marked marks (get_or sources i Zero))) → w ≡ unreleased lines bits t
is_unreleased marks lines sources bits t w h e is = is ∙ kept_word marks lines sources t h ∙ ap (λ (us : List Src). unreleased lines us t) e

pub unreleased_long : (lines : List StimLine) (bits : List Src) (t w : Word) → w ≡ unreleased lines bits t → length w ≡ length t
unreleased_long lines bits t w e = ap (λ (u : Word). length u) e ∙ length-word (length t) (λ i. bit t i && not (is_released_bit lines (get_or bits i Zero)))
