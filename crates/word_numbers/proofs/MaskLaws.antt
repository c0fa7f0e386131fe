-- Masks, cut numbers and complements.
use Rattle.std.specs.Prelude.{ℕ, ◌-◌, ◌^◌, ◌<◌, ◌≤◌, ◌≡◌, true, false, not}
use Rattle.std.proofs.Common.{arith, sym, ap, ◌∙◌}
use Rattle.cif_defs.specs.Words.{word, word_of}
use Rattle.cif_defs.specs.Meanings.{not_word}
use Rattle.cif_defs.proofs.Numbers.{word-same}
use Rattle.word_numbers.proofs.Digits.{bit-held_by, digit-not, digit-ones, word_of-digits}

pub word_of-mask : (n x : ℕ) → x ≡ 2 ^ n - 1 → word_of n x ≡ word n (λ i. true)
word_of-mask n x e = ap (word_of n) e ∙ word_of-digits n (2 ^ n - 1) _ (λ i h. digit-ones n i h)

pub word_of-not : (n x : ℕ) → n ≤ 128 → x < 2 ^ 128 → word_of n (2 ^ 128 - 1 - x) ≡ not_word n false (word_of n x)
word_of-not n x l h = word-same n _ _ (λ i k. digit-not x i h (omega arith) ∙ sym (ap not (bit-held_by n x i false k)))
