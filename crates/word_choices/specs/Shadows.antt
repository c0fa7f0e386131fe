-- Words beside their exact taints, held by numbers.
use Rattle.std.specs.Prelude.{ℕ, ◌^◌, ◌<◌, ◌≡◌, Bool, List, [], ◌∷◌, if◌then◌else◌}
use Rattle.cif_defs.specs.Words.{Word, bit, digit, word, word_of}
use Rattle.cif_defs.specs.Completions.{can_differ}
use Rattle.rule_select.specs.Choices.{choice_taint}
use Rattle.word_numbers.specs.declared.words.Words.{Words}
use Rattle.word_choices.specs.declared.shadowed.Shadowed.{Shadowed}

-- the exact taint of a word of n bits that row gives of operand words vs with taints ts
abbrev pub exact_word : ℕ → (List Word → Word) → List Word → List Word → Word
exact_word n row vs ts = word n (λ i. can_differ (λ us. bit (row us) i) vs ts)

-- taint words without a 1
pub record AreUntainted (w : Words) : Type 0 where
  pub a : w.a ≡ 0
  pub b : w.b ≡ 0
  pub c : w.c ≡ 0
  pub d : w.d ≡ 0

-- a word of n bits and its taint
pub record IsWithin (n : ℕ) (p : Shadowed) : Type 0 where
  pub value : p.value < 2 ^ n
  pub taint : p.taint < 2 ^ n

-- the choice by a bit s with taint t: the first where it is 0, the second where it is 1
pub record IsChosen (zero one : Shadowed) (s t : Bool) (p : Shadowed) : Type 0 where
  pub value : p.value ≡ (if s then one.value else zero.value)
  pub taint : (n : ℕ) → word_of n p.taint ≡ word n (λ i. choice_taint (digit zero.value i) (digit zero.taint i) (digit one.value i) (digit one.taint i) s t)
  pub within : (n : ℕ) → IsWithin n zero → IsWithin n one → IsWithin n p

-- the operand words of two or three ports of so many bits, and their taints
abbrev pub two_values : ℕ → ℕ → Shadowed → Shadowed → List Word
two_values n m a b = word_of n a.value ∷ word_of m b.value ∷ []

abbrev pub two_taints : ℕ → ℕ → Shadowed → Shadowed → List Word
two_taints n m a b = word_of n a.taint ∷ word_of m b.taint ∷ []

abbrev pub three_values : ℕ → ℕ → ℕ → Shadowed → Shadowed → Shadowed → List Word
three_values n m k a b s = word_of n a.value ∷ word_of m b.value ∷ word_of k s.value ∷ []

abbrev pub three_taints : ℕ → ℕ → ℕ → Shadowed → Shadowed → Shadowed → List Word
three_taints n m k a b s = word_of n a.taint ∷ word_of m b.taint ∷ word_of k s.taint ∷ []
