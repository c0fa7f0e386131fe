-- The words that numbers hold, and words that numbers give bit by bit.
use Rattle.std.specs.Prelude.{ℕ, ◌+◌, ◌-◌, ◌^◌, ◌<◌, Bool, not, ◌&&◌, nat_le, List, [], ◌∷◌, get_or, length, take, drop}
use Rattle.cif_defs.specs.Words.{Word, bit, has_one, word, word_of}
use Rattle.word_numbers.specs.declared.words.Words.{Words}

-- the words of the widths ns that the numbers xs hold
abbrev pub held : List ℕ → List ℕ → List Word
held [] xs = []
held (n ∷ ns) [] = []
held (n ∷ ns) (x ∷ xs) = word_of n x ∷ held ns xs

-- the words of the widths ns, of at most four ports
abbrev pub words_held : List ℕ → Words → List Word
words_held ns w = held ns (w.a ∷ w.b ∷ w.c ∷ w.d ∷ [])

-- each number is one of its port's width, and 0 where there is no port
pub record AreNarrow (ns : List ℕ) (w : Words) : Type 0 where
  pub a : w.a < 2 ^ get_or ns 0 0
  pub b : w.b < 2 ^ get_or ns 1 0
  pub c : w.c < 2 ^ get_or ns 2 0
  pub d : w.d < 2 ^ get_or ns 3 0

-- ---- moved bits

-- a word moved up within its width, with zeros below
abbrev pub raised_word : ℕ → Word → Word
raised_word k w = word (length w) (λ i. nat_le k i && bit w (i - k))

-- a word moved down within its width, with a fill above
abbrev pub lowered_word : ℕ → Bool → Word → Word
lowered_word k fill w = word (length w) (λ i. get_or w (i + k) fill)

-- ---- the lowest and the highest 1

-- the lowest 1 alone
abbrev pub lowest_one_word : Word → Word
lowest_one_word w = word (length w) (λ i. bit w i && not (has_one (take i w)))

-- the highest 1 alone
abbrev pub highest_one_word : Word → Word
highest_one_word w = word (length w) (λ i. bit w i && not (has_one (drop (i + 1) w)))

-- ones from the highest 1 downward
abbrev pub filled_word : Word → Word
filled_word w = word (length w) (λ i. has_one (drop i w))
