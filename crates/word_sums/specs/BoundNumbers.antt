-- The bounds of a number with taint: its bits where each tainted one is 0, and where each is 1.
use Rattle.std.specs.Prelude.{ℕ, Bool, not, ◌&&◌, ◌||◌, nat_lt, if◌then◌else◌}
use Rattle.cif_defs.specs.Words.{digit, number, word}
use Rattle.rule_arith.specs.Bounds.{is_upper}
use Rattle.word_sums.specs.declared.bounds.Bounds.{Bounds}

-- the number of n bits whose bit i is f i
abbrev pub number_by : ℕ → (ℕ → Bool) → ℕ
number_by n f = number (word n f)

-- both bounds of a value of n bits
abbrev pub bounds_of : ℕ → ℕ → ℕ → Bounds
bounds_of n value taint = record {
  least = number_by n (λ i. digit value i && not (digit taint i));
  greatest = number_by n (λ i. digit value i || digit taint i);
}

-- n bits of both: below place k the greatest ones where low is 1, from k on where high is 1
abbrev pub side_of : ℕ → ℕ → Bool → Bool → Bounds → ℕ
side_of n k low high b = number_by n (λ i. if is_upper k low high i then digit b.greatest i else digit b.least i)

-- the bits below place k
abbrev pub bits_below : ℕ → ℕ → ℕ → ℕ
bits_below n k x = number_by n (λ i. nat_lt i k && digit x i)
