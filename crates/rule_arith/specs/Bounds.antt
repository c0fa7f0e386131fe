-- The bounds of a word with taint: its bits where each tainted one is 0, or where each is 1.
use Rattle.std.specs.Prelude.{ℕ, ◌+◌, ◌-◌, nat_lt, Bool, true, false, ◌&&◌, List, map, if◌then◌else◌}
use Rattle.std.specs.List.{range_with_len}
use Rattle.cif_defs.specs.Words.{zeros}
use Rattle.cif_term.specs.declared.ops.Op1.TheVariants.{Not}
use Rattle.cif_term.specs.declared.ops.Op2.TheVariants.{And, Or}
use Rattle.cif_term.specs.Formulas.{Formula, Const, Pick, Join, One, Two}

-- the place from which a word of m bits that is extended to n bits shows its sign bit; n where it shows it once at most
abbrev pub sign_start : ℕ → Bool → ℕ → ℕ
sign_start n signed m = if signed && nat_lt m n then m - 1 else n

-- both bounds of f with taint t: the least word, and above it the greatest
abbrev pub bounds : Formula → Formula → Formula
bounds f t = Join (Two And f (One Not t)) (Two Or f t)

-- which half of a pair of words each place takes: below place k the higher one where low is 1, from k on where high is 1
abbrev pub is_upper : ℕ → Bool → Bool → ℕ → Bool
is_upper k low high i = if nat_lt i k then low else high

abbrev pub half_places : ℕ → ℕ → Bool → Bool → List ℕ
half_places n k low high = map (λ i. if is_upper k low high i then n + i else i) (range_with_len 0 n)

-- a word of n bits from the halves of a pair of such words
abbrev pub half_of : ℕ → ℕ → Bool → Bool → Formula → Formula
half_of n k low high pair = Pick pair (half_places n k low high)

-- the taint t of n bits below place k, and 0 from there on
abbrev pub taint_below : ℕ → ℕ → Formula → Formula
taint_below n k t = half_of n k false true (Join t (Const (zeros n)))

-- the place from which a word of m bits, extended to n bits, shows bits that count down: its sign, where it is signed
abbrev pub order_start : ℕ → Bool → ℕ → ℕ
order_start n signed m = if signed then m - 1 else n

-- the words of least and of greatest number between the bounds
abbrev pub least_of : ℕ → ℕ → Formula → Formula
least_of n k pair = half_of n k false true pair

abbrev pub greatest_of : ℕ → ℕ → Formula → Formula
greatest_of n k pair = half_of n k true false pair
