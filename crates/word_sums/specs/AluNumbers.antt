-- The taint of $alu, on numbers.
use Rattle.std.specs.Prelude.{ℕ, ◌^◌, ◌<◌, ◌≤◌, ◌≡◌, Bool, true, false, not, ◌&&◌, ◌||◌, bit_or, bit_xor, if◌then◌else◌}
use Rattle.cif_defs.specs.Words.{digit, extend, extended_bit, word, word_of, xor}
use Rattle.cif_arith.specs.NumbersOfBits.{carries}
use Rattle.rule_arith.specs.Bounds.{sign_start}
use Rattle.word_numbers.specs.declared.words.Words.{Words}
use Rattle.word_sums.specs.declared.alu.AluOperands.{AluOperands}
use Rattle.word_sums.specs.declared.shape.Shape.{Shape}
use Rattle.word_sums.specs.declared.sums.Carry.{Carry}
use Rattle.word_sums.specs.declared.sums.Summand.{Summand}
use Rattle.word_sums.specs.BoundNumbers.{bounds_of}
use Rattle.word_sums.specs.SumNumbers.{joined_number, single_taint, sum_number, sums_between, sums_number}

-- a summand whose numbers have n bits
pub record IsShort (n : ℕ) (x : Summand) : Type 0 where
  pub value : x.value < 2 ^ n
  pub taint : x.taint < 2 ^ n
  pub start : x.start ≤ n

-- a summand of n bits: an operand of m bits, v with taint t, extended, and complemented where inv is 1
pub record IsAddend (n : ℕ) (signed inv : Bool) (m v t : ℕ) (x : Summand) : Type 0 where
  pub value : word_of n x.value ≡ word n (λ i. xor (extended_bit signed i (word_of m v)) inv)
  pub value_fits : x.value < 2 ^ n
  pub taint : word_of n x.taint ≡ extend n signed (word_of m t)
  pub taint_fits : x.taint < 2 ^ n
  pub start : x.start ≡ sign_start n signed m
  pub inside : x.start ≤ n

-- the least and the greatest of bit 0 of v with taint t
abbrev pub least_bit : ℕ → ℕ → Bool
least_bit v t = digit v 0 && not (digit t 0)

abbrev pub greatest_bit : ℕ → ℕ → Bool
greatest_bit v t = digit v 0 || digit t 0

-- what a cell adds, from its operands' values v and taints t
pub record AreAluOperands (s : Shape) (v t : Words) (o : AluOperands) : Type 0 where
  pub first : IsAddend s.y s.signed false s.a v.a t.a o.first
  pub least : IsAddend s.y s.signed (least_bit v.d t.d) s.b v.b t.b o.least
  pub greatest : IsAddend s.y s.signed (greatest_bit v.d t.d) s.b v.b t.b o.greatest
  pub least_carry : o.carry.least ≡ least_bit v.c t.c
  pub greatest_carry : o.carry.greatest ≡ greatest_bit v.c t.c

-- the taint of Y
abbrev pub alu_sum_number : ℕ → AluOperands → ℕ
alu_sum_number n o =
    bit_or (single_taint n o.first o.least)
    (joined_number (sums_number (sums_between n o.first o.least o.carry)) (sums_number (sums_between n o.first o.greatest o.carry))
    (sum_number (sums_between n o.first o.least o.carry) false false false) (sum_number (sums_between n o.first o.greatest o.carry) false false false))

-- the least or the greatest number of a summand
abbrev pub full_number : ℕ → Summand → Bool → ℕ
full_number n x upper = if upper then (bounds_of n x.value x.taint).greatest else (bounds_of n x.value x.taint).least

-- the carries of the sum at a bound
abbrev pub carries_number : ℕ → Summand → Summand → Carry → Bool → ℕ
carries_number n x y c upper = carries n (full_number n x upper) (full_number n y upper) (if upper then c.greatest else c.least)

abbrev pub carries_taint : ℕ → Summand → Summand → Carry → ℕ
carries_taint n x y c = bit_xor (carries_number n x y c false) (carries_number n x y c true)

-- the taint of CO
abbrev pub alu_carry_number : ℕ → AluOperands → ℕ
alu_carry_number n o =
    joined_number (carries_taint n o.first o.least o.carry) (carries_taint n o.first o.greatest o.carry)
    (carries_number n o.first o.least o.carry false) (carries_number n o.first o.greatest o.carry false)
