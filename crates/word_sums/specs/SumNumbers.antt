-- The taint of sums, on numbers.
use Rattle.std.specs.Prelude.{ℕ, ◌+◌, ◌%◌, ◌^◌, nat_lt, Bool, true, false, bit_or, bit_xor, if◌then◌else◌}
use Rattle.cif_defs.specs.Words.{bit_value}
use Rattle.word_sums.specs.declared.sums.Carry.{Carry}
use Rattle.word_sums.specs.declared.sums.Summand.{Summand}
use Rattle.word_sums.specs.declared.sums.Sums.{Sums}
use Rattle.word_sums.specs.BoundNumbers.{bits_below, bounds_of, side_of}

-- ---- cases: a bit is tainted where a case taints it, or where the values of two cases differ

abbrev pub joined_number : ℕ → ℕ → ℕ → ℕ → ℕ
joined_number t0 t1 v0 v1 = bit_or (bit_or t0 t1) (bit_xor v0 v1)

-- g upper a b: the number in the case where one sign is a and the other b, at its least or at its greatest words
abbrev pub case_number : (Bool → Bool → Bool → ℕ) → Bool → Bool → ℕ
case_number g a b = bit_xor (g false a b) (g true a b)

abbrev pub second_number : Bool → (Bool → Bool → Bool → ℕ) → Bool → ℕ
second_number split g a = if split then joined_number (case_number g a false) (case_number g a true) (g false a false) (g false a true) else case_number g a false

-- first, second: whether there are two cases of the one sign, and of the other
abbrev pub cases_number : Bool → Bool → (Bool → Bool → Bool → ℕ) → ℕ
cases_number first second g =
    if first
    then joined_number (second_number second g false) (second_number second g true) (g false false false) (g false true false)
    else second_number second g false

-- ---- sums of bounds

-- the sum at the least or the greatest words, in the case where the one sign is p and the other q
abbrev pub sum_number : Sums → Bool → Bool → Bool → ℕ
sum_number s upper p q =
    (side_of s.width s.first_start upper p s.first + side_of s.width s.second_start upper q s.second + bit_value (if upper then s.carry.greatest else s.carry.least)) % 2 ^ s.width

abbrev pub second_case : Sums → Bool → ℕ
second_case s p = second_number (nat_lt s.second_start s.width) (sum_number s) p

abbrev pub sums_number : Sums → ℕ
sums_number s = cases_number (nat_lt s.first_start s.width) (nat_lt s.second_start s.width) (sum_number s)

-- the sums of the bounds of two summands of n bits
abbrev pub sums_between : ℕ → Summand → Summand → Carry → Sums
sums_between n x y carry = record {
  width = n;
  first = bounds_of n x.value x.taint;
  first_start = x.start;
  second = bounds_of n y.value y.taint;
  second_start = y.start;
  carry = carry;
}

abbrev pub no_carry : Carry
no_carry = record { least = false; greatest = false }

-- the taint of both summands that is no sign's
abbrev pub single_taint : ℕ → Summand → Summand → ℕ
single_taint n x y = bit_or (bits_below n x.start x.taint) (bits_below n y.start y.taint)

-- the taint of the sum of two summands of n bits: where a tainted bit stands that is no sign, and where the sums of
-- bounds differ
abbrev pub sum_taint_number : ℕ → Summand → Summand → ℕ
sum_taint_number n x y = bit_or (single_taint n x y) (sums_number (sums_between n x y no_carry))
