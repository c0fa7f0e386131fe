-- Numbers of n bits: the integers that they stand for, integers modulo 2 ^ n, and carries.
use Rattle.std.specs.Prelude.{ℕ, ◌+◌, ◌-◌, ◌%◌, ◌^◌, Bool, ◌&&◌, nat_le, ℤ, pos, ◌-ℤ◌, if◌then◌else◌, unsigned_abs}
use Rattle.std.specs.Int.{int_rem_euclid}
use Rattle.std.specs.Ordering.{int_eq}
use Rattle.cif_defs.specs.Words.{bit_value, digit, number, word}

-- the integer that n bits of the number x stand for: x, less 2 ^ n where they are signed and the highest is 1
abbrev pub integer_of : ℕ → Bool → ℕ → ℤ
integer_of n signed x = pos x -ℤ pos (if signed && digit x (n - 1) then 2 ^ n else 0)

-- an integer modulo 2 ^ n
abbrev pub residue : ℕ → ℤ → ℕ
residue n z = unsigned_abs (int_rem_euclid z (pos (2 ^ n)))

-- a division of the integers that two numbers of n bits stand for, modulo 2 ^ n, where a zero divisor gives 0
abbrev pub division : (ℤ → ℤ → ℤ) → ℕ → Bool → ℕ → ℕ → ℕ
division f n signed a b = residue n (if int_eq (integer_of n signed b) (pos 0) then pos 0 else f (integer_of n signed a) (integer_of n signed b))

-- a number of n bits, complemented where invert is 1
abbrev pub inverted_where : Bool → ℕ → ℕ → ℕ
inverted_where invert n x = if invert then 2 ^ n - 1 - x else x

-- whether there is a carry out of place i: the lowest i + 1 bits of both and the carry in add up to 2 ^ (i + 1) or more
abbrev pub carry_out : ℕ → ℕ → Bool → ℕ → Bool
carry_out a b carry_in i = nat_le (2 ^ (i + 1)) (a % 2 ^ (i + 1) + b % 2 ^ (i + 1) + bit_value carry_in)

-- the number whose bit i is the carry out of place i
abbrev pub carries : ℕ → ℕ → ℕ → Bool → ℕ
carries n a b carry_in = number (word n (λ i. carry_out a b carry_in i))
