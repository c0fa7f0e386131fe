-- Numbers, digit by digit.
use Rattle.std.specs.Prelude.{ℕ, ◌+◌, ◌-◌, ◌*◌, ◌^◌, nat_lt, Option, Some, None, if◌then◌else◌}

-- a number, where it is below 2 ^ 64
abbrev pub below_limit : ℕ → Option ℕ
below_limit x = if nat_lt x (2 ^ 64) then Some x else None

-- a number with one more decimal digit
abbrev pub number_with : ℕ → ℕ → ℕ
number_with n b = n * 10 + (b - 48)
