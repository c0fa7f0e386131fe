-- The taint of comparisons, on numbers.
use Rattle.std.specs.Prelude.{ℕ, Bool, true, false, not, ◌&&◌, ◌||◌, int_lt, nat_lt, if◌then◌else◌}
use Rattle.cif_defs.specs.Words.{Word, digit, has_one, word, xor}
use Rattle.cif_arith.specs.NumbersOfBits.{integer_of}
use Rattle.word_sums.specs.declared.sums.Summand.{Summand}
use Rattle.word_sums.specs.BoundNumbers.{bounds_of, side_of}

-- n bits between the bounds of an operand: below its start the greatest ones where low is 1, from there on where high is 1
abbrev pub bound_number : ℕ → Summand → Bool → Bool → ℕ
bound_number n x low high = side_of n x.start low high (bounds_of n x.value x.taint)

-- whether the number of x is less than that of y, of n bits each
abbrev pub less_number : ℕ → Bool → ℕ → ℕ → Bool
less_number n signed x y = int_lt (integer_of n signed x) (integer_of n signed y)

-- whether it depends on tainted bits that x is less than y: it can be less, and it can be not less
abbrev pub order_differs : ℕ → Bool → Summand → Summand → Bool
order_differs n signed x y =
    xor (less_number n signed (bound_number n x false true) (bound_number n y true false)) (less_number n signed (bound_number n x true false) (bound_number n y false true))

-- the places at which x and y have different bits in the case where the one sign is p and the other q
abbrev pub clash_word : ℕ → Summand → Summand → Bool → Bool → Word
clash_word n x y p q =
    word n (λ i. (digit (bound_number n x false p) i || digit (bound_number n y false q) i) && not (digit (bound_number n x true p) i && digit (bound_number n y true q) i))

-- whether x and y can be the same in that case
abbrev pub can_meet : ℕ → Summand → Summand → Bool → Bool → Bool
can_meet n x y p q = not (has_one (clash_word n x y p q))

-- in one of two cases, where there are two
abbrev pub some_case : Bool → (Bool → Bool) → Bool
some_case split f = if split then f false || f true else f false

abbrev pub second_meets : ℕ → Summand → Summand → Bool → Bool
second_meets n x y p = some_case (nat_lt y.start n) (can_meet n x y p)

abbrev pub meets_anywhere : ℕ → Summand → Summand → Bool
meets_anywhere n x y = some_case (nat_lt x.start n) (second_meets n x y)
