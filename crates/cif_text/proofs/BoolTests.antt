-- What tests that hold say.
use Rattle.std.specs.Prelude.{ℕ, ◌<◌, ◌≡◌, ◌==◌, nat_lt, Bool, true, false, not, ◌&&◌, refl}
use Rattle.std.proofs.Common.{arith}
use Rattle.std.proofs.lemmas.Bool.Decides.{nat_tests}

pub both : (a b : Bool) → (a && b) ≡ true → (a ≡ true) × (b ≡ true)
both true b h = (refl, h)
both false b h = absurd (cc)

pub and_true : (a b : Bool) → a ≡ true → b ≡ true → (a && b) ≡ true
and_true true b p q = q
and_true false b p q = absurd (cc)

pub positive : (n : ℕ) → nat_lt 0 n ≡ true → 0 < n
positive n h = grind (arith, nat_tests)

pub test_positive : (n : ℕ) → 0 < n → nat_lt 0 n ≡ true
test_positive n h = grind (arith, nat_tests)

pub below : (n m : ℕ) → nat_lt n m ≡ true → n < m
below n m h = grind (arith, nat_tests)

pub same_number : (n m : ℕ) → (n == m) ≡ true → n ≡ m
same_number n m h = grind (arith, nat_tests)

pub untrue : (s : Bool) → not s ≡ true → s ≡ false
untrue true h = absurd (cc)
untrue false h = refl
