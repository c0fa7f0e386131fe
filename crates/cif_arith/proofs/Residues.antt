-- Numbers and integers modulo a power of two.
use Rattle.std.specs.Prelude.{ℕ, ◌+◌, ◌-◌, ◌*◌, ◌/◌, ◌%◌, ◌^◌, ◌<◌, ◌≤◌, ◌≡◌, Bool, true, false, ℤ, pos, negsuc, ◌-ℤ◌, refl}
use Rattle.std.specs.Int.{from_bool}
use Rattle.std.proofs.Common.{arith, sym, ap, ◌∙◌, inl, inr}
use Rattle.std.proofs.lemmas.Int.{ints}
use Rattle.std.proofs.lemmas.Nat.{div_below, mod-pow-add, mod_low, pow-add, pow_pos}
use Rattle.std.proofs.lemmas.Nat.Bits.{ones_shr}
use Rattle.std.proofs.Math.Nat.{add-mod_right, div-add-mod, mod-add-mod, mod-eq_of_lt, mod-lt}
use Rattle.cif_defs.specs.Words.{bit_value}
use Rattle.cif_defs.proofs.WordLaws.{le_or_lt}
use Rattle.cif_arith.specs.NumbersOfBits.{residue}

-- ---- numbers

-- to reduce modulo a higher power first changes nothing
pub mod-mod_power : (m n x : ℕ) → n ≤ m → x % 2 ^ m % 2 ^ n ≡ x % 2 ^ n
mod-mod_power m n x h =
    let power : x % 2 ^ m ≡ x % 2 ^ ((m - n) + n) = ap (λ k. x % 2 ^ k) (omega arith) in
    let low : x % 2 ^ n < 2 ^ n = mod-lt x (pow_pos n) in
    ap (λ k. k % 2 ^ n) (power ∙ mod-pow-add x (m - n) n) ∙ mod_low (x / 2 ^ n % 2 ^ (m - n)) n (x % 2 ^ n) low

-- what two operations modulo 2 ^ m leave of a sum of three
mod-sum_of_three : (m n x y z : ℕ) → n ≤ m → ((x + y) % 2 ^ m + z) % 2 ^ m % 2 ^ n ≡ (x + y + z) % 2 ^ n
mod-sum_of_three m n x y z h = ap (λ k. k % 2 ^ n) (mod-add-mod (x + y) (2 ^ m) z) ∙ mod-mod_power m n (x + y + z) h

-- the highest number of n bits, from that of m bits
pub mask-shr : (m n : ℕ) → n ≤ m → (2 ^ m - 1) / 2 ^ (m - n) ≡ 2 ^ n - 1
mask-shr m n h = ones_shr m (m - n) (omega arith) ∙ ap (λ k. 2 ^ k - 1) (omega arith)

-- ---- integers

pub residue_below : (n : ℕ) (z : ℤ) → residue n z < 2 ^ n
residue_below n (pos a) = mod-lt a (pow_pos n)
residue_below n (negsuc d) = let some : 0 < 2 ^ n = pow_pos n in omega arith

-- the complement of a number, modulo a lower power
complement-mod : (m n d : ℕ) → n ≤ m → d < 2 ^ m → (2 ^ m - 1 - d) % 2 ^ n ≡ 2 ^ n - 1 - d % 2 ^ n
complement-mod m n d h l =
    let some : 0 < 2 ^ n = pow_pos n in
    let power : 2 ^ m ≡ 2 ^ (m - n) * 2 ^ n = ap (λ k. 2 ^ k) (omega arith) ∙ pow-add 2 (m - n) n in
    let whole : d / 2 ^ n < 2 ^ (m - n) = div_below d (2 ^ n) (2 ^ (m - n)) some (omega arith) in
    let parts : 2 ^ n * (d / 2 ^ n) + d % 2 ^ n ≡ d = div-add-mod d (2 ^ n) in
    let low : d % 2 ^ n < 2 ^ n = mod-lt d some in
    let high : 2 ^ (m - n) ≡ 2 ^ (m - n) - 1 - d / 2 ^ n + 1 + d / 2 ^ n = omega arith in
    let product : 2 ^ (m - n) * 2 ^ n ≡ (2 ^ (m - n) - 1 - d / 2 ^ n + 1 + d / 2 ^ n) * 2 ^ n = ap (λ k. k * 2 ^ n) high in
    let split : 2 ^ m - 1 - d ≡ (2 ^ (m - n) - 1 - d / 2 ^ n) * 2 ^ n + (2 ^ n - 1 - d % 2 ^ n) = omega arith in
    ap (λ k. k % 2 ^ n) split ∙ mod_low (2 ^ (m - n) - 1 - d / 2 ^ n) n (2 ^ n - 1 - d % 2 ^ n) (omega arith)

-- an integer modulo a higher power decides it modulo a lower one
pub residue-mod : (m n : ℕ) (z : ℤ) → n ≤ m → residue m z % 2 ^ n ≡ residue n z
residue-mod m n (pos a) h = mod-mod_power m n a h
residue-mod m n (negsuc d) h =
    complement-mod m n (d % 2 ^ m) h (mod-lt d (pow_pos m)) ∙ ap (λ k. 2 ^ n - 1 - k) (mod-mod_power m n d h)

-- a difference as a wrapping subtraction has it
wrapped-difference : (m a b : ℕ) → a < 2 ^ m → b ≤ 2 ^ m → (a + (2 ^ m - b)) % 2 ^ m ≡ residue m (pos a -ℤ pos b)
wrapped-difference m a b h k = elim (le_or_lt a b) [
  | inl l ↦ (let down : pos a -ℤ pos b ≡ negsuc (b - a - 1) = omega (arith, ints) in
      let sum : (a + (2 ^ m - b)) % 2 ^ m ≡ a + (2 ^ m - b) = mod-eq_of_lt (omega arith) in
      let rest : (b - a - 1) % 2 ^ m ≡ b - a - 1 = mod-eq_of_lt (omega arith) in
      let same : a + (2 ^ m - b) ≡ 2 ^ m - 1 - (b - a - 1) % 2 ^ m = omega arith in
      sum ∙ same ∙ sym (ap (residue m) down))
  | inr l ↦ (let up : pos a -ℤ pos b ≡ pos (a - b) = omega (arith, ints) in
      let sum : a + (2 ^ m - b) ≡ a - b + 2 ^ m = omega arith in
      ap (λ x. x % 2 ^ m) sum ∙ add-mod_right (a - b) (2 ^ m) ∙ sym (ap (residue m) up))
]

pub residue-difference : (m n a b : ℕ) → n ≤ m → a < 2 ^ m → b ≤ 2 ^ m → (a + (2 ^ m - b)) % 2 ^ m % 2 ^ n ≡ residue n (pos a -ℤ pos b)
residue-difference m n a b h k l = ap (λ x. x % 2 ^ n) (wrapped-difference m a b k l) ∙ residue-mod m n (pos a -ℤ pos b) h

-- a bit as a number
from_bool-value : (b : Bool) → from_bool b ≡ bit_value b
from_bool-value true = refl
from_bool-value false = refl

-- a sum with a carry in, as two wrapping additions have it
pub carrying-sum : (m n a b : ℕ) (carry_in : Bool) → n ≤ m → ((a + b) % 2 ^ m + from_bool carry_in) % 2 ^ m % 2 ^ n ≡ (a + b + bit_value carry_in) % 2 ^ n
carrying-sum m n a b carry_in h = mod-sum_of_three m n a b (from_bool carry_in) h ∙ ap (λ k. (a + b + k) % 2 ^ n) (from_bool-value carry_in)
