-- The number of joined words.
use Rattle.std.specs.Prelude.{ℕ, suc, ◌+◌, ◌*◌, ◌^◌, ◌<◌, ◌≡◌, [], ◌∷◌, ◌++◌, length, take}
use Rattle.std.proofs.Common.{arith, ap, ◌∙◌}
use Rattle.std.proofs.lemmas.List.{take_more, length-take-le}
use Rattle.std.proofs.Math.Nat.{pow-succ', mul_assoc}
use Rattle.cif_defs.specs.Words.{Word, bit, bit_value, number}

pub number-append : (u v : Word) → number (u ++ v) ≡ number u + 2 ^ length u * number v
number-append [] v = omega arith
number-append (b ∷ u) v =
    let rest : number (u ++ v) ≡ number u + 2 ^ length u * number v = number-append u v in
    let power : 2 ^ suc (length u) * number v ≡ 2 * (2 ^ length u * number v) = ap (λ k. k * number v) (pow-succ' 2 (length u)) ∙ mul_assoc 2 (2 ^ length u) (number v) in
    omega arith

-- one more bit
pub number-take_more : (w : Word) (i : ℕ) → i < length w → number (take (i + 1) w) ≡ number (take i w) + 2 ^ i * bit_value (bit w i)
number-take_more w i h =
    let more : number (take (i + 1) w) ≡ number (take i w ++ bit w i ∷ []) = ap number (take_more w i _ h) in
    let apart : number (take i w ++ bit w i ∷ []) ≡ number (take i w) + 2 ^ length (take i w) * (bit_value (bit w i) + 2 * 0) = number-append (take i w) (bit w i ∷ []) in
    let long : 2 ^ length (take i w) * (bit_value (bit w i) + 2 * 0) ≡ 2 ^ i * (bit_value (bit w i) + 2 * 0) = ap (λ k. 2 ^ k * (bit_value (bit w i) + 2 * 0)) (length-take-le i w (omega arith)) in
    omega arith
