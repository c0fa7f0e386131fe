-- Whether a control is active.
use Rattle.std.specs.Prelude.{ℕ, ◌≡◌, Bool, true, false, not, ◌&&◌, refl}
use Rattle.std.proofs.Common.{ap, ◌∙◌}
use mathlib.Core.Bool.{beq}
use Rattle.cif_defs.specs.Words.{xor}
use Rattle.cif_defs.specs.Registers.{is_active}
use Rattle.cif_register_bits.specs.declared.tainted_bit.TaintedBit.{TaintedBit}
use Rattle.cif_register_bits.specs.Steering.{active_bit}

unequal : (a b : Bool) → not (beq a b) ≡ xor a b
unequal true true = refl
unequal true false = refl
unequal false true = refl
unequal false false = refl

same_active : (m n : ℕ) (b t u v a0 a1 a : Bool) → m ≡ n → b ≡ u → t ≡ v → a0 ≡ is_active m false → a1 ≡ is_active m true → a ≡ is_active m b
    → let x : TaintedBit = record { value = a; taint = t && not (beq a0 a1) } in x ≡ active_bit n (record { value = u; taint = v })
same_active m n b t u v a0 a1 a e f g h0 h1 h =
    let k : not (beq a0 a1) ≡ xor (is_active n false) (is_active n true) =
    unequal a0 a1 ∙ ap (λ z. xor z a1) (h0 ∙ ap (λ p. is_active p false) e) ∙ ap (xor (is_active n false)) (h1 ∙ ap (λ p. is_active p true) e) in
    let w : a ≡ is_active n u = h ∙ ap (λ p. is_active p b) e ∙ ap (is_active n) f in
    cc

-- the control whose bit this is
pub found_active : (m n : ℕ) (x y : TaintedBit) (a0 a1 a : Bool) → x ≡ y → m ≡ n → a0 ≡ is_active m false → a1 ≡ is_active m true → a ≡ is_active m x.value
    → let z : TaintedBit = record { value = a; taint = x.taint && not (beq a0 a1) } in z ≡ active_bit n y
found_active m n x y a0 a1 a e k h0 h1 h = same_active m n x.value x.taint _ _ a0 a1 a k (ap (λ (z : TaintedBit). z.value) e) (ap (λ (z : TaintedBit). z.taint) e) h0 h1 h
