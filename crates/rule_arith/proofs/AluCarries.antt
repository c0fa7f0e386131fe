-- The exact taint of the carries of $alu.
use Rattle.std.specs.Prelude.{ℕ, zero, suc, ◌+◌, ◌*◌, ◌^◌, ◌<◌, ◌≤◌, ◌≡◌, nat_le, nat_lt, Bool, true, false, if◌then◌else◌, List, [], ◌∷◌, length, refl}
use Rattle.std.proofs.Common.{add-one, arith, sym, ap, ◌∙◌}
use Rattle.std.proofs.Math.Nat.{pow-succ'}
use Rattle.std.proofs.lemmas.Bool.Decides.{nat_tests}
use Rattle.cif_defs.specs.Completions.{Completes, IsExact}
use Rattle.cif_defs.specs.Meanings.{alu_carry_word, alu_operand, alu_sum}
use Rattle.cif_defs.specs.Words.{Word, bit, bit_value, extend, extended_bit, majority, number, operand, word, xor}
use Rattle.cif_defs.proofs.WordLaws.{bit-word, length-word}
use Rattle.cif_defs.proofs.Exact.{extended_same}
use Rattle.cif_defs.proofs.Numbers.{Le, word-same}
use Rattle.cif_defs.proofs.SumExact.{operand_bit}
use Rattle.cif_defs.proofs.Sums.{carry, carry_local, ripple, self_completes}
use Rattle.cif_defs.proofs.WordNumbers.{number_below}
use Rattle.rule_arith.specs.Bounds.{is_upper, sign_start}
use Rattle.rule_arith.proofs.AddendSums.{carry_grows, le_both, le_word}
use Rattle.rule_arith.proofs.Limits.{at_bound, greatest, least, limit, limit_bounds, limit_completes}
use Rattle.rule_arith.proofs.SumRules.{xor_none}
use Rattle.rule_arith.proofs.Turns.{IsSpread}
use Rattle.rule_arith.proofs.LastBit.{four, four_complete, last_exact, last_rule}
use Rattle.rule_arith.proofs.AluRules.{bit_carry}

-- ---- the carries

-- a sum of words, and what it carries out
sum_parts : (x y c : Bool) → bit_value x + bit_value y + bit_value c ≡ bit_value (xor (xor x y) c) + 2 * bit_value (majority x y c)
sum_parts true true true = refl
sum_parts true true false = refl
sum_parts true false true = refl
sum_parts true false false = refl
sum_parts false true true = refl
sum_parts false true false = refl
sum_parts false false true = refl
sum_parts false false false = refl

carry_tail : (c x : Bool) (a : Word) (y : Bool) (b : Word) (i : ℕ) → carry c (x ∷ a) (y ∷ b) (suc i) ≡ carry (majority x y c) a b i
carry_tail c x a y b zero = refl
carry_tail c x a y b (suc i) = ap (majority (bit a i) (bit b i)) (carry_tail c x a y b i)

length-ripple : (c : Bool) (a b : Word) → length b ≡ length a → length (ripple c a b) ≡ length a
length-ripple c [] b h = refl
length-ripple c (x ∷ a) [] h = absurd (let q : 0 ≡ suc (length a) = h in omega arith)
length-ripple c (x ∷ a) (y ∷ b) h = ap suc (length-ripple (majority x y c) a b (let q : suc (length b) ≡ suc (length a) = h in omega arith))

number_ripple : (c : Bool) (a b : Word) → length b ≡ length a → number a + number b + bit_value c ≡ number (ripple c a b) + 2 ^ length a * bit_value (carry c a b (length a))
number_ripple c [] [] h = omega arith
number_ripple c [] (y ∷ b) h = absurd (let q : suc (length b) ≡ 0 = h in omega arith)
number_ripple c (x ∷ a) [] h = absurd (let q : 0 ≡ suc (length a) = h in omega arith)
number_ripple c (x ∷ a) (y ∷ b) h =
    let m : Bool = majority x y c in
    let rest : number a + number b + bit_value m ≡ number (ripple m a b) + 2 ^ length a * bit_value (carry m a b (length a)) = number_ripple m a b (let q : suc (length b) ≡ suc (length a) = h in omega arith) in
    let low : bit_value x + bit_value y + bit_value c ≡ bit_value (xor (xor x y) c) + 2 * bit_value m = sum_parts x y c in
    let power : 2 ^ suc (length a) ≡ 2 * 2 ^ length a = pow-succ' 2 (length a) in
    let out : bit_value (carry c (x ∷ a) (y ∷ b) (suc (length a))) ≡ bit_value (carry m a b (length a)) = ap bit_value (carry_tail c x a y b (length a)) in
    let whole : 2 ^ suc (length a) * bit_value (carry c (x ∷ a) (y ∷ b) (suc (length a))) ≡ 2 * (2 ^ length a * bit_value (carry m a b (length a))) =
    ap (λ k. k * bit_value (carry c (x ∷ a) (y ∷ b) (suc (length a)))) power ∙ ap (λ k. 2 * 2 ^ length a * k) out ∙ (omega arith) in
    omega arith

carried_out : (p r : ℕ) (b : Bool) → r < p → nat_le p (r + p * bit_value b) ≡ b
carried_out p r true h = grind (arith, nat_tests)
carried_out p r false h = grind (arith, nat_tests)

carry_out : (c : Bool) (a b : Word) → length b ≡ length a → nat_le (2 ^ length a) (number a + number b + bit_value c) ≡ carry c a b (length a)
carry_out c a b h =
    let small : number (ripple c a b) < 2 ^ length a = (let l : length (ripple c a b) ≡ length a = length-ripple c a b h in let k : number (ripple c a b) < 2 ^ length (ripple c a b) = number_below (ripple c a b) in
    let same : 2 ^ length (ripple c a b) ≡ 2 ^ length a = ap (λ j. 2 ^ j) l in omega arith) in
    ap (nat_le (2 ^ length a)) (number_ripple c a b h) ∙ carried_out (2 ^ length a) (number (ripple c a b)) (carry c a b (length a)) small

abbrev pub alu_carry_bit : ℕ → Bool → ℕ → List Word → Bool
alu_carry_bit n signed i us = bit (alu_carry_word n signed (bit (operand us 2) 0) (bit (operand us 3) 0) (operand us 0) (operand us 1)) i

plain_extend : (n : ℕ) (signed : Bool) (w : Word) → extend n signed w ≡ alu_operand n signed false w
plain_extend n signed w = word-same n _ _ (λ i h. xor_none (extended_bit signed i w))

-- bit i of the carries is the carry into place i + 1 of the sum
pub carry_is : (n : ℕ) (signed c inv : Bool) (u w : Word) (i : ℕ) → i < n → bit (alu_carry_word n signed c inv u w) i ≡ carry c (alu_operand n signed false u) (alu_operand n signed inv w) (suc i)
carry_is n signed c inv u w i l =
    let x : Word = alu_operand (i + 1) signed false u in
    let y : Word = alu_operand (i + 1) signed inv w in
    let long_x : length x ≡ i + 1 = length-word (i + 1) _ in
    let long_y : length y ≡ length x = length-word (i + 1) _ ∙ sym long_x in
    bit-word n (λ k. nat_le (2 ^ (k + 1)) (alu_sum (k + 1) signed c inv u w)) i false l
    ∙ ap (λ (v : Word). nat_le (2 ^ (i + 1)) (number v + number y + bit_value c)) (plain_extend (i + 1) signed u)
    ∙ ap (λ k. nat_le (2 ^ k) (number x + number y + bit_value c)) (sym long_x)
    ∙ carry_out c x y long_y ∙ ap (carry c x y) (long_x ∙ add-one i)
    ∙ carry_local c x (alu_operand n signed false u) y (alu_operand n signed inv w) (suc i)
    (λ k h. operand_bit (i + 1) signed false u k (omega arith) ∙ sym (operand_bit n signed false u k (omega arith)))
    (λ k h. operand_bit (i + 1) signed inv w k (omega arith) ∙ sym (operand_bit n signed inv w k (omega arith)))

-- an operand with all its tainted bits 0, or all 1, extended and complemented where inv is 1
abbrev pub full_bound : ℕ → Bool → Bool → Word → Word → Bool → Word
full_bound n signed inv v t upper = word n (λ i. at_bound (is_upper n upper upper i) (xor (extended_bit signed i v) inv) (extended_bit signed i t))

pub same_side : (k i : ℕ) (upper : Bool) → is_upper k upper upper i ≡ upper
same_side k i upper = by_test (nat_lt i k)
  where
    by_test : (b : Bool) → (if b then upper else upper) ≡ upper
    by_test true = refl
    by_test false = refl

full_reached : (n : ℕ) (signed inv : Bool) (v t : Word) (upper : Bool) → length t ≡ length v → 1 ≤ length v → (u : Word) × Completes v t u × (alu_operand n signed inv u ≡ full_bound n signed inv v t upper)
full_reached n signed inv v t upper e some =
    let k : ℕ = sign_start n signed (length v) in (
      limit (xor upper inv) (xor upper inv) k v t,
      limit_completes (xor upper inv) (xor upper inv) k v t e,
      limit_bounds n signed inv v t upper upper e some
          ∙ word-same n _ _ (λ i h. ap (λ s. at_bound s (xor (extended_bit signed i v) inv) (extended_bit signed i t)) (same_side k i upper ∙ sym (same_side n i upper))),
    )

full_above : (n : ℕ) (signed inv : Bool) (v t u : Word) → length t ≡ length v → Completes v t u → (k : ℕ) → Le (bit (full_bound n signed inv v t false) k) (bit (alu_operand n signed inv u) k)
full_above n signed inv v t u e c k = le_word n k _ _ (λ l q.
    least (xor (extended_bit signed k v) inv) (extended_bit signed k t) (xor (extended_bit signed k u) inv) (λ h. ap (λ b. xor b inv) (extended_same signed k v t u e c h))
    (sym (ap (λ s. at_bound s (xor (extended_bit signed k v) inv) (extended_bit signed k t)) (same_side n k false)) ∙ q))

full_below : (n : ℕ) (signed inv : Bool) (v t u : Word) → length t ≡ length v → Completes v t u → (k : ℕ) → Le (bit (alu_operand n signed inv u) k) (bit (full_bound n signed inv v t true) k)
full_below n signed inv v t u e c k = le_word n k _ _ (λ l q.
    ap (λ s. at_bound s (xor (extended_bit signed k v) inv) (extended_bit signed k t)) (same_side n k true)
    ∙ greatest (xor (extended_bit signed k v) inv) (extended_bit signed k t) (xor (extended_bit signed k u) inv) (λ h. ap (λ b. xor b inv) (extended_same signed k v t u e c h)) q)

abbrev pub alu_carries : ℕ → Bool → Word → Word → Word → Word → Word → Word → Bool → ℕ → Bool → Bool → Bool → Bool
alu_carries n signed a ta b tb c tc inv i upper p q = carry (at_bound upper (bit c 0) (bit tc 0)) (full_bound n signed false a ta upper) (full_bound n signed inv b tb upper) (suc i)

carry_spread : (n : ℕ) (signed : Bool) (i : ℕ) (a ta b tb c tc d td : Word) → length ta ≡ length a → length tb ≡ length b → length tc ≡ length c → 1 ≤ length a → 1 ≤ length b → i < n → bit td 0 ≡ false
    → IsSpread (alu_carry_bit n signed i) (four a b c d) (four ta tb tc td) false false false false (alu_carries n signed a ta b tb c tc (bit d 0) i)
carry_spread n signed i a ta b tb c tc d td e f k some_a some_b l t =
    let z = bit_carry c tc k in
    record {
      alone = λ h. absurd (cc);
      reached = λ upper p q.
          let u = full_reached n signed false a ta upper e some_a in
          let w = full_reached n signed (bit d 0) b tb upper f some_b in
          let y = z.reached upper in (
            four u.0 w.0 y.0 d,
            four_complete a ta u.0 b tb w.0 c tc y.0 d td d u.1 w.1 y.1 (self_completes d td),
            carry_is n signed (bit y.0 0) (bit d 0) u.0 w.0 i l ∙ ap (λ x. carry x (alu_operand n signed false u.0) (alu_operand n signed (bit d 0) w.0) (suc i)) y.2
                ∙ ap (λ (x : Word). carry (at_bound upper (bit c 0) (bit tc 0)) x (alu_operand n signed (bit d 0) w.0) (suc i)) u.2
                ∙ ap (λ (x : Word). carry (at_bound upper (bit c 0) (bit tc 0)) (full_bound n signed false a ta upper) x (suc i)) w.2 ∙ xor_none _,
          );
      within = λ us h off. (
        false,
        false,
        λ same.
            let u : Word = operand us 0 in
            let w : Word = operand us 1 in
            let y : Word = operand us 2 in
            ap (λ x. bit (alu_carry_word n signed (bit y 0) x u w) i) ((h.each 3).same 0 t) ∙ carry_is n signed (bit y 0) (bit d 0) u w i l
            ∙ le_both (carry (bit y 0) (alu_operand n signed false u) (alu_operand n signed (bit d 0) w) (suc i)) (alu_carries n signed a ta b tb c tc (bit d 0) i false false false) (alu_carries n signed a ta b tb c tc (bit d 0) i true false false)
            (carry_grows _ _ _ _ _ _ (suc i) (z.above y (h.each 2)) (full_above n signed false a ta u e (h.each 0)) (full_above n signed (bit d 0) b tb w f (h.each 1)))
            (carry_grows _ _ _ _ _ _ (suc i) (z.below y (h.each 2)) (full_below n signed false a ta u e (h.each 0)) (full_below n signed (bit d 0) b tb w f (h.each 1))) same
            ∙ xor_none _,
      );
      one_first = λ h u p q. refl;
      one_second = λ h u p q. refl;
    }

abbrev pub alu_carry_rule : ℕ → Bool → Word → Word → Word → Word → Word → Word → Word → Word → ℕ → Bool
alu_carry_rule n signed a ta b tb c tc d td = last_rule false false (λ i. false) (alu_carries n signed a ta b tb c tc) d td

pub alu_carry_exact : (n : ℕ) (signed : Bool) (a ta b tb c tc d td w : Word) → length ta ≡ length a → length tb ≡ length b → length tc ≡ length c → 1 ≤ length a → 1 ≤ length b → length d ≡ 1 → length td ≡ 1
    → w ≡ word n (alu_carry_rule n signed a ta b tb c tc d td) → IsExact n (alu_carry_bit n signed) (four a b c d) (four ta tb tc td) w
alu_carry_exact n signed a ta b tb c tc d td w e f k some_a some_b one_d one_td q =
    last_exact n (alu_carry_bit n signed) a ta b tb c tc d td (λ i. false) false false (alu_carries n signed a ta b tb c tc) one_d one_td
    (λ i x tx l t. carry_spread n signed i a ta b tb c tc x tx e f k some_a some_b l t) w q
