-- The exact taint of the sum of $alu, and of its exclusive or.
use Rattle.std.specs.Prelude.{ℕ, ◌<◌, ◌≤◌, ◌≡◌, ◌≢◌, Bool, true, false, ◌||◌, List, length, refl}
use Rattle.std.proofs.Common.{sym, ap, ◌∙◌, inl, inr}
use Rattle.cif_defs.specs.Completions.{AllComplete, CanDiffer, IsExact}
use Rattle.cif_defs.specs.Meanings.{alu_operand, alu_sum_word, alu_xor_word}
use Rattle.cif_defs.specs.Words.{Word, bit, extended_bit, operand, word, xor}
use Rattle.cif_defs.proofs.WordLaws.{bit-word, length-word}
use Rattle.cif_defs.proofs.Exact.{extended_filled, extended_same, filled, filled_completes, true_by}
use Rattle.cif_defs.proofs.SumExact.{alu_is_sum, operand_bit}
use Rattle.cif_defs.proofs.Sums.{self_completes, sum_bit}
use Rattle.rule_arith.proofs.AddendSums.{IsCarry, IsSumOf, operand_addend, sum_spread}
use Rattle.rule_arith.proofs.Limits.{at_bound, at_bound_tainted, bit-limit, bound_word, greatest, least, limit, limit_completes}
use Rattle.rule_arith.proofs.SumRules.{has_sides, stands_single, xor_none}
use Rattle.rule_arith.proofs.Turns.{or_off, or_on, xor_cancel}
use Rattle.rule_arith.proofs.LastBit.{four, four_complete, last_exact, last_rule}

-- ---- a carry in of one bit

pub bit_carry : (c tc : Word) → length tc ≡ length c → IsCarry c tc (λ z. bit z 0) (λ upper. at_bound upper (bit c 0) (bit tc 0))
bit_carry c tc e = record {
  reached = λ upper. (limit upper upper 1 c tc, limit_completes upper upper 1 c tc e, bit-limit upper upper 1 c tc 0 e);
  above = λ u d. least (bit c 0) (bit tc 0) (bit u 0) (d.same 0);
  below = λ u d. greatest (bit c 0) (bit tc 0) (bit u 0) (d.same 0);
}

-- ---- the sum

abbrev pub alu_sum_bit : ℕ → Bool → ℕ → List Word → Bool
alu_sum_bit n signed i us = bit (alu_sum_word n signed (bit (operand us 2) 0) (bit (operand us 3) 0) (operand us 0) (operand us 1)) i

alu_sum_of : (n : ℕ) (signed : Bool) (i : ℕ) (a ta b tb c tc d td : Word) → i < n → bit td 0 ≡ false
    → IsSumOf i (alu_sum_bit n signed i) (four a b c d) (four ta tb tc td) a ta b tb c tc (alu_operand n signed false) (alu_operand n signed (bit d 0)) (λ z. bit z 0) false
alu_sum_of n signed i a ta b tb c tc d td l t = record {
  make = λ u w z. four u w z d;
  complete = λ u w z p q r. four_complete a ta u b tb w c tc z d td d p q r (self_completes d td);
  value = λ u w z. alu_is_sum n signed (bit z 0) (bit d 0) u w i l ∙ xor_none _;
  first = λ us. operand us 0;
  second = λ us. operand us 1;
  carried = λ us. operand us 2;
  first_completes = λ us e. e.each 0;
  second_completes = λ us e. e.each 1;
  carried_completes = λ us e. e.each 2;
  split = λ us e. ap (λ x. bit (alu_sum_word n signed (bit (operand us 2) 0) x (operand us 0) (operand us 1)) i) ((e.each 3).same 0 t)
      ∙ alu_is_sum n signed (bit (operand us 2) 0) (bit d 0) (operand us 0) (operand us 1) i l ∙ xor_none _;
}

-- the sum at bounds, where B is complemented if inv is 1
abbrev pub alu_sums : ℕ → Bool → Word → Word → Word → Word → Word → Word → Bool → ℕ → Bool → Bool → Bool → Bool
alu_sums n signed a ta b tb c tc inv i upper p q = sum_bit (at_bound upper (bit c 0) (bit tc 0)) (bound_word n signed false a ta upper p) (bound_word n signed inv b tb upper q) i

abbrev pub alu_sum_rule : ℕ → Bool → Word → Word → Word → Word → Word → Word → Word → Word → ℕ → Bool
alu_sum_rule n signed a ta b tb c tc d td =
    last_rule (has_sides n signed a) (has_sides n signed b) (λ i. stands_single n signed a ta i || stands_single n signed b tb i) (alu_sums n signed a ta b tb c tc) d td

pub alu_sum_exact : (n : ℕ) (signed : Bool) (a ta b tb c tc d td w : Word) → length ta ≡ length a → length tb ≡ length b → length tc ≡ length c → 1 ≤ length a → 1 ≤ length b → length d ≡ 1 → length td ≡ 1
    → w ≡ word n (alu_sum_rule n signed a ta b tb c tc d td) → IsExact n (alu_sum_bit n signed) (four a b c d) (four ta tb tc td) w
alu_sum_exact n signed a ta b tb c tc d td w e f k some_a some_b one_d one_td q =
    last_exact n (alu_sum_bit n signed) a ta b tb c tc d td (λ i. stands_single n signed a ta i || stands_single n signed b tb i) (has_sides n signed a) (has_sides n signed b) (alu_sums n signed a ta b tb c tc) one_d one_td
    (λ i x tx l t. sum_spread n i (alu_sum_bit n signed i) (four a b c x) (four ta tb tc tx) a ta b tb c tc (alu_operand n signed false) (alu_operand n signed (bit x 0)) (λ z. bit z 0) false _ _ _ _ _ _ _
    (operand_addend n i signed false a ta e some_a l) (operand_addend n i signed (bit x 0) b tb f some_b l) (bit_carry c tc k) (alu_sum_of n signed i a ta b tb c tc x tx l t))
    w q

-- ---- the exclusive or

abbrev pub alu_xor_bit : ℕ → Bool → ℕ → List Word → Bool
alu_xor_bit n signed i us = bit (alu_xor_word n signed (bit (operand us 3) 0) (operand us 0) (operand us 1)) i

abbrev pub alu_xor_rule : Bool → Word → Word → Word → ℕ → Bool
alu_xor_rule signed ta tb td i = (extended_bit signed i ta || extended_bit signed i tb) || bit td 0

xor_at : (n : ℕ) (signed : Bool) (i : ℕ) (us : List Word) → i < n → alu_xor_bit n signed i us ≡ xor (extended_bit signed i (operand us 0)) (xor (extended_bit signed i (operand us 1)) (bit (operand us 3) 0))
xor_at n signed i us l =
    bit-word n (λ k. xor (extended_bit signed k (operand us 0)) (bit (alu_operand n signed (bit (operand us 3) 0) (operand us 1)) k)) i false l
    ∙ ap (xor (extended_bit signed i (operand us 0))) (operand_bit n signed (bit (operand us 3) 0) (operand us 1) i l)

first_flip : (x y r : Bool) → x ≡ true → y ≡ false → xor x r ≢ xor y r
first_flip x y r h k e = let q : x ≡ y = xor_cancel x y r e in absurd (cc)

xor_left_cancel : (x y z : Bool) → xor x y ≡ xor x z → y ≡ z
xor_left_cancel true true true e = refl
xor_left_cancel true true false e = sym e
xor_left_cancel true false true e = sym e
xor_left_cancel true false false e = refl
xor_left_cancel false y z e = e

taint_given : (t : Bool) (x y : Bool) → t ≡ true → t ≡ false → x ≡ y
taint_given t x y h k = absurd (cc)

module _ (n : ℕ) (signed : Bool) (a ta b tb c tc d td : Word) (i : ℕ) (l : i < n) (e : length ta ≡ length a) (f : length tb ≡ length b) (g : length td ≡ length d) where
  at_a : extended_bit signed i ta ≡ true → CanDiffer (alu_xor_bit n signed i) (four a b c d) (four ta tb tc td)
  at_a h =
      let one : extended_bit signed i (filled true a ta) ≡ true = extended_filled true signed i a ta e (taint_given _ _ _ h) in
      let zero' : extended_bit signed i (filled false a ta) ≡ false = extended_filled false signed i a ta e (taint_given _ _ _ h) in
      record {
        first = four (filled true a ta) b c d;
        second = four (filled false a ta) b c d;
        first_completes = four_complete a ta _ b tb b c tc c d td d (filled_completes true a ta e) (self_completes b tb) (self_completes c tc) (self_completes d td);
        second_completes = four_complete a ta _ b tb b c tc c d td d (filled_completes false a ta e) (self_completes b tb) (self_completes c tc) (self_completes d td);
        differ = λ q. first_flip _ _ _ one zero' (sym (xor_at n signed i (four (filled true a ta) b c d) l) ∙ q ∙ xor_at n signed i (four (filled false a ta) b c d) l);
      }

  at_b : extended_bit signed i tb ≡ true → CanDiffer (alu_xor_bit n signed i) (four a b c d) (four ta tb tc td)
  at_b h =
      let one : extended_bit signed i (filled true b tb) ≡ true = extended_filled true signed i b tb f (taint_given _ _ _ h) in
      let zero' : extended_bit signed i (filled false b tb) ≡ false = extended_filled false signed i b tb f (taint_given _ _ _ h) in
      record {
        first = four a (filled true b tb) c d;
        second = four a (filled false b tb) c d;
        first_completes = four_complete a ta a b tb _ c tc c d td d (self_completes a ta) (filled_completes true b tb f) (self_completes c tc) (self_completes d td);
        second_completes = four_complete a ta a b tb _ c tc c d td d (self_completes a ta) (filled_completes false b tb f) (self_completes c tc) (self_completes d td);
        differ = λ q. first_flip _ _ (bit d 0) one zero' (xor_left_cancel (extended_bit signed i a) _ _ (sym (xor_at n signed i (four a (filled true b tb) c d) l) ∙ q ∙ xor_at n signed i (four a (filled false b tb) c d) l));
      }

  at_d : bit td 0 ≡ true → CanDiffer (alu_xor_bit n signed i) (four a b c d) (four ta tb tc td)
  at_d h =
      let one : bit (limit true true 1 d td) 0 ≡ true = bit-limit true true 1 d td 0 g ∙ at_bound_tainted true (bit d 0) (bit td 0) h in
      let zero' : bit (limit false false 1 d td) 0 ≡ false = bit-limit false false 1 d td 0 g ∙ at_bound_tainted false (bit d 0) (bit td 0) h in
      record {
        first = four a b c (limit true true 1 d td);
        second = four a b c (limit false false 1 d td);
        first_completes = four_complete a ta a b tb b c tc c d td _ (self_completes a ta) (self_completes b tb) (self_completes c tc) (limit_completes true true 1 d td g);
        second_completes = four_complete a ta a b tb b c tc c d td _ (self_completes a ta) (self_completes b tb) (self_completes c tc) (limit_completes false false 1 d td g);
        differ = λ q. (let same : bit (limit true true 1 d td) 0 ≡ bit (limit false false 1 d td) 0 =
            xor_left_cancel (extended_bit signed i b) _ _ (xor_left_cancel (extended_bit signed i a) _ _ (sym (xor_at n signed i (four a b c (limit true true 1 d td)) l) ∙ q ∙ xor_at n signed i (four a b c (limit false false 1 d td)) l)) in absurd (cc));
      }

  xor_only : alu_xor_rule signed ta tb td i ≡ true → CanDiffer (alu_xor_bit n signed i) (four a b c d) (four ta tb tc td)
  xor_only h = elim (or_on (extended_bit signed i ta || extended_bit signed i tb) (bit td 0) h) [
    | inl x ↦ elim (or_on (extended_bit signed i ta) (extended_bit signed i tb) x) [ inl y ↦ at_a y | inr y ↦ at_b y ]
    | inr x ↦ at_d x
  ]

  xor_value : alu_xor_rule signed ta tb td i ≡ false → (us : List Word) → AllComplete (four a b c d) (four ta tb tc td) us → alu_xor_bit n signed i us ≡ xor (extended_bit signed i a) (xor (extended_bit signed i b) (bit d 0))
  xor_value off us h =
      let outer = or_off (extended_bit signed i ta || extended_bit signed i tb) (bit td 0) off in
      let inner = or_off (extended_bit signed i ta) (extended_bit signed i tb) outer.0 in
      xor_at n signed i us l
      ∙ ap (λ x. xor x (xor (extended_bit signed i (operand us 1)) (bit (operand us 3) 0))) (extended_same signed i a ta (operand us 0) e (h.each 0) inner.0)
      ∙ ap (λ x. xor (extended_bit signed i a) (xor x (bit (operand us 3) 0))) (extended_same signed i b tb (operand us 1) f (h.each 1) inner.1)
      ∙ ap (λ x. xor (extended_bit signed i a) (xor (extended_bit signed i b) x)) ((h.each 3).same 0 outer.1)

  xor_all : CanDiffer (alu_xor_bit n signed i) (four a b c d) (four ta tb tc td) → alu_xor_rule signed ta tb td i ≡ true
  xor_all h = true_by (alu_xor_rule signed ta tb td i) (λ off. h.differ (xor_value off h.first h.first_completes ∙ sym (xor_value off h.second h.second_completes)))

pub alu_xor_exact : (n : ℕ) (signed : Bool) (a ta b tb c tc d td w : Word) → length ta ≡ length a → length tb ≡ length b → length td ≡ length d
    → w ≡ word n (alu_xor_rule signed ta tb td) → IsExact n (alu_xor_bit n signed) (four a b c d) (four ta tb tc td) w
alu_xor_exact n signed a ta b tb c tc d td w e f g q = record {
  as_long = ap length q ∙ length-word n _;
  only = λ i l h. xor_only n signed a ta b tb c tc d td i l e f g (sym (bit-word n (alu_xor_rule signed ta tb td) i false l) ∙ ap (λ (x : Word). bit x i) (sym q) ∙ h);
  all = λ i l h. ap (λ (x : Word). bit x i) q ∙ bit-word n (alu_xor_rule signed ta tb td) i false l ∙ xor_all n signed a ta b tb c tc d td i l e f g h;
}
