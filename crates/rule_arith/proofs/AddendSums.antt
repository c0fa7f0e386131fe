-- A sum of two addends and a carry, each of which has bounds: where its bits can differ.
use Rattle.std.specs.Prelude.{ℕ, zero, suc, ◌<◌, ◌≤◌, ◌≡◌, ◌≢◌, nat_lt, Bool, true, false, ◌&&◌, ◌||◌, List, ◌∷◌, length, refl}
use Rattle.std.proofs.Common.{arith, sym, ap, ◌∙◌, inl, inr}
use Rattle.std.proofs.lemmas.Bool.Decides.{nat_tests}
use Rattle.cif_defs.specs.Completions.{AllComplete, Completes}
use Rattle.cif_defs.specs.Meanings.{alu_operand}
use Rattle.cif_defs.specs.Words.{Word, bit, extended_bit, majority, word, xor}
use Rattle.cif_defs.proofs.WordLaws.{bit-word, le_or_lt, past_word}
use Rattle.cif_defs.proofs.Numbers.{Le, word-same}
use Rattle.cif_defs.proofs.SumExact.{operand_bit}
use Rattle.cif_defs.proofs.Sums.{carry, carry_local, carry_mono, self_completes, sum_bit}
use Rattle.rule_arith.specs.Bounds.{is_upper, sign_start}
use Rattle.rule_arith.proofs.Limits.{StandsAlone, at_bound, below_side, bound_word, lies_between, limit, limit_bounds, limit_completes, sign_of, stands_alone}
use Rattle.rule_arith.proofs.Turns.{IsSpread, or_off, or_on, xor_cancel}

-- ---- addends

-- X gives the addend from a completion of v; bounds upper case are what it is at the least and the greatest, and single
-- says whether bit i of it can be changed alone
pub record IsAddend (n i : ℕ) (v t : Word) (X : Word → Word) (single split : Bool) (bounds : Bool → Bool → Word) : Type 0 where
  pub reached : (upper side : Bool) → (u : Word) × Completes v t u × (X u ≡ bounds upper side)
  pub side : Word → Bool
  pub above : (u : Word) → Completes v t u → (k : ℕ) → Le (bit (bounds false (side u)) k) (bit (X u) k)
  pub below : (u : Word) → Completes v t u → (k : ℕ) → Le (bit (X u) k) (bit (bounds true (side u)) k)
  pub same : (u : Word) → Completes v t u → single ≡ false → (upper : Bool) → bit (bounds upper (side u)) i ≡ bit (X u) i
  pub alone : single ≡ true → (one : Word) × (other : Word) × Completes v t one × Completes v t other × (bit (X one) i ≢ bit (X other) i) × ((k : ℕ) → k < i → bit (X one) k ≡ bit (X other) k)
  pub one_side : split ≡ false → (upper side : Bool) → bounds upper side ≡ bounds upper false

le_past : (n k : ℕ) (f g : ℕ → Bool) → n ≤ k → Le (bit (word n f) k) (bit (word n g) k)
le_past n k f g h = λ e. let none : bit (word n f) k ≡ false = past_word n f k false h in absurd (cc)

pub le_word : (n k : ℕ) (f g : ℕ → Bool) → (k < n → Le (f k) (g k)) → Le (bit (word n f) k) (bit (word n g) k)
le_word n k f g h = elim (le_or_lt k n) [
  | inl l ↦ λ e. bit-word n g k false l ∙ h l (sym (bit-word n f k false l) ∙ e)
  | inr l ↦ le_past n k f g l
]

-- an operand, extended, and complemented where inv is 1
pub operand_addend : (n i : ℕ) (signed inv : Bool) (v t : Word) → length t ≡ length v → 1 ≤ length v → i < n
    → IsAddend n i v t (alu_operand n signed inv) (nat_lt i (sign_start n signed (length v)) && extended_bit signed i t) (nat_lt (sign_start n signed (length v)) n) (bound_word n signed inv v t)
operand_addend n i signed inv v t e some l =
    let k : ℕ = sign_start n signed (length v) in
    record {
      reached = λ upper side. (limit (xor upper inv) (xor side inv) k v t, limit_completes (xor upper inv) (xor side inv) k v t e, limit_bounds n signed inv v t upper side e some);
      side = sign_of inv v;
      above = λ u c j. le_word n j _ _ (λ q. (lies_between n signed inv v t u j e some c q).above);
      below = λ u c j. le_word n j _ _ (λ q. (lies_between n signed inv v t u j e some c q).below);
      same = λ u c s upper. bit-word n _ i false l ∙ (lies_between n signed inv v t u i e some c l).same s upper ∙ sym (operand_bit n signed inv u i l);
      alone = λ s. alone_by (stands_alone n signed inv v t i e some l s);
      one_side = λ s upper side. word-same n _ _ (λ j q. ap (λ b. at_bound b (xor (extended_bit signed j v) inv) (extended_bit signed j t)) (one_way s upper side j q));
    }
  where
    alone_by : StandsAlone signed inv v t i
        → (one : Word) × (other : Word) × Completes v t one × Completes v t other × (bit (alu_operand n signed inv one) i ≢ bit (alu_operand n signed inv other) i)
        × ((j : ℕ) → j < i → bit (alu_operand n signed inv one) j ≡ bit (alu_operand n signed inv other) j)
    alone_by a = (
      _,
      _,
      a.one,
      a.zero,
      λ q. a.differ (sym (operand_bit n signed inv _ i l) ∙ q ∙ operand_bit n signed inv _ i l),
      λ j q. operand_bit n signed inv _ j (omega arith) ∙ ap (λ b. xor b inv) (a.alike j q) ∙ sym (operand_bit n signed inv _ j (omega arith)),
    )

    one_way : nat_lt (sign_start n signed (length v)) n ≡ false → (upper side : Bool) (j : ℕ) → j < n → is_upper (sign_start n signed (length v)) upper side j ≡ is_upper (sign_start n signed (length v)) upper false j
    one_way s upper side j q =
        let late : n ≤ sign_start n signed (length v) = grind (arith, nat_tests) in
        below_side (sign_start n signed (length v)) j upper side (omega arith) ∙ sym (below_side (sign_start n signed (length v)) j upper false (omega arith))

-- a word w that is always the same
pub constant_addend : (n i : ℕ) (v t w : Word) (single split : Bool) (bounds : Bool → Bool → Word) → single ≡ false → ((upper side : Bool) → bounds upper side ≡ w) → IsAddend n i v t (λ u. w) single split bounds
constant_addend n i v t w single split bounds off h = record {
  reached = λ upper side. (v, self_completes v t, sym (h upper side));
  side = λ u. false;
  above = λ u c k. λ e. sym (ap (λ (x : Word). bit x k) (h false false)) ∙ e;
  below = λ u c k. λ e. ap (λ (x : Word). bit x k) (h true false) ∙ e;
  same = λ u c s upper. ap (λ (x : Word). bit x i) (h upper false);
  alone = λ s. absurd (cc);
  one_side = λ s upper side. h upper side ∙ sym (h upper false);
}

-- ---- carries in

pub record IsCarry (v t : Word) (Z : Word → Bool) (bounds : Bool → Bool) : Type 0 where
  pub reached : (upper : Bool) → (u : Word) × Completes v t u × (Z u ≡ bounds upper)
  pub above : (u : Word) → Completes v t u → Le (bounds false) (Z u)
  pub below : (u : Word) → Completes v t u → Le (Z u) (bounds true)

pub constant_carry : (v t : Word) (c : Bool) → IsCarry v t (λ u. c) (λ upper. c)
constant_carry v t c = record { reached = λ upper. (v, self_completes v t, refl); above = λ u d e. e; below = λ u d e. e }

-- a carry is a lowest bit of both
majority_same : (c : Bool) → majority c c false ≡ c
majority_same true = refl
majority_same false = refl

carry_first : (c : Bool) (a b : Word) (i : ℕ) → carry false (c ∷ a) (c ∷ b) (suc i) ≡ carry c a b i
carry_first c a b zero = majority_same c
carry_first c a b (suc i) = ap (majority (bit a i) (bit b i)) (carry_first c a b i)

le_cons : (c d : Bool) (a b : Word) → Le c d → ((k : ℕ) → Le (bit a k) (bit b k)) → (k : ℕ) → Le (bit (c ∷ a) k) (bit (d ∷ b) k)
le_cons c d a b h g zero = h
le_cons c d a b h g (suc k) = g k

pub carry_grows : (c c' : Bool) (a a' b b' : Word) (i : ℕ) → Le c c' → ((k : ℕ) → Le (bit a k) (bit a' k)) → ((k : ℕ) → Le (bit b k) (bit b' k)) → Le (carry c a b i) (carry c' a' b' i)
carry_grows c c' a a' b b' i h p q = λ e.
    sym (carry_first c' a' b' i) ∙ carry_mono false (c ∷ a) (c' ∷ a') (c ∷ b) (c' ∷ b') (suc i) (le_cons c c' a a' h p) (le_cons c c' b b' h q) (carry_first c a b i ∙ e)

-- ---- a bit of a sum

pub le_both : (x low high : Bool) → Le low x → Le x high → low ≡ high → x ≡ low
le_both true true high p q e = refl
le_both true false high p q e = sym (q refl) ∙ sym e
le_both false true high p q e = p refl
le_both false false high p q e = refl

sum_cancel : (x y c d : Bool) → xor (xor x y) c ≡ xor (xor x y) d → c ≡ d
sum_cancel true true c d e = e
sum_cancel true false true true e = refl
sum_cancel true false true false e = sym e
sum_cancel true false false true e = sym e
sum_cancel true false false false e = refl
sum_cancel false true true true e = refl
sum_cancel false true true false e = sym e
sum_cancel false true false true e = sym e
sum_cancel false true false false e = refl
sum_cancel false false c d e = e

-- between bounds of which the sums agree at place i, as the addends do there
pub sum_between : (c0 c1 c : Bool) (x0 x1 x y0 y1 y : Word) (i : ℕ) → Le c0 c → Le c c1
    → ((k : ℕ) → Le (bit x0 k) (bit x k)) → ((k : ℕ) → Le (bit x k) (bit x1 k)) → ((k : ℕ) → Le (bit y0 k) (bit y k)) → ((k : ℕ) → Le (bit y k) (bit y1 k))
    → bit x0 i ≡ bit x i → bit x1 i ≡ bit x i → bit y0 i ≡ bit y i → bit y1 i ≡ bit y i
    → sum_bit c0 x0 y0 i ≡ sum_bit c1 x1 y1 i → sum_bit c x y i ≡ sum_bit c0 x0 y0 i
sum_between c0 c1 c x0 x1 x y0 y1 y i cl ch xl xh yl yh x0i x1i y0i y1i e =
    let low : sum_bit c0 x0 y0 i ≡ xor (xor (bit x i) (bit y i)) (carry c0 x0 y0 i) = ap (λ b. xor (xor b (bit y0 i)) (carry c0 x0 y0 i)) x0i ∙ ap (λ b. xor (xor (bit x i) b) (carry c0 x0 y0 i)) y0i in
    let high : sum_bit c1 x1 y1 i ≡ xor (xor (bit x i) (bit y i)) (carry c1 x1 y1 i) = ap (λ b. xor (xor b (bit y1 i)) (carry c1 x1 y1 i)) x1i ∙ ap (λ b. xor (xor (bit x i) b) (carry c1 x1 y1 i)) y1i in
    let carries : carry c0 x0 y0 i ≡ carry c1 x1 y1 i = sum_cancel (bit x i) (bit y i) _ _ (sym low ∙ e ∙ high) in
    let one : carry c x y i ≡ carry c0 x0 y0 i =
    le_both (carry c x y i) (carry c0 x0 y0 i) (carry c1 x1 y1 i) (carry_grows c0 c x0 x y0 y i cl xl yl) (carry_grows c c1 x x1 y y1 i ch xh yh) carries in
    ap (xor (xor (bit x i) (bit y i))) one ∙ sym low

-- one addend changes at place i alone
changed_first : (c : Bool) (x x' y : Word) (i : ℕ) → bit x i ≢ bit x' i → ((k : ℕ) → k < i → bit x k ≡ bit x' k) → sum_bit c x y i ≢ sum_bit c x' y i
changed_first c x x' y i n h q =
    let same : carry c x y i ≡ carry c x' y i = carry_local c x x' y y i h (λ k l. refl) in
    n (xor_cancel (bit x i) (bit x' i) (bit y i) (xor_cancel _ _ (carry c x' y i) (sym (ap (xor (xor (bit x i) (bit y i))) same) ∙ q)))

xor_left_cancel : (x y z : Bool) → xor x y ≡ xor x z → y ≡ z
xor_left_cancel true true true e = refl
xor_left_cancel true true false e = sym e
xor_left_cancel true false true e = sym e
xor_left_cancel true false false e = refl
xor_left_cancel false y z e = e

changed_second : (c : Bool) (x y y' : Word) (i : ℕ) → bit y i ≢ bit y' i → ((k : ℕ) → k < i → bit y k ≡ bit y' k) → sum_bit c x y i ≢ sum_bit c x y' i
changed_second c x y y' i n h q =
    let same : carry c x y i ≡ carry c x y' i = carry_local c x x y y' i (λ k l. refl) h in
    n (xor_left_cancel (bit x i) (bit y i) (bit y' i) (xor_cancel _ _ (carry c x y' i) (sym (ap (xor (xor (bit x i) (bit y i))) same) ∙ q)))

-- ---- functions of operand words that are such a sum

-- make lists operand words from a word for each addend and for the carry; turned complements the sum
pub record IsSumOf (i : ℕ) (f : List Word → Bool) (vs ts : List Word) (a ta b tb c tc : Word) (X Y : Word → Word) (Z : Word → Bool) (turned : Bool) : Type 0 where
  pub make : Word → Word → Word → List Word
  pub complete : (u w z : Word) → Completes a ta u → Completes b tb w → Completes c tc z → AllComplete vs ts (make u w z)
  pub value : (u w z : Word) → f (make u w z) ≡ xor (sum_bit (Z z) (X u) (Y w) i) turned
  pub first : List Word → Word
  pub second : List Word → Word
  pub carried : List Word → Word
  pub first_completes : (us : List Word) → AllComplete vs ts us → Completes a ta (first us)
  pub second_completes : (us : List Word) → AllComplete vs ts us → Completes b tb (second us)
  pub carried_completes : (us : List Word) → AllComplete vs ts us → Completes c tc (carried us)
  pub split : (us : List Word) → AllComplete vs ts us → f us ≡ xor (sum_bit (Z (carried us)) (X (first us)) (Y (second us)) i) turned

pub sum_spread : (n i : ℕ) (f : List Word → Bool) (vs ts : List Word) (a ta b tb c tc : Word) (X Y : Word → Word) (Z : Word → Bool) (turned : Bool)
    (single_x split_x single_y split_y : Bool) (x y : Bool → Bool → Word) (z : Bool → Bool)
    → IsAddend n i a ta X single_x split_x x → IsAddend n i b tb Y single_y split_y y → IsCarry c tc Z z → IsSumOf i f vs ts a ta b tb c tc X Y Z turned
    → IsSpread f vs ts turned (single_x || single_y) split_x split_y (λ upper p q. sum_bit (z upper) (x upper p) (y upper q) i)
sum_spread n i f vs ts a ta b tb c tc X Y Z turned single_x split_x single_y split_y x y z px py pz s = record {
  alone = λ h. elim (or_on single_x single_y h) [
    | inl l ↦ (let r = px.alone l in record {
      first = s.make r.0 b c;
      second = s.make r.1 b c;
      first_completes = s.complete r.0 b c r.2 (self_completes b tb) (self_completes c tc);
      second_completes = s.complete r.1 b c r.3 (self_completes b tb) (self_completes c tc);
      differ = λ q. changed_first (Z c) (X r.0) (X r.1) (Y b) i r.4 r.5 (xor_cancel _ _ turned (sym (s.value r.0 b c) ∙ q ∙ s.value r.1 b c));
    })
    | inr l ↦ (let r = py.alone l in record {
      first = s.make a r.0 c;
      second = s.make a r.1 c;
      first_completes = s.complete a r.0 c (self_completes a ta) r.2 (self_completes c tc);
      second_completes = s.complete a r.1 c (self_completes a ta) r.3 (self_completes c tc);
      differ = λ q. changed_second (Z c) (X a) (Y r.0) (Y r.1) i r.4 r.5 (xor_cancel _ _ turned (sym (s.value a r.0 c) ∙ q ∙ s.value a r.1 c));
    })
  ];
  reached = λ upper p q.
      let u = px.reached upper p in
      let w = py.reached upper q in
      let k = pz.reached upper in (
        s.make u.0 w.0 k.0,
        s.complete u.0 w.0 k.0 u.1 w.1 k.1,
        s.value u.0 w.0 k.0 ∙ ap (λ d. xor (sum_bit d (X u.0) (Y w.0) i) turned) k.2
            ∙ ap (λ (d : Word). xor (sum_bit (z upper) d (Y w.0) i) turned) u.2 ∙ ap (λ (d : Word). xor (sum_bit (z upper) (x upper p) d i) turned) w.2,
      );
  within = λ us d off.
      let none = or_off single_x single_y off in
      let u : Word = s.first us in
      let w : Word = s.second us in
      let k : Word = s.carried us in
      let cu : Completes a ta u = s.first_completes us d in
      let cw : Completes b tb w = s.second_completes us d in
      let ck : Completes c tc k = s.carried_completes us d in (
        px.side u,
        py.side w,
        λ q.
            s.split us d ∙ ap (λ e. xor e turned)
            (sum_between (z false) (z true) (Z k) (x false (px.side u)) (x true (px.side u)) (X u) (y false (py.side w)) (y true (py.side w)) (Y w) i
            (pz.above k ck) (pz.below k ck) (px.above u cu) (px.below u cu) (py.above w cw) (py.below w cw)
            (px.same u cu none.0 false) (px.same u cu none.0 true) (py.same w cw none.1 false) (py.same w cw none.1 true) q),
      );
  one_first = λ h upper p q. ap (λ (d : Word). sum_bit (z upper) d (y upper q) i) (px.one_side h upper p);
  one_second = λ h upper p q. ap (λ (d : Word). sum_bit (z upper) (x upper p) d i) (py.one_side h upper q);
}
