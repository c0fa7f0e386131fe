-- The exact taint of equality.
use Rattle.std.specs.Prelude.{ℕ, ◌<◌, ◌≤◌, ◌≡◌, ◌≢◌, nat_lt, Bool, true, false, not, ◌&&◌, ◌||◌, List, [], ◌∷◌, length, set, refl}
use Rattle.std.specs.Ordering.{int_eq}
use Rattle.std.proofs.Common.{arith, sym, ap, ◌∙◌, inl, inr}
use Rattle.std.proofs.lemmas.Bool.Decides.{nat_tests}
use Rattle.std.proofs.lemmas.List.{get_or-set_same, get_or-set_other, length-set}
use Rattle.cif_defs.specs.Completions.{AllComplete, CanDiffer, Completes, IsExact, of_two}
use Rattle.cif_defs.specs.Meanings.{compared, eq_word, ne_word}
use Rattle.cif_defs.specs.Words.{Word, bit, extended_bit, flag_word, has_one, operand, word, xor}
use Rattle.cif_defs.proofs.WordLaws.{bit-word, length-word, same_words}
use Rattle.cif_defs.proofs.Agree.{has_none}
use Rattle.cif_defs.proofs.Exact.{and_both, differ_cases, ext_in, true_by}
use Rattle.cif_defs.proofs.Numbers.{Le, word-same}
use Rattle.rule_arith.specs.Bounds.{sign_start}
use Rattle.rule_arith.proofs.Limits.{at_bound, below_side, lies_between, sign_of}
use Rattle.rule_arith.proofs.TwoWordFunctions.{Decides, IsOfTwo, flag_exact, of_both}
use Rattle.rule_arith.proofs.SumRules.{not_xor, xor_none}
use Rattle.rule_arith.proofs.Turns.{or_off, or_on}
use Rattle.rule_arith.proofs.BoundCompletions.{LiesWithin, clash, cut_completes, cut_extended, equal_rule, in_case, meet, side_bit}
use Rattle.rule_arith.proofs.SameWords.{all_clear, extended_same_back, same_extended, some_one}

-- ---- bounds that meet share a word

no_clash : (m : ℕ) (signed : Bool) (a ta b tb : Word) (p q : Bool) (i : ℕ) → meet m signed a ta b tb p q ≡ true → i < m
    → ((side_bit m signed a ta false p i || side_bit m signed b tb false q i) && not (side_bit m signed a ta true p i && side_bit m signed b tb true q i)) ≡ false
no_clash m signed a ta b tb p q i h l =
    sym (bit-word m (λ k. (side_bit m signed a ta false p k || side_bit m signed b tb false q k) && not (side_bit m signed a ta true p k && side_bit m signed b tb true q k)) i false l)
    ∙ has_none (clash m signed a ta b tb p q) (not_true (has_one (clash m signed a ta b tb p q)) h) i
  where
    not_true : (x : Bool) → not x ≡ true → x ≡ false
    not_true true h = sym h
    not_true false h = refl

both_can : (x y u w : Bool) → ((x || y) && not (u && w)) ≡ false → (x || y) ≡ true → (u ≡ true) × (w ≡ true)
both_can x y true true h k = (refl, refl)
both_can x y true false h k = absurd (let q : (x || y) ≡ false = sym (and_true (x || y)) ∙ h in cc)
  where
    and_true : (b : Bool) → (b && true) ≡ b
    and_true true = refl
    and_true false = refl
both_can x y false w h k = absurd (let q : (x || y) ≡ false = sym (and_true (x || y)) ∙ h in cc)
  where
    and_true : (b : Bool) → (b && true) ≡ b
    and_true true = refl
    and_true false = refl

left_in : (x y : Bool) → Le x (x || y)
left_in true y e = refl
left_in false y e = absurd (cc)

right_in : (x y : Bool) → Le y (x || y)
right_in true y e = refl
right_in false y e = e

abbrev shared : ℕ → Bool → Word → Word → Word → Word → Bool → Bool → ℕ → Bool
shared m signed a ta b tb p q i = side_bit m signed a ta false p i || side_bit m signed b tb false q i

shared_first : (m : ℕ) (signed : Bool) (a ta b tb : Word) (p q : Bool) → meet m signed a ta b tb p q ≡ true → LiesWithin m signed a ta p (shared m signed a ta b tb p q)
shared_first m signed a ta b tb p q h = record {
  above = λ i l. left_in (side_bit m signed a ta false p i) (side_bit m signed b tb false q i);
  below = λ i l e. (both_can (side_bit m signed a ta false p i) (side_bit m signed b tb false q i) (side_bit m signed a ta true p i) (side_bit m signed b tb true q i) (no_clash m signed a ta b tb p q i h l) e).0;
}

shared_second : (m : ℕ) (signed : Bool) (a ta b tb : Word) (p q : Bool) → meet m signed a ta b tb p q ≡ true → LiesWithin m signed b tb q (shared m signed a ta b tb p q)
shared_second m signed a ta b tb p q h = record {
  above = λ i l. right_in (side_bit m signed a ta false p i) (side_bit m signed b tb false q i);
  below = λ i l e. (both_can (side_bit m signed a ta false p i) (side_bit m signed b tb false q i) (side_bit m signed a ta true p i) (side_bit m signed b tb true q i) (no_clash m signed a ta b tb p q i h l) e).1;
}

-- ---- a tainted bit makes words differ

flip_completes : (v t u : Word) (j : ℕ) → Completes v t u → bit t j ≡ true → Completes v t (set u j (not (bit u j)))
flip_completes v t u j c h = record {
  as_long = length-set u j (not (bit u j)) ∙ c.as_long;
  same = λ k q. get_or-set_other u j k (not (bit u j)) false (λ (r : k ≡ j). let x : bit t k ≡ bit t j = ap (λ i. bit t i) r in absurd (cc)) ∙ c.same k q;
}

not_self : (b : Bool) → not b ≢ b
not_self true e = absurd (cc)
not_self false e = absurd (cc)

flip_differs : (m : ℕ) (signed : Bool) (u : Word) (j : ℕ) → j < length u → extended_bit signed j (set u j (not (bit u j))) ≢ extended_bit signed j u
flip_differs m signed u j l e = not_self (bit u j)
    (sym (get_or-set_same u j (not (bit u j)) false l) ∙ sym (ext_in signed j (length u) (set u j (not (bit u j))) l (length-set u j (not (bit u j)))) ∙ e ∙ ext_in signed j (length u) u l refl)

false_by : (b : Bool) → (b ≡ true → ⊥) → b ≡ false
false_by true h = absurd (h refl)
false_by false h = refl

true_false : (x y : Bool) → x ≡ true → y ≡ false → x ≢ y
true_false x y h k e = absurd (cc)

-- ---- the rule

in_case_true : (split : Bool) (f : Bool → Bool) → in_case split f ≡ true → (p : Bool) × (f p ≡ true)
in_case_true true f h = elim (or_on (f false) (f true) h) [ inl x ↦ (false, x) | inr x ↦ (true, x) ]
in_case_true false f h = (false, h)

in_case_at : (split : Bool) (f : Bool → Bool) (p : Bool) → (split ≡ false → f p ≡ f false) → f p ≡ true → in_case split f ≡ true
in_case_at true f true one h = or_right (f false) (f true) h
  where
    or_right : (x y : Bool) → y ≡ true → (x || y) ≡ true
    or_right true y h = refl
    or_right false y h = h
in_case_at true f false one h = or_left (f false) (f true) h
  where
    or_left : (x y : Bool) → x ≡ true → (x || y) ≡ true
    or_left true y h = refl
    or_left false y h = absurd (cc)
in_case_at false f p one h = sym (one refl) ∙ h

module _ (m : ℕ) (signed : Bool) (f : List Word → Bool) (vs ts : List Word) (a ta b tb : Word) (e : length ta ≡ length a) (g : length tb ≡ length b) (some_a : 1 ≤ length a) (some_b : 1 ≤ length b)
    (few_a : length a ≤ m) (few_b : length b ≤ m) (s : IsOfTwo f vs ts a ta b tb (compared int_eq signed)) where
  -- a completion of each, the same when extended
  record Met : Type 0 where
    first : Word
    second : Word
    first_completes : Completes a ta first
    second_completes : Completes b tb second
    same : (i : ℕ) → i < m → extended_bit signed i first ≡ extended_bit signed i second

  met_at : (p q : Bool) → meet m signed a ta b tb p q ≡ true → Met
  met_at p q h =
      let z : ℕ → Bool = shared m signed a ta b tb p q in
      let in_a = shared_first m signed a ta b tb p q h in
      let in_b = shared_second m signed a ta b tb p q h in
      record {
        first = word (length a) z;
        second = word (length b) z;
        first_completes = cut_completes m signed a ta p z e few_a in_a;
        second_completes = cut_completes m signed b tb q z g few_b in_b;
        same = λ i l. cut_extended m signed a ta p z i e some_a in_a l ∙ sym (cut_extended m signed b tb q z i g some_b in_b l);
      }

  long_first : (u : Word) → Completes a ta u → length u ≤ m
  long_first u c = let q : length u ≡ length a = c.as_long in omega arith

  long_second : (u : Word) → Completes b tb u → length u ≤ m
  long_second u c = let q : length u ≡ length b = c.as_long in omega arith

  met_value : (x : Met) → f (s.make x.first x.second) ≡ true
  met_value x = s.value x.first x.second ∙ extended_same_back m signed x.first x.second (long_first x.first x.first_completes) (long_second x.second x.second_completes) x.same

  -- with a bit of the first changed
  first_changed : (x : Met) (j : ℕ) → j < length ta → bit ta j ≡ true → CanDiffer f vs ts
  first_changed x j l h =
      let u : Word = set x.first j (not (bit x.first j)) in
      let cu : Completes a ta u = flip_completes a ta x.first j x.first_completes h in
      let inside : j < length x.first = (let q : length x.first ≡ length a = x.first_completes.as_long in omega arith) in
      let off : compared int_eq signed u x.second ≡ false = false_by (compared int_eq signed u x.second) (λ on.
      flip_differs m signed x.first j inside (same_extended m signed u x.second (long_first u cu) (long_second x.second x.second_completes) on j (omega arith) ∙ sym (x.same j (omega arith)))) in
      record {
        first = s.make x.first x.second;
        second = s.make u x.second;
        first_completes = s.complete x.first x.second x.first_completes x.second_completes;
        second_completes = s.complete u x.second cu x.second_completes;
        differ = true_false _ _ (met_value x) (s.value u x.second ∙ off);
      }

  second_changed : (x : Met) (j : ℕ) → j < length tb → bit tb j ≡ true → CanDiffer f vs ts
  second_changed x j l h =
      let w : Word = set x.second j (not (bit x.second j)) in
      let cw : Completes b tb w = flip_completes b tb x.second j x.second_completes h in
      let inside : j < length x.second = (let q : length x.second ≡ length b = x.second_completes.as_long in omega arith) in
      let off : compared int_eq signed x.first w ≡ false = false_by (compared int_eq signed x.first w) (λ on.
      flip_differs m signed x.second j inside (sym (same_extended m signed x.first w (long_first x.first x.first_completes) (long_second w cw) on j (omega arith)) ∙ x.same j (omega arith))) in
      record {
        first = s.make x.first x.second;
        second = s.make x.first w;
        first_completes = s.complete x.first x.second x.first_completes x.second_completes;
        second_completes = s.complete x.first w x.first_completes cw;
        differ = true_false _ _ (met_value x) (s.value x.first w ∙ off);
      }

  some_changed : Met → (has_one ta || has_one tb) ≡ true → CanDiffer f vs ts
  some_changed x h = elim (or_on (has_one ta) (has_one tb) h) [
    | inl y ↦ (let r = some_one ta y in first_changed x r.0 r.1 r.2)
    | inr y ↦ (let r = some_one tb y in second_changed x r.0 r.1 r.2)
  ]

  equal_only : equal_rule m signed a ta b tb ≡ true → CanDiffer f vs ts
  equal_only h =
      let parts = and_parts (in_case (nat_lt (sign_start m signed (length a)) m) (λ p. in_case (nat_lt (sign_start m signed (length b)) m) (meet m signed a ta b tb p))) (has_one ta || has_one tb) h in
      let p = in_case_true (nat_lt (sign_start m signed (length a)) m) (λ p. in_case (nat_lt (sign_start m signed (length b)) m) (meet m signed a ta b tb p)) parts.0 in
      let q = in_case_true (nat_lt (sign_start m signed (length b)) m) (meet m signed a ta b tb p.0) p.1 in
      some_changed (met_at p.0 q.0 q.1) parts.1
    where
      and_parts : (x y : Bool) → (x && y) ≡ true → (x ≡ true) × (y ≡ true)
      and_parts true y h = (refl, h)
      and_parts false y h = absurd (cc)

  -- completions that are the same show a case in which the bounds meet
  clash_none : (x0 y0 x1 y1 z : Bool) → Le x0 z → Le z x1 → Le y0 z → Le z y1 → ((x0 || y0) && not (x1 && y1)) ≡ false
  clash_none true y0 x1 y1 z p q r t = ap (λ u. not (u && y1)) (q (p refl)) ∙ ap not (t (p refl))
  clash_none false true x1 y1 z p q r t = ap (λ u. not (u && y1)) (q (r refl)) ∙ ap not (t (r refl))
  clash_none false false x1 y1 z p q r t = refl

  le_same : (x y z : Bool) → y ≡ z → Le x y → Le x z
  le_same x y z q h = λ k. sym q ∙ h k

  same_le : (x y z : Bool) → x ≡ y → Le x z → Le y z
  same_le x y z q h = λ k. h (q ∙ k)

  meets_of : (u w : Word) → Completes a ta u → Completes b tb w → compared int_eq signed u w ≡ true → meet m signed a ta b tb (sign_of false a u) (sign_of false b w) ≡ true
  meets_of u w cu cw on =
      let p : Bool = sign_of false a u in
      let q : Bool = sign_of false b w in
      ap not (all_clear (clash m signed a ta b tb p q) (λ i l.
      let h : i < m = (let k : length (clash m signed a ta b tb p q) ≡ m = length-word m _ in omega arith) in
      let x = lies_between m signed false a ta u i e some_a cu h in
      let y = lies_between m signed false b tb w i g some_b cw h in
      let same : xor (extended_bit signed i w) false ≡ xor (extended_bit signed i u) false = ap (λ z. xor z false) (sym (same_extended m signed u w (long_first u cu) (long_second w cw) on i h)) in
      bit-word m (λ k. (side_bit m signed a ta false p k || side_bit m signed b tb false q k) && not (side_bit m signed a ta true p k && side_bit m signed b tb true q k)) i false h
      ∙ clash_none _ _ _ _ (xor (extended_bit signed i u) false) x.above x.below (le_same _ _ _ same y.above) (same_le _ _ _ same y.below)))

  one_side : (v t : Word) (upper p : Bool) (i : ℕ) → nat_lt (sign_start m signed (length v)) m ≡ false → i < m → side_bit m signed v t upper p i ≡ side_bit m signed v t upper false i
  one_side v t upper p i h l =
      let late : m ≤ sign_start m signed (length v) = grind (arith, nat_tests) in
      ap (λ x. at_bound x (xor (extended_bit signed i v) false) (extended_bit signed i t))
      (below_side (sign_start m signed (length v)) i upper p (omega arith) ∙ sym (below_side (sign_start m signed (length v)) i upper false (omega arith)))

  one_first : (p q : Bool) → nat_lt (sign_start m signed (length a)) m ≡ false → meet m signed a ta b tb p q ≡ meet m signed a ta b tb false q
  one_first p q h = ap (λ (w : Word). not (has_one w)) (word-same m _ _ (λ i l.
      ap (λ x. (x || side_bit m signed b tb false q i) && not (side_bit m signed a ta true p i && side_bit m signed b tb true q i)) (one_side a ta false p i h l)
      ∙ ap (λ x. (side_bit m signed a ta false false i || side_bit m signed b tb false q i) && not (x && side_bit m signed b tb true q i)) (one_side a ta true p i h l)))

  one_second : (p q : Bool) → nat_lt (sign_start m signed (length b)) m ≡ false → meet m signed a ta b tb p q ≡ meet m signed a ta b tb p false
  one_second p q h = ap (λ (w : Word). not (has_one w)) (word-same m _ _ (λ i l.
      ap (λ x. (side_bit m signed a ta false p i || x) && not (side_bit m signed a ta true p i && side_bit m signed b tb true q i)) (one_side b tb false q i h l)
      ∙ ap (λ x. (side_bit m signed a ta false p i || side_bit m signed b tb false false i) && not (side_bit m signed a ta true p i && x)) (one_side b tb true q i h l)))

  case_of : (p q : Bool) → meet m signed a ta b tb p q ≡ true
      → in_case (nat_lt (sign_start m signed (length a)) m) (λ p. in_case (nat_lt (sign_start m signed (length b)) m) (meet m signed a ta b tb p)) ≡ true
  case_of p q h =
      in_case_at (nat_lt (sign_start m signed (length a)) m) (λ p. in_case (nat_lt (sign_start m signed (length b)) m) (meet m signed a ta b tb p)) p
      (λ off. ap (λ (k : Bool → Bool). in_case (nat_lt (sign_start m signed (length b)) m) k) (λ i. λ r. one_first p r off i))
      (in_case_at (nat_lt (sign_start m signed (length b)) m) (meet m signed a ta b tb p) q (λ off. one_second p q off) h)

  some_taint : CanDiffer f vs ts → (has_one ta || has_one tb) ≡ true
  some_taint d = true_by (has_one ta || has_one tb) (λ off.
      let none = or_off (has_one ta) (has_one tb) off in
      let same : (us : List Word) → AllComplete vs ts us → f us ≡ compared int_eq signed a b = λ us c.
      s.split us ∙ ap (λ (w : Word). compared int_eq signed w (s.second us)) (only_one a ta (s.first us) (s.first_completes us c) none.0)
      ∙ ap (λ (w : Word). compared int_eq signed a w) (only_one b tb (s.second us) (s.second_completes us c) none.1) in
      d.differ (same d.first d.first_completes ∙ sym (same d.second d.second_completes)))
    where
      only_one : (v t u : Word) → Completes v t u → has_one t ≡ false → u ≡ v
      only_one v t u c h = same_words u v c.as_long (λ i l. c.same i (has_none t h i))

  equal_case : (us : List Word) → AllComplete vs ts us → f us ≡ true
      → in_case (nat_lt (sign_start m signed (length a)) m) (λ p. in_case (nat_lt (sign_start m signed (length b)) m) (meet m signed a ta b tb p)) ≡ true
  equal_case us c on = case_of _ _ (meets_of (s.first us) (s.second us) (s.first_completes us c) (s.second_completes us c) (sym (s.split us) ∙ on))

  one_equal : (d : CanDiffer f vs ts) → in_case (nat_lt (sign_start m signed (length a)) m) (λ p. in_case (nat_lt (sign_start m signed (length b)) m) (meet m signed a ta b tb p)) ≡ true
  one_equal d = elim (differ_cases (f d.first) (f d.second) d.differ) [
    | inl h ↦ equal_case d.first d.first_completes h.0
    | inr h ↦ equal_case d.second d.second_completes h.0
  ]

  equal_all : CanDiffer f vs ts → equal_rule m signed a ta b tb ≡ true
  equal_all d = and_both _ _ (one_equal d) (some_taint d)

  pub equal_decides : Decides f vs ts (equal_rule m signed a ta b tb)
  equal_decides = record { only = equal_only; all = equal_all }

-- ---- the kinds

pub eq_exact : (n m : ℕ) (signed : Bool) (a ta b tb w : Word) → length ta ≡ length a → length tb ≡ length b → 1 ≤ length a → 1 ≤ length b → length a ≤ m → length b ≤ m
    → w ≡ flag_word n (equal_rule m signed a ta b tb) → IsExact n (of_two (eq_word n signed)) (a ∷ b ∷ []) (ta ∷ tb ∷ []) w
eq_exact n m signed a ta b tb w e f some_a some_b few_a few_b q =
    flag_exact n (λ us. compared int_eq signed (operand us 0) (operand us 1)) false (λ us. eq_word n signed (operand us 0) (operand us 1)) _ _ (equal_rule m signed a ta b tb) w
    (λ us. ap (flag_word n) (xor_none _)) (equal_decides m signed _ _ _ a ta b tb e f some_a some_b few_a few_b (of_both a ta b tb (compared int_eq signed))) q

pub ne_exact : (n m : ℕ) (signed : Bool) (a ta b tb w : Word) → length ta ≡ length a → length tb ≡ length b → 1 ≤ length a → 1 ≤ length b → length a ≤ m → length b ≤ m
    → w ≡ flag_word n (equal_rule m signed a ta b tb) → IsExact n (of_two (ne_word n signed)) (a ∷ b ∷ []) (ta ∷ tb ∷ []) w
ne_exact n m signed a ta b tb w e f some_a some_b few_a few_b q =
    flag_exact n (λ us. compared int_eq signed (operand us 0) (operand us 1)) true (λ us. ne_word n signed (operand us 0) (operand us 1)) _ _ (equal_rule m signed a ta b tb) w
    (λ us. ap (flag_word n) (not_xor _)) (equal_decides m signed _ _ _ a ta b tb e f some_a some_b few_a few_b (of_both a ta b tb (compared int_eq signed))) q
