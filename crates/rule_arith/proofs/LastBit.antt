-- Exact taint by the cases of an operand of one bit, the last of four.
use Rattle.std.specs.Prelude.{ℕ, ◌<◌, ◌≡◌, ◌≢◌, ◌⊎◌, Bool, true, false, ◌||◌, List, [], ◌∷◌, length, set, refl}
use Rattle.std.proofs.Common.{arith, sym, ap, ◌∙◌, inl, inr, subst}
use Rattle.std.proofs.lemmas.List.{get_or-set_same}
use Rattle.cif_defs.specs.Completions.{AllComplete, CanDiffer, Completes, IsExact}
use Rattle.cif_defs.specs.Words.{Word, bit, word, xor}
use Rattle.cif_defs.proofs.WordLaws.{bit-word, length-word}
use Rattle.cif_defs.proofs.Exact.{cons_complete, nil_complete, true_by}
use Rattle.cif_defs.proofs.Split.{CasesDiffer, IsTaintedAt, fixed, split, split_back}
use Rattle.rule_arith.proofs.Limits.{at_bound, at_bound_clear, at_bound_tainted}
use Rattle.rule_arith.proofs.Turns.{IsSpread, cases_turn, joined_bit, or_off, or_on, spread_differs, spread_same, spread_value, xor_cancel, xor_off, xor_on}

-- ---- the two cases of one tainted bit

joined_parts : (s t0 t1 v0 v1 : Bool) → (s || joined_bit t0 t1 v0 v1) ≡ true → ((s || t0) ≡ true) ⊎ ((s || t1) ≡ true) ⊎ (v0 ≢ v1)
joined_parts true t0 t1 v0 v1 h = inl refl
joined_parts false t0 t1 v0 v1 h = elim (or_on (t0 || t1) (xor v0 v1) h) [
  | inl l ↦ elim (or_on t0 t1 l) [ inl x ↦ inl x | inr x ↦ inr (inl x) ]
  | inr r ↦ inr (inr (xor_on v0 v1 r))
]

record NoneJoined (s t0 t1 v0 v1 : Bool) : Type 0 where
  first : (s || t0) ≡ false
  second : (s || t1) ≡ false
  values : v0 ≡ v1

none_joined : (s t0 t1 v0 v1 : Bool) → (s || joined_bit t0 t1 v0 v1) ≡ false → NoneJoined s t0 t1 v0 v1
none_joined true t0 t1 v0 v1 h = absurd (cc)
none_joined false t0 t1 v0 v1 h =
    let outer = or_off (t0 || t1) (xor v0 v1) h in
    let inner = or_off t0 t1 outer.0 in
    record { first = inner.0; second = inner.1; values = xor_off v0 v1 outer.1 }

abbrev pub cases_rule : Bool → Bool → Bool → (Bool → Bool → Bool → Bool) → (Bool → Bool → Bool → Bool) → Bool
cases_rule single first second g0 g1 = single || joined_bit (cases_turn first second g0) (cases_turn first second g1) (g0 false false false) (g1 false false false)

module _ (f : List Word → Bool) (p j : ℕ) (vs ts : List Word) (turned single first second : Bool) (g0 g1 : Bool → Bool → Bool → Bool)
    (h : IsTaintedAt p j vs ts)
    (s0 : IsSpread f (fixed false p j vs) (fixed false p j ts) turned single first second g0)
    (s1 : IsSpread f (fixed true p j vs) (fixed false p j ts) turned single first second g1)
  where
    two_cases_only : cases_rule single first second g0 g1 ≡ true → CanDiffer f vs ts
    two_cases_only q = elim (joined_parts single (cases_turn first second g0) (cases_turn first second g1) (g0 false false false) (g1 false false false) q) [
      | inl x ↦ split_back f p j vs ts h (inl (spread_differs f _ _ turned single first second g0 s0 x))
      | inr r ↦ elim r [
        | inl x ↦ split_back f p j vs ts h (inr (inl (spread_differs f _ _ turned single first second g1 s1 x)))
        | inr n ↦ (let u = s0.reached false false false in
            let w = s1.reached false false false in
            split_back f p j vs ts h (inr (inr (record { zero_case = u.0; one_case = w.0; zero_completes = u.1; one_completes = w.1; differ = λ e. n (xor_cancel _ _ turned (sym u.2 ∙ e ∙ w.2)) }))))
      ]
    ]

    values_agree : NoneJoined single (cases_turn first second g0) (cases_turn first second g1) (g0 false false false) (g1 false false false) → CasesDiffer f p j vs ts → ⊥
    values_agree none c =
        c.differ (spread_value f _ _ c.zero_case turned single first second g0 s0 none.first c.zero_completes ∙ ap (λ b. xor b turned) none.values
        ∙ sym (spread_value f _ _ c.one_case turned single first second g1 s1 none.second c.one_completes))

    no_case : cases_rule single first second g0 g1 ≡ false → CanDiffer f (fixed false p j vs) (fixed false p j ts) ⊎ CanDiffer f (fixed true p j vs) (fixed false p j ts) ⊎ CasesDiffer f p j vs ts → ⊥
    no_case off (inl c) =
        let none = none_joined single (cases_turn first second g0) (cases_turn first second g1) (g0 false false false) (g1 false false false) off in
        let x : (single || cases_turn first second g0) ≡ true = spread_same f _ _ turned single first second g0 s0 c in
        let y : (single || cases_turn first second g0) ≡ false = none.first in absurd (cc)
    no_case off (inr (inl c)) =
        let none = none_joined single (cases_turn first second g0) (cases_turn first second g1) (g0 false false false) (g1 false false false) off in
        let x : (single || cases_turn first second g1) ≡ true = spread_same f _ _ turned single first second g1 s1 c in
        let y : (single || cases_turn first second g1) ≡ false = none.second in absurd (cc)
    no_case off (inr (inr c)) = values_agree (none_joined single (cases_turn first second g0) (cases_turn first second g1) (g0 false false false) (g1 false false false) off) c

    two_cases_all : CanDiffer f vs ts → cases_rule single first second g0 g1 ≡ true
    two_cases_all d = true_by (cases_rule single first second g0 g1) (λ off. no_case off (split f p j vs ts h d))

-- ---- an output of a cell whose last of four operands has one bit: g b is what it gives where that bit is b

abbrev pub four : Word → Word → Word → Word → List Word
four a b c d = a ∷ b ∷ c ∷ d ∷ []

abbrev pub last_rule : Bool → Bool → (ℕ → Bool) → (Bool → ℕ → Bool → Bool → Bool → Bool) → Word → Word → ℕ → Bool
last_rule first second single g d td i = cases_rule (single i) first second (g (at_bound false (bit d 0) (bit td 0)) i) (g (at_bound true (bit d 0) (bit td 0)) i)

twice : (s t v : Bool) → (s || joined_bit t t v v) ≡ (s || t)
twice true t v = refl
twice false true v = refl
twice false false true = refl
twice false false false = refl

module _ (n : ℕ) (f : ℕ → List Word → Bool) (a ta b tb c tc d td : Word) (single : ℕ → Bool) (first second : Bool) (g : Bool → ℕ → Bool → Bool → Bool → Bool)
    (one_d : length d ≡ 1) (one_td : length td ≡ 1)
    (spreads : (i : ℕ) (e te : Word) → i < n → bit te 0 ≡ false → IsSpread (f i) (four a b c e) (four ta tb tc te) false (single i) first second (g (bit e 0) i))
  where
    bit_tainted : bit td 0 ≡ true → IsTaintedAt 3 0 (four a b c d) (four ta tb tc td)
    bit_tainted t = record { in_values = omega arith; in_taints = omega arith; in_value = omega arith; in_taint = omega arith; tainted = t }

    case_of : (v : Bool) (i : ℕ) → i < n → IsSpread (f i) (four a b c (set d 0 v)) (four ta tb tc (set td 0 false)) false (single i) first second (g v i)
    case_of v i l =
        subst (λ x. IsSpread (f i) (four a b c (set d 0 v)) (four ta tb tc (set td 0 false)) false (single i) first second (g x i)) (get_or-set_same d 0 v false (omega arith))
        (spreads i (set d 0 v) (set td 0 false) l (get_or-set_same td 0 false false (omega arith)))

    last_only : (t : Bool) → bit td 0 ≡ t → (i : ℕ) → i < n → last_rule first second single g d td i ≡ true → CanDiffer (f i) (four a b c d) (four ta tb tc td)
    last_only true t i l h =
        two_cases_only (f i) 3 0 (four a b c d) (four ta tb tc td) false (single i) first second (g false i) (g true i) (bit_tainted t) (case_of false i l) (case_of true i l)
        (sym (ap (λ x. cases_rule (single i) first second (g x i) (g (at_bound true (bit d 0) (bit td 0)) i)) (at_bound_tainted false (bit d 0) (bit td 0) t)
        ∙ ap (λ x. cases_rule (single i) first second (g false i) (g x i)) (at_bound_tainted true (bit d 0) (bit td 0) t)) ∙ h)
    last_only false t i l h =
        spread_differs (f i) (four a b c d) (four ta tb tc td) false (single i) first second (g (bit d 0) i) (spreads i d td l t)
        (sym (ap (λ x. cases_rule (single i) first second (g x i) (g (at_bound true (bit d 0) (bit td 0)) i)) (at_bound_clear false (bit d 0) (bit td 0) t)
        ∙ ap (λ x. cases_rule (single i) first second (g (bit d 0) i) (g x i)) (at_bound_clear true (bit d 0) (bit td 0) t) ∙ twice (single i) (cases_turn first second (g (bit d 0) i)) (g (bit d 0) i false false false)) ∙ h)

    last_all : (t : Bool) → bit td 0 ≡ t → (i : ℕ) → i < n → CanDiffer (f i) (four a b c d) (four ta tb tc td) → last_rule first second single g d td i ≡ true
    last_all true t i l h =
        ap (λ x. cases_rule (single i) first second (g x i) (g (at_bound true (bit d 0) (bit td 0)) i)) (at_bound_tainted false (bit d 0) (bit td 0) t)
        ∙ ap (λ x. cases_rule (single i) first second (g false i) (g x i)) (at_bound_tainted true (bit d 0) (bit td 0) t)
        ∙ two_cases_all (f i) 3 0 (four a b c d) (four ta tb tc td) false (single i) first second (g false i) (g true i) (bit_tainted t) (case_of false i l) (case_of true i l) h
    last_all false t i l h =
        ap (λ x. cases_rule (single i) first second (g x i) (g (at_bound true (bit d 0) (bit td 0)) i)) (at_bound_clear false (bit d 0) (bit td 0) t)
        ∙ ap (λ x. cases_rule (single i) first second (g (bit d 0) i) (g x i)) (at_bound_clear true (bit d 0) (bit td 0) t) ∙ twice (single i) (cases_turn first second (g (bit d 0) i)) (g (bit d 0) i false false false)
        ∙ spread_same (f i) (four a b c d) (four ta tb tc td) false (single i) first second (g (bit d 0) i) (spreads i d td l t) h

    pub last_exact : (w : Word) → w ≡ word n (last_rule first second single g d td) → IsExact n f (four a b c d) (four ta tb tc td) w
    last_exact w q = record {
      as_long = ap length q ∙ length-word n _;
      only = λ i l h. last_only (bit td 0) refl i l (sym (bit-word n (last_rule first second single g d td) i false l) ∙ ap (λ (x : Word). bit x i) (sym q) ∙ h);
      all = λ i l h. ap (λ (x : Word). bit x i) q ∙ bit-word n (last_rule first second single g d td) i false l ∙ last_all (bit td 0) refl i l h;
    }

pub four_complete : (a ta u b tb w c tc z d td x : Word) → Completes a ta u → Completes b tb w → Completes c tc z → Completes d td x → AllComplete (four a b c d) (four ta tb tc td) (four u w z x)
four_complete a ta u b tb w c tc z d td x p q r s = cons_complete a _ ta _ u _ p (cons_complete b _ tb _ w _ q (cons_complete c _ tc _ z _ r (cons_complete d [] td [] x [] s nil_complete)))
