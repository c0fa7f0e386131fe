-- The exact taint of a choice by one bit of an operand, between two functions that don't read that bit.
use Rattle.std.specs.Prelude.{ℕ, ◌<◌, ◌≡◌, ◌≢◌, ◌⊎◌, Bool, true, false, ◌||◌, List, [], length, set, refl, if◌then◌else◌}
use Rattle.std.proofs.Common.{arith, sym, ap, ◌∙◌, inl, inr}
use Rattle.std.proofs.lemmas.List.{get_or-set_same, get_or-set_other, length-set}
use Rattle.cif_defs.specs.Words.{Word, bit, operand, xor}
use Rattle.cif_defs.specs.Completions.{AllComplete, Completes, can_differ}
use Rattle.cif_defs.proofs.Split.{fixed}
use Rattle.cif_defs.proofs.Differ.{CanDiffer-from_test}
use Rattle.cif_defs.proofs.Agree.{self_complete}
use Rattle.rule_select.specs.Choices.{choice_taint}
use Rattle.rule_select.proofs.DifferTests.{same_differ, never_differs, clear_value, differ_at}

same_or_other : (i j : ℕ) → (i ≡ j) ⊎ (i ≢ j)
same_or_other i j = search arith

at_fixed : (d : Bool) (p j : ℕ) (us : List Word) → p < length us → operand (fixed d p j us) p ≡ set (operand us p) j d
at_fixed d p j us h = get_or-set_same us p (set (operand us p) j d) [] h

at_other : (d : Bool) (p j q : ℕ) (us : List Word) → q ≢ p → operand (fixed d p j us) q ≡ operand us q
at_other d p j q us h = get_or-set_other us p q (set (operand us p) j d) [] h

-- f doesn't read bit j of operand p
pub record Ignores (f : List Word → Bool) (p j : ℕ) : Type 0 where
  pub same : (d : Bool) (us : List Word) → f (fixed d p j us) ≡ f us

-- ---- completions stay completions where a tainted bit is written

set_completes : (d : Bool) (j : ℕ) (v t u : Word) → bit t j ≡ true → Completes v t u → Completes v t (set u j d)
set_completes d j v t u h c = record {
  as_long = length-set u j d ∙ c.as_long;
  same = λ i q. elim (same_or_other i j) [
    | inl s ↦ absurd (let e : bit t i ≡ bit t j = ap (λ k. bit t k) s in cc)
    | inr o ↦ get_or-set_other u j i d false o ∙ c.same i q
  ];
}

completes_as : (v t u w : Word) → u ≡ w → Completes v t u → Completes v t w
completes_as v t u w e c = record {
  as_long = sym (ap length e) ∙ c.as_long;
  same = λ i q. sym (ap (λ (x : Word). bit x i) e) ∙ c.same i q;
}

completes_at : (vs ts : List Word) (p q : ℕ) (u : Word) → q ≡ p → Completes (operand vs p) (operand ts p) u → Completes (operand vs q) (operand ts q) u
completes_at vs ts p q u e c = record {
  as_long = c.as_long ∙ sym (ap (λ k. length (operand vs k)) e);
  same = λ i h. c.same i (sym (ap (λ k. bit (operand ts k) i) e) ∙ h) ∙ sym (ap (λ k. bit (operand vs k) i) e);
}

pub fixed_complete : (d : Bool) (p j : ℕ) (vs ts us : List Word) → p < length vs → bit (operand ts p) j ≡ true → AllComplete vs ts us → AllComplete vs ts (fixed d p j us)
fixed_complete d p j vs ts us l h c =
    let n : length us ≡ length vs = c.as_many in
    record {
      as_many = length-set us p (set (operand us p) j d) ∙ n;
      each = λ q. elim (same_or_other q p) [
        | inl s ↦ completes_at vs ts p q (operand (fixed d p j us) q) s (completes_as _ _ _ _ (sym (at_fixed d p j us (omega arith)) ∙ sym (ap (λ k. operand (fixed d p j us) k) s)) (set_completes d j (operand vs p) (operand ts p) (operand us p) h (c.each p)))
        | inr o ↦ completes_as _ _ _ _ (sym (at_other d p j q us o)) (c.each q)
      ];
    }

pub bit_fixed : (d : Bool) (p j : ℕ) (us : List Word) → p < length us → j < length (operand us p) → bit (operand (fixed d p j us) p) j ≡ d
bit_fixed d p j us h k = ap (λ (x : Word). bit x j) (at_fixed d p j us h) ∙ get_or-set_same (operand us p) j d false k

-- ---- the law

-- f is a choice by bit j of operand p, which is there
pub record IsChoice (f f0 f1 : List Word → Bool) (p j : ℕ) (vs : List Word) : Type 0 where
  pub there : p < length vs
  pub within : j < length (operand vs p)
  pub chosen : (us : List Word) → f us ≡ (if bit (operand us p) j then f1 us else f0 us)
  pub zero_ignores : Ignores f0 p j
  pub one_ignores : Ignores f1 p j

select : (s x y : Bool) (e : Bool) → s ≡ e → (if s then y else x) ≡ (if e then y else x)
select s x y e h = ap (λ k. if k then y else x) h

-- with the select at 0, or at 1, where it is tainted
at_zero : (f f0 f1 : List Word → Bool) (p j : ℕ) (vs ts us : List Word) → IsChoice f f0 f1 p j vs → AllComplete vs ts us → f (fixed false p j us) ≡ f0 us
at_zero f f0 f1 p j vs ts us k c =
    let n : length us ≡ length vs = c.as_many in
    let l : length (operand us p) ≡ length (operand vs p) = (c.each p).as_long in
    let h : p < length vs = k.there in
    let w : j < length (operand vs p) = k.within in
    k.chosen (fixed false p j us) ∙ select _ _ _ false (bit_fixed false p j us (omega arith) (omega arith)) ∙ k.zero_ignores.same false us

at_one : (f f0 f1 : List Word → Bool) (p j : ℕ) (vs ts us : List Word) → IsChoice f f0 f1 p j vs → AllComplete vs ts us → f (fixed true p j us) ≡ f1 us
at_one f f0 f1 p j vs ts us k c =
    let n : length us ≡ length vs = c.as_many in
    let l : length (operand us p) ≡ length (operand vs p) = (c.each p).as_long in
    let h : p < length vs = k.there in
    let w : j < length (operand vs p) = k.within in
    k.chosen (fixed true p j us) ∙ select _ _ _ true (bit_fixed true p j us (omega arith) (omega arith)) ∙ k.one_ignores.same true us

-- a difference of a branch, or between the branches, is one of the choice
zero_differs : (f f0 f1 : List Word → Bool) (p j : ℕ) (vs ts : List Word) → IsChoice f f0 f1 p j vs → bit (operand ts p) j ≡ true → can_differ f0 vs ts ≡ true → can_differ f vs ts ≡ true
zero_differs f f0 f1 p j vs ts k t h =
    let d = CanDiffer-from_test f0 vs ts h in
    differ_at f vs ts (fixed false p j d.first) (fixed false p j d.second) (fixed_complete false p j vs ts d.first k.there t d.first_completes) (fixed_complete false p j vs ts d.second k.there t d.second_completes)
    (λ e. d.differ (sym (at_zero f f0 f1 p j vs ts d.first k d.first_completes) ∙ e ∙ at_zero f f0 f1 p j vs ts d.second k d.second_completes))

one_differs : (f f0 f1 : List Word → Bool) (p j : ℕ) (vs ts : List Word) → IsChoice f f0 f1 p j vs → bit (operand ts p) j ≡ true → can_differ f1 vs ts ≡ true → can_differ f vs ts ≡ true
one_differs f f0 f1 p j vs ts k t h =
    let d = CanDiffer-from_test f1 vs ts h in
    differ_at f vs ts (fixed true p j d.first) (fixed true p j d.second) (fixed_complete true p j vs ts d.first k.there t d.first_completes) (fixed_complete true p j vs ts d.second k.there t d.second_completes)
    (λ e. d.differ (sym (at_one f f0 f1 p j vs ts d.first k d.first_completes) ∙ e ∙ at_one f f0 f1 p j vs ts d.second k d.second_completes))

both_differ : (f f0 f1 : List Word → Bool) (p j : ℕ) (vs ts : List Word) → IsChoice f f0 f1 p j vs → bit (operand ts p) j ≡ true → f0 vs ≢ f1 vs → can_differ f vs ts ≡ true
both_differ f f0 f1 p j vs ts k t n =
    let c : AllComplete vs ts vs = self_complete vs ts in
    differ_at f vs ts (fixed false p j vs) (fixed true p j vs) (fixed_complete false p j vs ts vs k.there t c) (fixed_complete true p j vs ts vs k.there t c)
    (λ e. n (sym (at_zero f f0 f1 p j vs ts vs k c) ∙ e ∙ at_one f f0 f1 p j vs ts vs k c))

-- where no branch can differ, and both have one value, the choice has it
choice_value : (s x y : Bool) → xor x y ≡ false → (if s then y else x) ≡ x
choice_value true true true h = refl
choice_value true true false h = absurd (cc)
choice_value true false true h = absurd (cc)
choice_value true false false h = refl
choice_value false x y h = refl

clear_choice : (f f0 f1 : List Word → Bool) (p j : ℕ) (vs ts us : List Word) → IsChoice f f0 f1 p j vs → AllComplete vs ts us → can_differ f0 vs ts ≡ false → can_differ f1 vs ts ≡ false → xor (f0 vs) (f1 vs) ≡ false
    → f us ≡ f0 vs
clear_choice f f0 f1 p j vs ts us k c h0 h1 e =
    let z : f0 us ≡ f0 vs = clear_value f0 vs ts us h0 c in
    let o : f1 us ≡ f1 vs = clear_value f1 vs ts us h1 c in
    k.chosen us ∙ ap (λ b. if bit (operand us p) j then b else f0 us) o ∙ ap (λ b. if bit (operand us p) j then f1 vs else b) z ∙ choice_value (bit (operand us p) j) (f0 vs) (f1 vs) e

same_xor : (x y : Bool) → x ≢ y → xor x y ≡ true
same_xor true true n = absurd (n refl)
same_xor true false n = refl
same_xor false true n = refl
same_xor false false n = absurd (n refl)

xor_differ : (x y : Bool) → xor x y ≡ true → x ≢ y
xor_differ true true h e = absurd (cc)
xor_differ true false h e = absurd (cc)
xor_differ false true h e = absurd (cc)
xor_differ false false h e = absurd (cc)

tainted_choice_by : (f f0 f1 : List Word → Bool) (p j : ℕ) (vs ts : List Word) (t0 t1 x : Bool) → IsChoice f f0 f1 p j vs → bit (operand ts p) j ≡ true
    → can_differ f0 vs ts ≡ t0 → can_differ f1 vs ts ≡ t1 → xor (f0 vs) (f1 vs) ≡ x → can_differ f vs ts ≡ (t0 || t1 || x)
tainted_choice_by f f0 f1 p j vs ts true t1 x k t e0 e1 ex = zero_differs f f0 f1 p j vs ts k t e0
tainted_choice_by f f0 f1 p j vs ts false true x k t e0 e1 ex = one_differs f f0 f1 p j vs ts k t e1
tainted_choice_by f f0 f1 p j vs ts false false true k t e0 e1 ex = both_differ f f0 f1 p j vs ts k t (xor_differ _ _ ex)
tainted_choice_by f f0 f1 p j vs ts false false false k t e0 e1 ex = never_differs f vs ts (f0 vs) (λ us c. clear_choice f f0 f1 p j vs ts us k c e0 e1 ex)

clear_choice_by : (f f0 f1 : List Word → Bool) (p j : ℕ) (vs ts : List Word) (s : Bool) → IsChoice f f0 f1 p j vs → bit (operand ts p) j ≡ false → bit (operand vs p) j ≡ s
    → can_differ f vs ts ≡ (if s then can_differ f1 vs ts else can_differ f0 vs ts)
clear_choice_by f f0 f1 p j vs ts true k t e = same_differ f f1 vs ts (λ us c. k.chosen us ∙ select _ _ _ true ((c.each p).same j t ∙ e))
clear_choice_by f f0 f1 p j vs ts false k t e = same_differ f f0 vs ts (λ us c. k.chosen us ∙ select _ _ _ false ((c.each p).same j t ∙ e))

choice_by : (f f0 f1 : List Word → Bool) (p j : ℕ) (vs ts : List Word) (t : Bool) → IsChoice f f0 f1 p j vs → bit (operand ts p) j ≡ t
    → can_differ f vs ts ≡ choice_taint (f0 vs) (can_differ f0 vs ts) (f1 vs) (can_differ f1 vs ts) (bit (operand vs p) j) t
choice_by f f0 f1 p j vs ts true k e = tainted_choice_by f f0 f1 p j vs ts _ _ _ k e refl refl refl
choice_by f f0 f1 p j vs ts false k e = clear_choice_by f f0 f1 p j vs ts (bit (operand vs p) j) k e refl

-- whether a choice can differ
pub choice_differs : (f f0 f1 : List Word → Bool) (p j : ℕ) (vs ts : List Word) → IsChoice f f0 f1 p j vs
    → can_differ f vs ts ≡ choice_taint (f0 vs) (can_differ f0 vs ts) (f1 vs) (can_differ f1 vs ts) (bit (operand vs p) j) (bit (operand ts p) j)
choice_differs f f0 f1 p j vs ts k = choice_by f f0 f1 p j vs ts (bit (operand ts p) j) k refl

-- ---- what reads one bit

-- whether a bit of an operand can differ: where it is tainted
bit_by : (p i : ℕ) (vs ts : List Word) (t : Bool) → p < length vs → i < length (operand vs p) → bit (operand ts p) i ≡ t → can_differ (λ us. bit (operand us p) i) vs ts ≡ t
bit_by p i vs ts true l h e =
    let c : AllComplete vs ts vs = self_complete vs ts in
    differ_at (λ us. bit (operand us p) i) vs ts (fixed false p i vs) (fixed true p i vs) (fixed_complete false p i vs ts vs l e c) (fixed_complete true p i vs ts vs l e c)
    (λ q. absurd (let z : bit (operand (fixed false p i vs) p) i ≡ false = bit_fixed false p i vs l h in let o : bit (operand (fixed true p i vs) p) i ≡ true = bit_fixed true p i vs l h in cc))
bit_by p i vs ts false l h e = never_differs (λ us. bit (operand us p) i) vs ts (bit (operand vs p) i) (λ us c. (c.each p).same i e)

pub bit_differs : (p i : ℕ) (vs ts : List Word) → p < length vs → i < length (operand vs p) → can_differ (λ us. bit (operand us p) i) vs ts ≡ bit (operand ts p) i
bit_differs p i vs ts l h = bit_by p i vs ts (bit (operand ts p) i) l h refl

-- reading another bit
pub reads_other : (p j q i : ℕ) → q ≢ p → Ignores (λ us. bit (operand us q) i) p j
reads_other p j q i o = record { same = λ d us. ap (λ (x : Word). bit x i) (at_other d p j q us o) }
