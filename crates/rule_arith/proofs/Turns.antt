-- What cases of bits decide: whether a bit is the same in all of them.
use Rattle.std.specs.Prelude.{ℕ, ◌<◌, ◌≡◌, ◌≢◌, ◌⊎◌, Bool, true, false, ◌||◌, List, length, if◌then◌else◌, refl}
use Rattle.std.proofs.Common.{sym, ap, ◌∙◌, inl, inr}
use Rattle.cif_defs.specs.Completions.{AllComplete, CanDiffer, IsExact}
use Rattle.cif_defs.specs.Words.{Word, bit, word, xor}
use Rattle.cif_defs.proofs.WordLaws.{bit-word, length-word}
use Rattle.cif_defs.proofs.Exact.{true_by}

-- ---- a bit g upper a b for each case, as formulas have it for words

abbrev pub joined_bit : Bool → Bool → Bool → Bool → Bool
joined_bit t0 t1 v0 v1 = (t0 || t1) || xor v0 v1

abbrev pub case_turns : (Bool → Bool → Bool → Bool) → Bool → Bool → Bool
case_turns g a b = xor (g false a b) (g true a b)

abbrev pub second_turns : Bool → (Bool → Bool → Bool → Bool) → Bool → Bool
second_turns split g a = if split then joined_bit (case_turns g a false) (case_turns g a true) (g false a false) (g false a true) else case_turns g a false

abbrev pub cases_turn : Bool → Bool → (Bool → Bool → Bool → Bool) → Bool
cases_turn first second g =
    if first
    then joined_bit (second_turns second g false) (second_turns second g true) (g false false false) (g false true false)
    else second_turns second g false

-- ---- where nothing turns, all cases give one bit

pub xor_off : (a b : Bool) → xor a b ≡ false → a ≡ b
xor_off true true h = refl
xor_off false false h = refl
xor_off true false h = absurd (cc)
xor_off false true h = absurd (cc)

pub xor_on : (a b : Bool) → xor a b ≡ true → a ≢ b
xor_on true true h e = absurd (cc)
xor_on true false h e = absurd (cc)
xor_on false true h e = absurd (cc)
xor_on false false h e = absurd (cc)

pub or_off : (a b : Bool) → (a || b) ≡ false → (a ≡ false) × (b ≡ false)
or_off true b h = absurd (cc)
or_off false b h = (refl, h)

pub or_on : (a b : Bool) → (a || b) ≡ true → (a ≡ true) ⊎ (b ≡ true)
or_on true b h = inl refl
or_on false b h = inr h

record AllSame (t0 t1 v0 v1 : Bool) : Type 0 where
  first : t0 ≡ false
  second : t1 ≡ false
  values : v0 ≡ v1

joined_off : (t0 t1 v0 v1 : Bool) → joined_bit t0 t1 v0 v1 ≡ false → AllSame t0 t1 v0 v1
joined_off t0 t1 v0 v1 h =
    let outer = or_off (t0 || t1) (xor v0 v1) h in
    let inner = or_off t0 t1 outer.0 in
    record { first = inner.0; second = inner.1; values = xor_off v0 v1 outer.1 }

case_same : (g : Bool → Bool → Bool → Bool) (a b u : Bool) → case_turns g a b ≡ false → g u a b ≡ g false a b
case_same g a b true h = sym (xor_off (g false a b) (g true a b) h)
case_same g a b false h = refl

-- where a sign has one case it doesn't matter
abbrev pub IsOneSecond : Bool → (Bool → Bool → Bool → Bool) → Type 0
IsOneSecond split g = split ≡ false → (u a b : Bool) → g u a b ≡ g u a false

abbrev pub IsOneFirst : Bool → (Bool → Bool → Bool → Bool) → Type 0
IsOneFirst split g = split ≡ false → (u a b : Bool) → g u a b ≡ g u false b

second_same : (split : Bool) (g : Bool → Bool → Bool → Bool) (a u b : Bool) → IsOneSecond split g → second_turns split g a ≡ false → g u a b ≡ g false a false
second_same true g a u false one h = case_same g a false u (joined_off (case_turns g a false) (case_turns g a true) (g false a false) (g false a true) h).first
second_same true g a u true one h = let r = joined_off (case_turns g a false) (case_turns g a true) (g false a false) (g false a true) h in case_same g a true u r.second ∙ sym r.values
second_same false g a u b one h = one refl u a b ∙ case_same g a false u h

pub cases_same : (first second : Bool) (g : Bool → Bool → Bool → Bool) (u a b : Bool) → IsOneFirst first g → IsOneSecond second g → cases_turn first second g ≡ false → g u a b ≡ g false false false
cases_same true second g u false b one two h = second_same second g false u b two (joined_off (second_turns second g false) (second_turns second g true) (g false false false) (g false true false) h).first
cases_same true second g u true b one two h =
    let r = joined_off (second_turns second g false) (second_turns second g true) (g false false false) (g false true false) h in
    second_same second g true u b two r.second ∙ sym r.values
cases_same false second g u a b one two h = one refl u a b ∙ second_same second g false u b two h

-- ---- where something turns, two cases differ

pub record Turns (g : Bool → Bool → Bool → Bool) : Type 0 where
  pub u1 : Bool
  pub a1 : Bool
  pub b1 : Bool
  pub u2 : Bool
  pub a2 : Bool
  pub b2 : Bool
  pub differ : g u1 a1 b1 ≢ g u2 a2 b2

case_turned : (g : Bool → Bool → Bool → Bool) (a b : Bool) → case_turns g a b ≡ true → Turns g
case_turned g a b h = record { u1 = false; a1 = a; b1 = b; u2 = true; a2 = a; b2 = b; differ = xor_on _ _ h }

second_turned : (split : Bool) (g : Bool → Bool → Bool → Bool) (a : Bool) → second_turns split g a ≡ true → Turns g
second_turned true g a h = elim (or_on (case_turns g a false || case_turns g a true) (xor (g false a false) (g false a true)) h) [
  | inl l ↦ elim (or_on (case_turns g a false) (case_turns g a true) l) [ inl x ↦ case_turned g a false x | inr x ↦ case_turned g a true x ]
  | inr r ↦ record { u1 = false; a1 = a; b1 = false; u2 = false; a2 = a; b2 = true; differ = xor_on _ _ r }
]
second_turned false g a h = case_turned g a false h

pub cases_turned : (first second : Bool) (g : Bool → Bool → Bool → Bool) → cases_turn first second g ≡ true → Turns g
cases_turned true second g h = elim (or_on (second_turns second g false || second_turns second g true) (xor (g false false false) (g false true false)) h) [
  | inl l ↦ elim (or_on (second_turns second g false) (second_turns second g true) l) [ inl x ↦ second_turned second g false x | inr x ↦ second_turned second g true x ]
  | inr r ↦ record { u1 = false; a1 = false; b1 = false; u2 = false; a2 = true; b2 = false; differ = xor_on _ _ r }
]
cases_turned false second g h = second_turned second g false h

-- ---- exact taint from cases: single says where a tainted bit stands at a place of its own

pub xor_twice : (x y : Bool) → xor (xor x y) y ≡ x
xor_twice true true = refl
xor_twice true false = refl
xor_twice false true = refl
xor_twice false false = refl

pub xor_cancel : (x y z : Bool) → xor x z ≡ xor y z → x ≡ y
xor_cancel x y z e = sym (xor_twice x z) ∙ ap (λ b. xor b z) e ∙ xor_twice y z

-- f gives g, complemented where turned is 1
pub record IsSpread (f : List Word → Bool) (vs ts : List Word) (turned single first second : Bool) (g : Bool → Bool → Bool → Bool) : Type 0 where
  pub alone : single ≡ true → CanDiffer f vs ts
  pub reached : (u a b : Bool) → (us : List Word) × AllComplete vs ts us × (f us ≡ xor (g u a b) turned)
  pub within : (us : List Word) → AllComplete vs ts us → single ≡ false → (a : Bool) × (b : Bool) × (g false a b ≡ g true a b → f us ≡ xor (g false a b) turned)
  pub one_first : IsOneFirst first g
  pub one_second : IsOneSecond second g

two_reached : (f : List Word → Bool) (vs ts : List Word) (turned x y : Bool) → (us : List Word) × AllComplete vs ts us × (f us ≡ xor x turned) → (us : List Word) × AllComplete vs ts us × (f us ≡ xor y turned) → x ≢ y → CanDiffer f vs ts
two_reached f vs ts turned x y p q n = record { first = p.0; second = q.0; first_completes = p.1; second_completes = q.1; differ = λ e. n (xor_cancel x y turned (sym p.2 ∙ e ∙ q.2)) }

pub spread_differs : (f : List Word → Bool) (vs ts : List Word) (turned single first second : Bool) (g : Bool → Bool → Bool → Bool) → IsSpread f vs ts turned single first second g
    → (single || cases_turn first second g) ≡ true → CanDiffer f vs ts
spread_differs f vs ts turned single first second g s h = elim (or_on single (cases_turn first second g) h) [
  | inl x ↦ s.alone x
  | inr x ↦ (let t = cases_turned first second g x in two_reached f vs ts turned (g t.u1 t.a1 t.b1) (g t.u2 t.a2 t.b2) (s.reached t.u1 t.a1 t.b1) (s.reached t.u2 t.a2 t.b2) t.differ)
]

pub spread_value : (f : List Word → Bool) (vs ts us : List Word) (turned single first second : Bool) (g : Bool → Bool → Bool → Bool) → IsSpread f vs ts turned single first second g
    → (single || cases_turn first second g) ≡ false → AllComplete vs ts us → f us ≡ xor (g false false false) turned
spread_value f vs ts us turned single first second g s h c =
    let off = or_off single (cases_turn first second g) h in
    let w = s.within us c off.0 in
    let all : (u a b : Bool) → g u a b ≡ g false false false = λ u a b. cases_same first second g u a b s.one_first s.one_second off.1 in
    w.2 (all false w.0 w.1 ∙ sym (all true w.0 w.1)) ∙ ap (λ b. xor b turned) (all false w.0 w.1)

pub spread_same : (f : List Word → Bool) (vs ts : List Word) (turned single first second : Bool) (g : Bool → Bool → Bool → Bool) → IsSpread f vs ts turned single first second g
    → CanDiffer f vs ts → (single || cases_turn first second g) ≡ true
spread_same f vs ts turned single first second g s d =
    true_by _ (λ h. d.differ (spread_value f vs ts d.first turned single first second g s h d.first_completes ∙ sym (spread_value f vs ts d.second turned single first second g s h d.second_completes)))

-- the rule at each place is exact
pub spread_exact : (n : ℕ) (f : ℕ → List Word → Bool) (vs ts : List Word) (turned : Bool) (single : ℕ → Bool) (first second : Bool) (g : ℕ → Bool → Bool → Bool → Bool) (w : Word)
    → ((i : ℕ) → i < n → IsSpread (f i) vs ts turned (single i) first second (g i)) → w ≡ word n (λ i. single i || cases_turn first second (g i)) → IsExact n f vs ts w
spread_exact n f vs ts turned single first second g w s q =
    let rule : ℕ → Bool = λ i. single i || cases_turn first second (g i) in
    record {
      as_long = ap length q ∙ length-word n rule;
      only = λ i l h. spread_differs (f i) vs ts turned (single i) first second (g i) (s i l) (sym (bit-word n rule i false l) ∙ ap (λ (x : Word). bit x i) (sym q) ∙ h);
      all = λ i l d. ap (λ (x : Word). bit x i) q ∙ bit-word n rule i false l ∙ spread_same (f i) vs ts turned (single i) first second (g i) (s i l) d;
    }
