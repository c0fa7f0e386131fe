-- Exact taint of reductions: one bit, and zeros above it.
use Rattle.std.specs.Prelude.{ℕ, zero, suc, ◌<◌, ◌≡◌, ◌≢◌, Bool, true, false, not, ◌&&◌, ◌||◌, ◌==◌, List, [], ◌∷◌, length, refl}
use Rattle.std.proofs.Common.{arith, sym, ap, ◌∙◌, inl, inr}
use Rattle.std.proofs.lemmas.Bool.Decides.{nat_tests}
use Rattle.cif_defs.specs.Completions.{CanDiffer, Completes, IsExact}
use Rattle.cif_defs.specs.Words.{Word, bit, operand, flag_word, has_one, is_all_ones, parity, xor}
use Rattle.cif_defs.proofs.WordLaws.{bit-word, length-word, same_words}
use Rattle.cif_defs.proofs.Numbers.{Le}
use Rattle.cif_defs.proofs.Differ.{completes_cons}
use Rattle.cif_defs.proofs.Agree.{self_complete}
use Rattle.cif_defs.proofs.Exact.{SameShape, and_both, and_true, cons_complete, nil_complete, or_left, or_right, or_true, true_by}
use Rattle.rule_logic.proofs.Monotone.{Grows, differs_spread, spread_differs, spreads}

-- ---- a flag

flag_first : (n : ℕ) (b : Bool) → 0 < n → bit (flag_word n b) 0 ≡ b
flag_first n b h = bit-word n (λ i. i == 0 && b) 0 false h

flag_above : (n i : ℕ) (b : Bool) → suc i < n → bit (flag_word n b) (suc i) ≡ false
flag_above n i b h =
    let later : (suc i == 0) ≡ false = grind (arith, nat_tests) in
    bit-word n (λ k. k == 0 && b) (suc i) false h ∙ ap (λ x. x && b) later

shown : (n : ℕ) (f : List Word → Bool) (vs ts : List Word) → 0 < n → CanDiffer f vs ts → CanDiffer (λ us. bit (flag_word n (f us)) 0) vs ts
shown n f vs ts h d = record {
  first = d.first;
  second = d.second;
  first_completes = d.first_completes;
  second_completes = d.second_completes;
  differ = λ q. d.differ (sym (flag_first n (f d.first) h) ∙ q ∙ flag_first n (f d.second) h);
}

seen : (n : ℕ) (f : List Word → Bool) (vs ts : List Word) → 0 < n → CanDiffer (λ us. bit (flag_word n (f us)) 0) vs ts → CanDiffer f vs ts
seen n f vs ts h d = record {
  first = d.first;
  second = d.second;
  first_completes = d.first_completes;
  second_completes = d.second_completes;
  differ = λ q. d.differ (flag_first n (f d.first) h ∙ q ∙ sym (flag_first n (f d.second) h));
}

only_at : (n : ℕ) (f : List Word → Bool) (vs ts : List Word) (b : Bool) → (b ≡ true → CanDiffer f vs ts) → (i : ℕ) → i < n → bit (flag_word n b) i ≡ true → CanDiffer (λ us. bit (flag_word n (f us)) i) vs ts
only_at n f vs ts b k zero h q = shown n f vs ts h (k (sym (flag_first n b h) ∙ q))
only_at n f vs ts b k (suc i) h q = absurd (let e : bit (flag_word n b) (suc i) ≡ false = flag_above n i b h in cc)

all_at : (n : ℕ) (f : List Word → Bool) (vs ts : List Word) (b : Bool) → (CanDiffer f vs ts → b ≡ true) → (i : ℕ) → i < n → CanDiffer (λ us. bit (flag_word n (f us)) i) vs ts → bit (flag_word n b) i ≡ true
all_at n f vs ts b k zero h d = flag_first n b h ∙ k (seen n f vs ts h d)
all_at n f vs ts b k (suc i) h d = absurd (d.differ (flag_above n i (f d.first) h ∙ sym (flag_above n i (f d.second) h)))

-- a flag is exact where its bit says whether the bit that it shows can differ
pub flag_exact : (n : ℕ) (f : List Word → Bool) (vs ts : List Word) (b : Bool) → (CanDiffer f vs ts → b ≡ true) → (b ≡ true → CanDiffer f vs ts)
    → IsExact n (λ i us. bit (flag_word n (f us)) i) vs ts (flag_word n b)
flag_exact n f vs ts b all only = record { as_long = length-word n (λ i. i == 0 && b); only = only_at n f vs ts b only; all = all_at n f vs ts b all }

pub spread_exact : (n : ℕ) (f : List Word → Bool) (vs ts : List Word) → Grows f → SameShape vs ts → IsExact n (λ i us. bit (flag_word n (f us)) i) vs ts (flag_word n (spreads f vs ts))
spread_exact n f vs ts g s = flag_exact n f vs ts (spreads f vs ts) (differs_spread f vs ts g s) (spread_differs f vs ts s)

-- the complement can differ where the bit can
complement_differs : (f : List Word → Bool) (vs ts : List Word) → CanDiffer f vs ts → CanDiffer (λ us. not (f us)) vs ts
complement_differs f vs ts d = record { first = d.first; second = d.second; first_completes = d.first_completes; second_completes = d.second_completes; differ = λ q. d.differ (same_not (f d.first) (f d.second) q) } where
  same_not : (a b : Bool) → not a ≡ not b → a ≡ b
  same_not true true e = refl
  same_not false false e = refl
  same_not true false e = absurd (cc)
  same_not false true e = absurd (cc)

differs_complement : (f : List Word → Bool) (vs ts : List Word) → CanDiffer (λ us. not (f us)) vs ts → CanDiffer f vs ts
differs_complement f vs ts d = record { first = d.first; second = d.second; first_completes = d.first_completes; second_completes = d.second_completes; differ = λ q. d.differ (ap not q) }

pub complement_exact : (n : ℕ) (f : List Word → Bool) (vs ts : List Word) → Grows f → SameShape vs ts → IsExact n (λ i us. bit (flag_word n (not (f us))) i) vs ts (flag_word n (spreads f vs ts))
complement_exact n f vs ts g s = flag_exact n (λ us. not (f us)) vs ts (spreads f vs ts)
    (λ d. differs_spread f vs ts g s (differs_complement f vs ts d)) (λ h. complement_differs f vs ts (spread_differs f vs ts s h))

-- ---- what grows

ones_grow : (u w : Word) → length u ≡ length w → ((i : ℕ) → Le (bit u i) (bit w i)) → Le (is_all_ones u) (is_all_ones w)
ones_grow [] [] e h q = refl
ones_grow [] (y ∷ w) e h q = absurd (let k : 0 ≡ suc (length w) = e in omega arith)
ones_grow (x ∷ u) [] e h q = absurd (let k : suc (length u) ≡ 0 = e in omega arith)
ones_grow (x ∷ u) (y ∷ w) e h q =
    let both = and_true x (is_all_ones u) q in
    and_both y (is_all_ones w) (h 0 both.0) (ones_grow u w (let k : suc (length u) ≡ suc (length w) = e in omega arith) (λ i. h (suc i)) both.1)

one_grows : (u w : Word) → length u ≡ length w → ((i : ℕ) → Le (bit u i) (bit w i)) → Le (has_one u) (has_one w)
one_grows [] w e h q = absurd (let k : false ≡ true = q in cc)
one_grows (x ∷ u) [] e h q = absurd (let k : suc (length u) ≡ 0 = e in omega arith)
one_grows (x ∷ u) (y ∷ w) e h q = elim (or_true x (has_one u) q) [
  | inl a ↦ or_left y (has_one w) (h 0 a)
  | inr a ↦ or_right y (has_one w) (one_grows u w (let k : suc (length u) ≡ suc (length w) = e in omega arith) (λ i. h (suc i)) a)
]

pub ones_grows : Grows (λ us. is_all_ones (operand us 0))
ones_grows us ws b = ones_grow (operand us 0) (operand ws 0) (b.as_long 0) (b.below 0)

pub some_grows : Grows (λ us. has_one (operand us 0))
some_grows us ws b = one_grows (operand us 0) (operand ws 0) (b.as_long 0) (b.below 0)

pub both_grow : Grows (λ us. has_one (operand us 0) && has_one (operand us 1))
both_grow us ws b q =
    let both = and_true (has_one (operand us 0)) (has_one (operand us 1)) q in
    and_both (has_one (operand ws 0)) (has_one (operand ws 1)) (one_grows (operand us 0) (operand ws 0) (b.as_long 0) (b.below 0) both.0) (one_grows (operand us 1) (operand ws 1) (b.as_long 1) (b.below 1) both.1)

pub either_grows : Grows (λ us. has_one (operand us 0) || has_one (operand us 1))
either_grows us ws b q = elim (or_true (has_one (operand us 0)) (has_one (operand us 1)) q) [
  | inl a ↦ or_left (has_one (operand ws 0)) (has_one (operand ws 1)) (one_grows (operand us 0) (operand ws 0) (b.as_long 0) (b.below 0) a)
  | inr a ↦ or_right (has_one (operand ws 0)) (has_one (operand ws 1)) (one_grows (operand us 1) (operand ws 1) (b.as_long 1) (b.below 1) a)
]

-- ---- parity: any tainted bit turns it

turned : (b p : Bool) → xor (not b) p ≡ not (xor b p)
turned true true = refl
turned true false = refl
turned false true = refl
turned false false = refl

kept : (b p q : Bool) → q ≡ not p → xor b q ≡ not (xor b p)
kept true true q e = ap (xor true) e
kept true false q e = ap (xor true) e
kept false true q e = e
kept false false q e = e

turn : (v t : Word) → length t ≡ length v → has_one t ≡ true → (u : Word) × Completes v t u × (parity u ≡ not (parity v))
turn [] [] e h = absurd (let k : false ≡ true = h in cc)
turn [] (x ∷ t) e h = absurd (let k : suc (length t) ≡ 0 = e in omega arith)
turn (b ∷ v) [] e h = absurd (let k : false ≡ true = h in cc)
turn (b ∷ v) (true ∷ t) e h = (not b ∷ v, completes_cons b v true t (not b) v (λ q. absurd (cc)) (self t v), turned b (parity v)) where
  self : (t v : Word) → Completes v t v
  self t v = record { as_long = refl; same = λ i h. refl }
turn (b ∷ v) (false ∷ t) e h =
    let rest = turn v t (let k : suc (length t) ≡ suc (length v) = e in omega arith) h in
    (b ∷ rest.0, completes_cons b v false t b rest.0 (λ q. refl) rest.1, kept b (parity v) (parity rest.0) rest.2)

none_tainted : (t : Word) → has_one t ≡ false → (i : ℕ) → bit t i ≡ false
none_tainted [] h i = refl
none_tainted (true ∷ t) h i = absurd (let k : true ≡ false = h in cc)
none_tainted (false ∷ t) h zero = refl
none_tainted (false ∷ t) h (suc i) = none_tainted t h i

fixed_word : (v t u : Word) → has_one t ≡ false → Completes v t u → u ≡ v
fixed_word v t u h c = same_words u v c.as_long (λ i l. c.same i (none_tainted t h i))

not_self : (b : Bool) → b ≢ not b
not_self true e = absurd (cc)
not_self false e = absurd (cc)

parity_differs : (v t : Word) → length t ≡ length v → has_one t ≡ true → CanDiffer (λ us. parity (operand us 0)) (v ∷ []) (t ∷ [])
parity_differs v t e h =
    let other = turn v t e h in
    record {
      first = v ∷ [];
      second = other.0 ∷ [];
      first_completes = self_complete (v ∷ []) (t ∷ []);
      second_completes = cons_complete v [] t [] other.0 [] other.1 nil_complete;
      differ = λ q. not_self (parity v) (q ∙ other.2);
    }

differs_parity : (v t : Word) → CanDiffer (λ us. parity (operand us 0)) (v ∷ []) (t ∷ []) → has_one t ≡ true
differs_parity v t d = true_by (has_one t) (λ h. d.differ (ap parity (fixed_word v t (operand d.first 0) h (d.first_completes.each 0) ∙ sym (fixed_word v t (operand d.second 0) h (d.second_completes.each 0)))))

pub parity_exact : (n : ℕ) (v t : Word) → length t ≡ length v → IsExact n (λ i us. bit (flag_word n (parity (operand us 0))) i) (v ∷ []) (t ∷ []) (flag_word n (has_one t))
parity_exact n v t e = flag_exact n (λ us. parity (operand us 0)) (v ∷ []) (t ∷ []) (has_one t) (differs_parity v t) (parity_differs v t e)

pub not_parity_exact : (n : ℕ) (v t : Word) → length t ≡ length v → IsExact n (λ i us. bit (flag_word n (not (parity (operand us 0)))) i) (v ∷ []) (t ∷ []) (flag_word n (has_one t))
not_parity_exact n v t e = flag_exact n (λ us. not (parity (operand us 0))) (v ∷ []) (t ∷ []) (has_one t)
    (λ d. differs_parity v t (differs_complement (λ us. parity (operand us 0)) (v ∷ []) (t ∷ []) d)) (λ h. complement_differs (λ us. parity (operand us 0)) (v ∷ []) (t ∷ []) (parity_differs v t e h))
