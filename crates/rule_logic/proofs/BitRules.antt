-- Exact taint of kinds whose output bits read one bit of each operand.
use Rattle.std.specs.Prelude.{ℕ, suc, ◌<◌, ◌≡◌, Bool, true, false, not, ◌&&◌, ◌||◌, List, [], ◌∷◌, length, refl}
use Rattle.std.proofs.Common.{arith, sym, ap, ◌∙◌}
use Rattle.cif_defs.specs.Completions.{AllComplete, CanDiffer, IsExact}
use Rattle.cif_defs.specs.Words.{Word, bit, word, operand, extended_bit, xor, majority}
use Rattle.cif_defs.proofs.WordLaws.{bit-word, length-word}
use Rattle.cif_defs.proofs.Numbers.{Le, word-same}
use Rattle.cif_defs.proofs.Exact.{SameShape, bit-max, bit-min, bits_can_differ, column, exact_by_bits}
use Rattle.rule_logic.proofs.Monotone.{Grows, differs_spread, maxes, mins, operand-maxes, operand-mins, spread_differs, spreads}

-- ---- one operand

abbrev pub one_of : (Bool → Bool) → List Bool → Bool
one_of op [] = false
one_of op (x ∷ rest) = op x

one_reads : (op : Bool → Bool) (s : Bool) (n i : ℕ) (v t : Word) (us : List Word) → i < n → AllComplete (v ∷ []) (t ∷ []) us → bit (word n (λ k. op (extended_bit s k (operand us 0)))) i ≡ one_of op (column ((s, i) ∷ []) us)
one_reads op s n i v t (u ∷ []) h c = bit-word n (λ k. op (extended_bit s k u)) i false h
one_reads op s n i v t [] h c = absurd (let q : 0 ≡ 1 = c.as_many in omega arith)
one_reads op s n i v t (u ∷ x ∷ us) h c = absurd (let q : suc (suc (length us)) ≡ 1 = c.as_many in omega arith)

pub one_exact : (op : Bool → Bool) (s : Bool) (n : ℕ) (v t : Word) → ((x tx : Bool) → bits_can_differ (one_of op) (x ∷ []) (tx ∷ []) ≡ tx) → length t ≡ length v
    → IsExact n (λ i us. bit (word n (λ k. op (extended_bit s k (operand us 0)))) i) (v ∷ []) (t ∷ []) (word n (λ i. extended_bit s i t))
one_exact op s n v t table e =
    exact_by_bits n (λ i us. bit (word n (λ k. op (extended_bit s k (operand us 0)))) i) (one_of op) (λ i. (s, i) ∷ []) (λ i. extended_bit s i t) (v ∷ []) (t ∷ []) _
    (λ i. refl) (e, tt) (λ i us h c. one_reads op s n i v t us h c) (λ i h. table (extended_bit s i v) (extended_bit s i t)) refl

-- ---- two operands

abbrev pub two_of : (Bool → Bool → Bool) → List Bool → Bool
two_of op [] = false
two_of op (x ∷ []) = false
two_of op (x ∷ y ∷ rest) = op x y

abbrev two_places : Bool → ℕ → List (Bool × ℕ)
two_places s i = (s, i) ∷ (s, i) ∷ []

abbrev pub two_words : (Bool → Bool → Bool) → ℕ → Bool → List Word → Word
two_words op n s us = word n (λ k. op (extended_bit s k (operand us 0)) (extended_bit s k (operand us 1)))

two_reads : (op : Bool → Bool → Bool) (s : Bool) (n i : ℕ) (v v' t t' : Word) (us : List Word) → i < n → AllComplete (v ∷ v' ∷ []) (t ∷ t' ∷ []) us → bit (two_words op n s us) i ≡ two_of op (column (two_places s i) us)
two_reads op s n i v v' t t' (u ∷ w ∷ []) h c = bit-word n (λ k. op (extended_bit s k u) (extended_bit s k w)) i false h
two_reads op s n i v v' t t' [] h c = absurd (let q : 0 ≡ 2 = c.as_many in omega arith)
two_reads op s n i v v' t t' (u ∷ []) h c = absurd (let q : 1 ≡ 2 = c.as_many in omega arith)
two_reads op s n i v v' t t' (u ∷ w ∷ x ∷ us) h c = absurd (let q : suc (suc (suc (length us))) ≡ 2 = c.as_many in omega arith)

-- a rule for two bits and their taints is exact by its truth table
pub two_exact : (op : Bool → Bool → Bool) (rule : Bool → Bool → Bool → Bool → Bool) (s : Bool) (n : ℕ) (v v' t t' : Word)
    → ((x tx y ty : Bool) → bits_can_differ (two_of op) (x ∷ y ∷ []) (tx ∷ ty ∷ []) ≡ rule x tx y ty) → length t ≡ length v → length t' ≡ length v'
    → IsExact n (λ i us. bit (two_words op n s us) i) (v ∷ v' ∷ []) (t ∷ t' ∷ []) (word n (λ i. rule (extended_bit s i v) (extended_bit s i t) (extended_bit s i v') (extended_bit s i t')))
two_exact op rule s n v v' t t' table e e' =
    exact_by_bits n (λ i us. bit (two_words op n s us) i) (two_of op) (λ i. two_places s i) (λ i. rule (extended_bit s i v) (extended_bit s i t) (extended_bit s i v') (extended_bit s i t')) (v ∷ v' ∷ []) (t ∷ t' ∷ []) _
    (λ i. refl) (e, (e', tt)) (λ i us h c. two_reads op s n i v v' t t' us h c) (λ i h. table (extended_bit s i v) (extended_bit s i t) (extended_bit s i v') (extended_bit s i t')) refl

-- ---- truth tables, printed by docs/tables.py rows NAME N: each row is computed

pub same_table : (x tx : Bool) → bits_can_differ (one_of (λ b. b)) (x ∷ []) (tx ∷ []) ≡ tx
same_table true true = refl
same_table true false = refl
same_table false true = refl
same_table false false = refl

pub not_table : (x tx : Bool) → bits_can_differ (one_of not) (x ∷ []) (tx ∷ []) ≡ tx
not_table true true = refl
not_table true false = refl
not_table false true = refl
not_table false false = refl

abbrev pub and_rule : Bool → Bool → Bool → Bool → Bool
and_rule x tx y ty = (tx && ty) || ((tx && y) || (ty && x))

abbrev pub or_rule : Bool → Bool → Bool → Bool → Bool
or_rule x tx y ty = (tx && ty) || ((tx && not y) || (ty && not x))

abbrev pub either_rule : Bool → Bool → Bool → Bool → Bool
either_rule x tx y ty = tx || ty

abbrev pub xnor_bits : Bool → Bool → Bool
xnor_bits x y = not (xor x y)

pub and_table : (x tx y ty : Bool) → bits_can_differ (two_of (λ x y. x && y)) (x ∷ y ∷ []) (tx ∷ ty ∷ []) ≡ and_rule x tx y ty
and_table true true true true = refl
and_table true true true false = refl
and_table true true false true = refl
and_table true true false false = refl
and_table true false true true = refl
and_table true false true false = refl
and_table true false false true = refl
and_table true false false false = refl
and_table false true true true = refl
and_table false true true false = refl
and_table false true false true = refl
and_table false true false false = refl
and_table false false true true = refl
and_table false false true false = refl
and_table false false false true = refl
and_table false false false false = refl

pub or_table : (x tx y ty : Bool) → bits_can_differ (two_of (λ x y. x || y)) (x ∷ y ∷ []) (tx ∷ ty ∷ []) ≡ or_rule x tx y ty
or_table true true true true = refl
or_table true true true false = refl
or_table true true false true = refl
or_table true true false false = refl
or_table true false true true = refl
or_table true false true false = refl
or_table true false false true = refl
or_table true false false false = refl
or_table false true true true = refl
or_table false true true false = refl
or_table false true false true = refl
or_table false true false false = refl
or_table false false true true = refl
or_table false false true false = refl
or_table false false false true = refl
or_table false false false false = refl

pub xor_table : (x tx y ty : Bool) → bits_can_differ (two_of xor) (x ∷ y ∷ []) (tx ∷ ty ∷ []) ≡ either_rule x tx y ty
xor_table true true true true = refl
xor_table true true true false = refl
xor_table true true false true = refl
xor_table true true false false = refl
xor_table true false true true = refl
xor_table true false true false = refl
xor_table true false false true = refl
xor_table true false false false = refl
xor_table false true true true = refl
xor_table false true true false = refl
xor_table false true false true = refl
xor_table false true false false = refl
xor_table false false true true = refl
xor_table false false true false = refl
xor_table false false false true = refl
xor_table false false false false = refl

pub xnor_table : (x tx y ty : Bool) → bits_can_differ (two_of xnor_bits) (x ∷ y ∷ []) (tx ∷ ty ∷ []) ≡ either_rule x tx y ty
xnor_table true true true true = refl
xnor_table true true true false = refl
xnor_table true true false true = refl
xnor_table true true false false = refl
xnor_table true false true true = refl
xnor_table true false true false = refl
xnor_table true false false true = refl
xnor_table true false false false = refl
xnor_table false true true true = refl
xnor_table false true true false = refl
xnor_table false true false true = refl
xnor_table false true false false = refl
xnor_table false false true true = refl
xnor_table false false true false = refl
xnor_table false false false true = refl
xnor_table false false false false = refl

-- ---- $fa

abbrev pub three_of : List Bool → Bool
three_of [] = false
three_of (x ∷ []) = false
three_of (x ∷ y ∷ []) = false
three_of (x ∷ y ∷ z ∷ rest) = xor (xor x y) z

abbrev three_places : ℕ → List (Bool × ℕ)
three_places i = (false, i) ∷ (false, i) ∷ (false, i) ∷ []

abbrev pub sum_words : ℕ → List Word → Word
sum_words n us = word n (λ k. xor (xor (bit (operand us 0) k) (bit (operand us 1) k)) (bit (operand us 2) k))

sum_reads : (n i : ℕ) (v v' v'' t t' t'' : Word) (us : List Word) → i < n → AllComplete (v ∷ v' ∷ v'' ∷ []) (t ∷ t' ∷ t'' ∷ []) us → bit (sum_words n us) i ≡ three_of (column (three_places i) us)
sum_reads n i v v' v'' t t' t'' (u ∷ w ∷ x ∷ []) h c = bit-word n (λ k. xor (xor (bit u k) (bit w k)) (bit x k)) i false h
sum_reads n i v v' v'' t t' t'' [] h c = absurd (let q : 0 ≡ 3 = c.as_many in omega arith)
sum_reads n i v v' v'' t t' t'' (u ∷ []) h c = absurd (let q : 1 ≡ 3 = c.as_many in omega arith)
sum_reads n i v v' v'' t t' t'' (u ∷ w ∷ []) h c = absurd (let q : 2 ≡ 3 = c.as_many in omega arith)
sum_reads n i v v' v'' t t' t'' (u ∷ w ∷ x ∷ y ∷ us) h c = absurd (let q : suc (suc (suc (suc (length us)))) ≡ 3 = c.as_many in omega arith)

sum_table : (x tx y ty z tz : Bool) → bits_can_differ three_of (x ∷ y ∷ z ∷ []) (tx ∷ ty ∷ tz ∷ []) ≡ (tx || (ty || tz))
sum_table true true true true true true = refl
sum_table true true true true true false = refl
sum_table true true true true false true = refl
sum_table true true true true false false = refl
sum_table true true true false true true = refl
sum_table true true true false true false = refl
sum_table true true true false false true = refl
sum_table true true true false false false = refl
sum_table true true false true true true = refl
sum_table true true false true true false = refl
sum_table true true false true false true = refl
sum_table true true false true false false = refl
sum_table true true false false true true = refl
sum_table true true false false true false = refl
sum_table true true false false false true = refl
sum_table true true false false false false = refl
sum_table true false true true true true = refl
sum_table true false true true true false = refl
sum_table true false true true false true = refl
sum_table true false true true false false = refl
sum_table true false true false true true = refl
sum_table true false true false true false = refl
sum_table true false true false false true = refl
sum_table true false true false false false = refl
sum_table true false false true true true = refl
sum_table true false false true true false = refl
sum_table true false false true false true = refl
sum_table true false false true false false = refl
sum_table true false false false true true = refl
sum_table true false false false true false = refl
sum_table true false false false false true = refl
sum_table true false false false false false = refl
sum_table false true true true true true = refl
sum_table false true true true true false = refl
sum_table false true true true false true = refl
sum_table false true true true false false = refl
sum_table false true true false true true = refl
sum_table false true true false true false = refl
sum_table false true true false false true = refl
sum_table false true true false false false = refl
sum_table false true false true true true = refl
sum_table false true false true true false = refl
sum_table false true false true false true = refl
sum_table false true false true false false = refl
sum_table false true false false true true = refl
sum_table false true false false true false = refl
sum_table false true false false false true = refl
sum_table false true false false false false = refl
sum_table false false true true true true = refl
sum_table false false true true true false = refl
sum_table false false true true false true = refl
sum_table false false true true false false = refl
sum_table false false true false true true = refl
sum_table false false true false true false = refl
sum_table false false true false false true = refl
sum_table false false true false false false = refl
sum_table false false false true true true = refl
sum_table false false false true true false = refl
sum_table false false false true false true = refl
sum_table false false false true false false = refl
sum_table false false false false true true = refl
sum_table false false false false true false = refl
sum_table false false false false false true = refl
sum_table false false false false false false = refl

pub sum_exact : (n : ℕ) (v v' v'' t t' t'' : Word) → length t ≡ length v → length t' ≡ length v' → length t'' ≡ length v''
    → IsExact n (λ i us. bit (sum_words n us) i) (v ∷ v' ∷ v'' ∷ []) (t ∷ t' ∷ t'' ∷ []) (word n (λ i. bit t i || (bit t' i || bit t'' i)))
sum_exact n v v' v'' t t' t'' e e' e'' =
    exact_by_bits n (λ i us. bit (sum_words n us) i) three_of three_places (λ i. bit t i || (bit t' i || bit t'' i)) (v ∷ v' ∷ v'' ∷ []) (t ∷ t' ∷ t'' ∷ []) _
    (λ i. refl) (e, (e', (e'', tt))) (λ i us h c. sum_reads n i v v' v'' t t' t'' us h c) (λ i h. sum_table (bit v i) (bit t i) (bit v' i) (bit t' i) (bit v'' i) (bit t'' i)) refl

-- a majority grows with each of its bits
majority_grows : (a b c a' b' c' : Bool) → Le a a' → Le b b' → Le c c' → Le (majority a b c) (majority a' b' c')
majority_grows true true c a' b' c' h k l q = ap (λ x. majority x b' c') (h refl) ∙ ap (λ y. majority true y c') (k refl)
majority_grows true false true a' true c' h k l q = ap (λ x. majority x true c') (h refl)
majority_grows true false true a' false c' h k l q = ap (λ x. majority x false c') (h refl) ∙ ap (λ z. majority true false z) (l refl)
majority_grows true false false a' b' c' h k l q = absurd (cc)
majority_grows false true true true b' c' h k l q = ap (λ y. majority true y c') (k refl)
majority_grows false true true false b' c' h k l q = ap (λ y. majority false y c') (k refl) ∙ ap (λ z. majority false true z) (l refl)
majority_grows false true false a' b' c' h k l q = absurd (cc)
majority_grows false false c a' b' c' h k l q = absurd (cc)

abbrev majority_at : ℕ → List Word → Bool
majority_at i us = majority (bit (operand us 0) i) (bit (operand us 1) i) (bit (operand us 2) i)

at_grows : (i : ℕ) → Grows (majority_at i)
at_grows i us ws b = majority_grows _ _ _ _ _ _ (b.below 0 i) (b.below 1 i) (b.below 2 i)

-- ---- exact taint of bits that each grow

transfer : (f g : List Word → Bool) (vs ts : List Word) → ((us : List Word) → f us ≡ g us) → CanDiffer g vs ts → CanDiffer f vs ts
transfer f g vs ts e d = record { first = d.first; second = d.second; first_completes = d.first_completes; second_completes = d.second_completes; differ = λ q. d.differ (sym (e d.first) ∙ q ∙ e d.second) }

pub growing_exact : (n : ℕ) (g : ℕ → List Word → Bool) (vs ts : List Word) → ((i : ℕ) → Grows (g i)) → SameShape vs ts
    → IsExact n (λ i us. bit (word n (λ k. g k us)) i) vs ts (word n (λ i. spreads (g i) vs ts))
growing_exact n g vs ts grows s = record {
  as_long = length-word n (λ i. spreads (g i) vs ts);
  only = λ i h q. transfer (λ us. bit (word n (λ k. g k us)) i) (g i) vs ts (λ us. bit-word n (λ k. g k us) i false h)
      (spread_differs (g i) vs ts s (sym (bit-word n (λ k. spreads (g k) vs ts) i false h) ∙ q));
  all = λ i h d. bit-word n (λ k. spreads (g k) vs ts) i false h
      ∙ differs_spread (g i) vs ts (grows i) s (transfer (g i) (λ us. bit (word n (λ k. g k us)) i) vs ts (λ us. sym (bit-word n (λ k. g k us) i false h)) d);
}

pub carry_exact : (n : ℕ) (vs ts : List Word) → SameShape vs ts → IsExact n (λ i us. bit (word n (λ k. majority_at k us)) i) vs ts (word n (λ i. spreads (majority_at i) vs ts))
carry_exact n vs ts s = growing_exact n majority_at vs ts at_grows s

-- ---- bits that are operand bits: place at i of operand port at i

abbrev pub place_bit : ℕ → ℕ → List Word → Bool
place_bit p k us = bit (operand us p) k

own_spread : (v t : Bool) → ((v || t) && not (v && not t)) ≡ t
own_spread true true = refl
own_spread true false = refl
own_spread false true = refl
own_spread false false = refl

place_spread : (p k : ℕ) (vs ts : List Word) → SameShape vs ts → length (operand ts p) ≡ length (operand vs p) → spreads (place_bit p k) vs ts ≡ bit (operand ts p) k
place_spread p k vs ts s e =
    let a : place_bit p k (maxes vs ts) ≡ (bit (operand vs p) k || bit (operand ts p) k) = ap (λ (w : Word). bit w k) (operand-maxes vs ts p s) ∙ bit-max (operand vs p) (operand ts p) k e in
    let b : place_bit p k (mins vs ts) ≡ (bit (operand vs p) k && not (bit (operand ts p) k)) = ap (λ (w : Word). bit w k) (operand-mins vs ts p s) ∙ bit-min (operand vs p) (operand ts p) k e in
    ap (λ x. x && not (place_bit p k (mins vs ts))) a ∙ ap (λ x. (bit (operand vs p) k || bit (operand ts p) k) && not x) b ∙ own_spread (bit (operand vs p) k) (bit (operand ts p) k)

-- each output bit is one operand bit, and has its taint
pub places_exact : (n : ℕ) (ports places : ℕ → ℕ) (vs ts : List Word) → SameShape vs ts → ((p : ℕ) → length (operand ts p) ≡ length (operand vs p))
    → IsExact n (λ i us. bit (word n (λ k. place_bit (ports k) (places k) us)) i) vs ts (word n (λ i. bit (operand ts (ports i)) (places i)))
places_exact n ports places vs ts s e =
    let spread = growing_exact n (λ i. place_bit (ports i) (places i)) vs ts (λ i us ws b. b.below (ports i) (places i)) s in
    let same : word n (λ i. spreads (place_bit (ports i) (places i)) vs ts) ≡ word n (λ i. bit (operand ts (ports i)) (places i)) = word-same n _ _ (λ i h. place_spread (ports i) (places i) vs ts s (e (ports i))) in
    record {
      as_long = length-word n _;
      only = λ i h q. spread.only i h (ap (λ (w : Word). bit w i) same ∙ q);
      all = λ i h d. sym (ap (λ (w : Word). bit w i) same) ∙ spread.all i h d;
    }
