-- Windows of words: what they stand for, and how they are formed.
use Rattle.std.specs.Prelude.{ℕ, zero, suc, ◌+◌, ◌-◌, ◌<◌, ◌≤◌, ◌≡◌, ◌==◌, true, false, List, ◌++◌, length, nat_lt, Some, refl, if◌then◌else◌}
use Rattle.std.specs.List.{range_with_len, list_all}
use Rattle.std.proofs.Common.{arith, sym, ap, subst, ◌∙◌, inl, inr}
use Rattle.std.proofs.lemmas.Bool.Decides.{nat_tests}
use Rattle.std.proofs.lemmas.List.{length-append, length-map, get_or-map, append-nil, get_or_append_left, get_or-append_right, get_or_past}
use Rattle.std.proofs.lemmas.List.FromFn.{fill_by_all, length-map-range_with_len, get_or-map-range_with_len}
use Rattle.std.proofs.lemmas.List.Folds.{list_all-map}
use Rattle.cif_defs.specs.Words.{Word, bit, word, zeros}
use Rattle.cif_defs.proofs.WordLaws.{bit-word, length-word, le_or_lt, past_word, same_words}
use Rattle.cif_term.specs.Formulas.{Formula, Const, Pick, Join, IsFormed, picked, value_of}
use Rattle.cif_term.proofs.FormedFormulas.{formed_const, formed_join, formed_pick, raised}
use Rattle.rule_select.specs.Windows.{high_padded, low_padded, places_from, window}

-- ---- bits between zeros

-- at each place a bit of w: n places that start at `start` stand above low ones, and all others are past the end of w
pub record IsWindow (w low start len high : ℕ) (place : ℕ → ℕ) : Type 0 where
  pub under : (i : ℕ) → i < low → w ≤ place i
  pub inside : (i : ℕ) → i < len → place (low + i) ≡ start + i
  pub over : (i : ℕ) → low + len ≤ i → i < low + len + high → w ≤ place i

zero_bit : (n i : ℕ) → bit (zeros n) i ≡ false
zero_bit n i = elim (le_or_lt i n) [
  | inl h ↦ bit-word n (λ k. false) i false h
  | inr h ↦ past_word n (λ k. false) i false h
]

length-from : (start len : ℕ) → length (places_from start len) ≡ len
length-from start len = length-map-range_with_len (λ i. start + i) 0 len

length-picked : (start len : ℕ) (v : Word) → length (picked (places_from start len) v) ≡ len
length-picked start len v = length-map (places_from start len) (λ i. bit v i) ∙ length-from start len

bit-picked : (start len i : ℕ) (v : Word) → i < len → bit (picked (places_from start len) v) i ≡ bit v (start + i)
bit-picked start len i v h =
    get_or-map (λ k. bit v k) (places_from start len) i 0 false (omega (arith, length-from start len)) ∙ ap (bit v) (get_or-map-range_with_len (λ k. start + k) 0 len i i 0 h (omega arith))

pub picked-from : (start len : ℕ) (v : Word) → picked (places_from start len) v ≡ word len (λ i. bit v (start + i))
picked-from start len v = fill_by_all (λ i. bit v (start + i)) (picked (places_from start len) v) len false (length-picked start len v) (λ i h. bit-picked start len i v h)

-- ---- what a window stands for

some_test : (n : ℕ) → (suc n == 0) ≡ false
some_test n = grind (arith, nat_tests)

low_is : (n : ℕ) (f : Formula) → low_padded (suc n) f ≡ Join (Const (zeros (suc n))) f
low_is n f = ap (λ b. if b then f else Join (Const (zeros (suc n))) f) (some_test n)

high_is : (n : ℕ) (f : Formula) → high_padded (suc n) f ≡ Join f (Const (zeros (suc n)))
high_is n f = ap (λ b. if b then f else Join f (Const (zeros (suc n)))) (some_test n)

window_is : (low start len high : ℕ) (f : Formula) → window low start (suc len) high f ≡ low_padded low (high_padded high (Pick f (places_from start (suc len))))
window_is low start len high f = ap (λ b. if b then Const (zeros (low + high)) else low_padded low (high_padded high (Pick f (places_from start (suc len))))) (some_test len)

value-low : (n : ℕ) (f : Formula) (vs ts named : List Word) → value_of (low_padded n f) vs ts named ≡ zeros n ++ value_of f vs ts named
value-low zero f vs ts named = refl
value-low (suc n) f vs ts named = ap (λ g. value_of g vs ts named) (low_is n f)

value-high : (n : ℕ) (f : Formula) (vs ts named : List Word) → value_of (high_padded n f) vs ts named ≡ value_of f vs ts named ++ zeros n
value-high zero f vs ts named = sym (append-nil (value_of f vs ts named))
value-high (suc n) f vs ts named = ap (λ g. value_of g vs ts named) (high_is n f)

both_zeros : (m n : ℕ) → zeros (m + n) ≡ zeros m ++ zeros n
both_zeros m n = same_words _ _ (omega (arith, length-word (m + n) (λ k. false), length-append (zeros m) (zeros n), length-word m (λ k. false), length-word n (λ k. false)))
    (λ i h. zero_bit (m + n) i ∙ sym (elim (le_or_lt i m) [
      | inl l ↦ get_or_append_left (zeros m) (zeros n) false i (omega (arith, length-word m (λ k. false))) ∙ zero_bit m i
      | inr l ↦ get_or-append_right (zeros m) (zeros n) m i false (length-word m (λ k. false)) l ∙ zero_bit n (i - m)
    ]))

value-parts : (low start len high : ℕ) (f : Formula) (vs ts named : List Word) → value_of (window low start len high f) vs ts named ≡ zeros low ++ (picked (places_from start len) (value_of f vs ts named) ++ zeros high)
value-parts low start zero high f vs ts named = both_zeros low high
value-parts low start (suc len) high f vs ts named =
    ap (λ g. value_of g vs ts named) (window_is low start len high f) ∙ value-low low (high_padded high (Pick f (places_from start (suc len)))) vs ts named ∙ ap (λ (w : Word). zeros low ++ w) (value-high high (Pick f (places_from start (suc len))) vs ts named)

bit-parts : (w low start len high : ℕ) (place : ℕ → ℕ) (v : Word) → length v ≡ w → IsWindow w low start len high place → (i : ℕ) → i < low + len + high
    → bit (zeros low ++ (picked (places_from start len) v ++ zeros high)) i ≡ bit v (place i)
bit-parts w low start len high place v e g i h = elim (le_or_lt i low) [
  | inl l ↦ get_or_append_left (zeros low) _ false i (omega (arith, length-word low (λ k. false))) ∙ zero_bit low i ∙ sym (get_or_past v (place i) false (let p : w ≤ place i = g.under i l in omega arith))
  | inr l ↦ get_or-append_right (zeros low) _ low i false (length-word low (λ k. false)) l ∙ elim (le_or_lt (i - low) len) [
    | inl m ↦ get_or_append_left (picked (places_from start len) v) (zeros high) false (i - low) (omega (arith, length-picked start len v)) ∙ bit-picked start len (i - low) v m
        ∙ sym (ap (λ k. bit v (place k)) (let q : i ≡ low + (i - low) = omega arith in q) ∙ ap (bit v) (g.inside (i - low) m))
    | inr m ↦ get_or-append_right (picked (places_from start len) v) (zeros high) len (i - low) false (length-picked start len v) m ∙ zero_bit high (i - low - len)
        ∙ sym (get_or_past v (place i) false (let p : w ≤ place i = g.over i (omega arith) h in omega arith))
  ]
]

length-parts : (low start len high : ℕ) (v : Word) → length (zeros low ++ (picked (places_from start len) v ++ zeros high)) ≡ low + len + high
length-parts low start len high v = omega (arith, length-append (zeros low) (picked (places_from start len) v ++ zeros high), length-append (picked (places_from start len) v) (zeros high), length-picked start len v, length-word low (λ k. false), length-word high (λ k. false))

pub value-window : (w low start len high : ℕ) (place : ℕ → ℕ) (f : Formula) (vs ts named : List Word) → length (value_of f vs ts named) ≡ w → IsWindow w low start len high place
    → value_of (window low start len high f) vs ts named ≡ word (low + len + high) (λ i. bit (value_of f vs ts named) (place i))
value-window w low start len high place f vs ts named e g =
    value-parts low start len high f vs ts named ∙ fill_by_all (λ i. bit (value_of f vs ts named) (place i)) _ (low + len + high) false (length-parts low start len high (value_of f vs ts named))
    (λ i h. bit-parts w low start len high place (value_of f vs ts named) e g i h)

-- ---- how a window is formed

all_below : (start n len a : ℕ) → start + a + len ≤ n → list_all (λ i. nat_lt (start + i) n) (range_with_len a len) ≡ true
all_below start n zero a h = refl
all_below start n (suc len) a h =
    let first : nat_lt (start + a) n ≡ true = grind (arith, nat_tests) in
    let rest : list_all (λ i. nat_lt (start + i) n) (range_with_len (a + 1) len) ≡ true = all_below start n len (a + 1) (omega arith) in
    grind arith

places_inside : (start len n : ℕ) → start + len ≤ n → list_all (λ i. nat_lt i n) (places_from start len) ≡ true
places_inside start len n h = list_all-map (λ i. nat_lt i n) (λ i. start + i) (range_with_len 0 len) ∙ all_below start n len 0 (omega arith)

pub formed_places : {f : Formula} {ws named : List ℕ} {k n : ℕ} (start len : ℕ) → IsFormed f ws named n k → start + len ≤ n → 1 ≤ len → len ≤ 65536 → IsFormed (Pick f (places_from start len)) ws named len k
formed_places {n = n} start len h l a b = formed_pick (places_from start len) len h (places_inside start len n l) (length-from start len) a b

formed_low : {f : Formula} {ws named : List ℕ} {k n : ℕ} (m : ℕ) → IsFormed f ws named n k → m + n ≤ 65536 → 1 ≤ n → IsFormed (low_padded m f) ws named (m + n) k
formed_low {n = n} zero h l s = record { width = h.width ∙ ap (λ x. Some x) (omega arith); cost = h.cost }
formed_low {f = f} {ws = ws} {named = named} {k = k} {n = n} (suc m) h l s =
    let fill : IsFormed (Const (zeros (suc m))) ws named (suc m) 0 = formed_const (zeros (suc m)) ws named (suc m) (length-word (suc m) (λ i. false)) (omega arith) (omega arith) in
    subst (λ g. IsFormed g ws named (suc m + n) k) (sym (low_is m f)) (raised k (formed_join fill h (omega arith) l) (omega arith))

formed_high : {f : Formula} {ws named : List ℕ} {k n : ℕ} (m : ℕ) → IsFormed f ws named n k → n + m ≤ 65536 → 1 ≤ n → IsFormed (high_padded m f) ws named (n + m) k
formed_high {n = n} zero h l s = record { width = h.width ∙ ap (λ x. Some x) (omega arith); cost = h.cost }
formed_high {f = f} {ws = ws} {named = named} {k = k} {n = n} (suc m) h l s =
    let fill : IsFormed (Const (zeros (suc m))) ws named (suc m) 0 = formed_const (zeros (suc m)) ws named (suc m) (length-word (suc m) (λ i. false)) (omega arith) (omega arith) in
    subst (λ g. IsFormed g ws named (n + suc m) k) (sym (high_is m f)) (raised k (formed_join h fill (omega arith) l) (omega arith))

pub formed_window : {f : Formula} {ws named : List ℕ} {k n : ℕ} (low start len high m : ℕ) → IsFormed f ws named n k → low + len + high ≡ m → start + len ≤ n → 1 ≤ m → m ≤ 65536 → IsFormed (window low start len high f) ws named m k
formed_window {f = f} {ws = ws} {named = named} {k = k} low start zero high m h e l a b = raised k (formed_const (zeros (low + high)) ws named m (length-word (low + high) (λ i. false) ∙ (omega arith)) a b) (omega arith)
formed_window {f = f} {ws = ws} {named = named} {k = k} low start (suc len) high m h e l a b =
    let part : IsFormed (Pick f (places_from start (suc len))) ws named (suc len) k = formed_places start (suc len) h l (omega arith) (omega arith) in
    let all : IsFormed (low_padded low (high_padded high (Pick f (places_from start (suc len))))) ws named (low + (suc len + high)) k = formed_low low (formed_high high part (omega arith) (omega arith)) (omega arith) (omega arith) in
    subst (λ g. IsFormed g ws named m k) (sym (window_is low start len high f)) (record { width = all.width ∙ ap (λ x. Some x) (omega arith); cost = all.cost })
