-- A tainted output bit of a combinational cell reads a tainted operand bit.
use Rattle.std.specs.Prelude.{ℕ, zero, suc, ◌+◌, ◌-◌, ◌/◌, ◌^◌, ◌<◌, ◌≤◌, ◌≡◌, ◌==◌, Bool, true, false, not, ◌&&◌, ◌||◌, List, [], ◌∷◌, map, length, take, refl}
use Rattle.std.specs.List.{list_any}
use Rattle.std.proofs.Common.{arith, sym, ap, ◌∙◌, cond, inl, inr}
use Rattle.std.proofs.lemmas.List.FromFn.{take-map-range_with_len}
use Rattle.cif_defs.specs.Words.{Word, bit, extend, extended_bit, has_one, number, operand, top, word, zeros}
use Rattle.cif_defs.specs.Kinds.{is_coarse}
use Rattle.cif_defs.specs.Cells.{Cell, both_signed, coarse_by, y_width}
use Rattle.cif_defs.specs.Coarse.{division_taint, either_taint, high_quotient, is_known_zero, low_quotient, max_word, product_taint, quotient_taint}
use Rattle.cif_defs.specs.Completions.{AllComplete, can_differ}
use Rattle.cif_defs.specs.Taint.{output_bit, output_taint}
use Rattle.cif_defs.specs.declared.kinds.Kind.{Kind}
use Rattle.cif_defs.specs.declared.kinds.Kind.TheVariants.{Mul, Div, Mod, DivFloor, ModFloor}
use Rattle.cif_defs.proofs.WordLaws.{bit-word, le_or_lt, length-word, past_word}
use Rattle.cif_defs.proofs.Differ.{CanDiffer-from_test}
use Rattle.cif_defs.proofs.Exact.{and_true, or_true, true_by}
use Rattle.cif_supports.specs.Supports.{OperandBit, all_bits, bits_read, low_bits, low_pairs}
use Rattle.cif_supports.specs.Dependence.{AreAsLong, AgreeAt}
use Rattle.cif_supports.proofs.Lists.{none_contained}
use Rattle.cif_supports.proofs.OperandBits.{agree_left, agree_right, same_operands}
use Rattle.cif_supports.proofs.SumRows.{same_low}
use Rattle.cif_supports.proofs.Dependent.{output_same}

-- whether an operand bit is tainted, by the operands' taints
abbrev pub bit_taint : List Word → OperandBit → Bool
bit_taint ts b = bit (operand ts b.0) b.1

-- ---- exact taint

agree_untainted : (vs ts us ws : List Word) (bits : List OperandBit) → AllComplete vs ts us → AllComplete vs ts ws → list_any (bit_taint ts) bits ≡ false → AgreeAt bits us ws
agree_untainted vs ts us ws bits c d none = λ b at.
    let clear : bit (operand ts b.0) b.1 ≡ false = none_contained (bit_taint ts) bits b none at in
    (c.each b.0).same b.1 clear ∙ sym ((d.each b.0).same b.1 clear)

-- what can differ reads a tainted bit, if it depends on what it reads alone
pub differ_reads : (f : List Word → Bool) (vs ts : List Word) (bits : List OperandBit) → ((us ws : List Word) → AllComplete vs ts us → AllComplete vs ts ws → AgreeAt bits us ws → f us ≡ f ws)
    → can_differ f vs ts ≡ true → list_any (bit_taint ts) bits ≡ true
differ_reads f vs ts bits same h =
    let d = CanDiffer-from_test f vs ts h in
    true_by (list_any (bit_taint ts) bits) (λ none.
    d.differ (same d.first d.second d.first_completes d.second_completes (agree_untainted vs ts d.first d.second bits d.first_completes d.second_completes none)))

exact_reads : (c : Cell) (p i : ℕ) (vs ts : List Word) → AreAsLong c vs → can_differ (output_bit c p i) vs ts ≡ true → list_any (bit_taint ts) (bits_read c.kind c i) ≡ true
exact_reads c p i vs ts e h = differ_reads (output_bit c p i) vs ts (bits_read c.kind c i)
    (λ us ws a b same. output_same c p i us ws (λ q. (a.each q).as_long ∙ e q) (λ q. (b.each q).as_long ∙ e q) same) h

-- ---- coarse taint: taints that are 0 where they are read give none

abbrev cleared : List Word → List Word
cleared ts = map (λ w. zeros (length w)) ts

cleared_word : (ts : List Word) (p : ℕ) → operand (cleared ts) p ≡ zeros (length (operand ts p))
cleared_word [] p = refl
cleared_word (t ∷ ts) zero = refl
cleared_word (t ∷ ts) (suc p) = cleared_word ts p

zero_bit : (n i : ℕ) → bit (zeros n) i ≡ false
zero_bit n i = elim (le_or_lt i n) [
  | inl l ↦ bit-word n (λ k. false) i false l
  | inr l ↦ past_word n (λ k. false) i false l
]

cleared_long : (c : Cell) (ts : List Word) → AreAsLong c ts → AreAsLong c (cleared ts)
cleared_long c ts e = λ p. ap length (cleared_word ts p) ∙ length-word (length (operand ts p)) (λ k. false) ∙ e p

agree_cleared : (ts : List Word) (bits : List OperandBit) → list_any (bit_taint ts) bits ≡ false → AgreeAt bits ts (cleared ts)
agree_cleared ts bits none = λ b at.
    none_contained (bit_taint ts) bits b none at ∙ sym (ap (λ (w : Word). bit w b.1) (cleared_word ts b.0) ∙ zero_bit (length (operand ts b.0)) b.1)

none_of : (w : Word) → ((i : ℕ) → bit w i ≡ false) → has_one w ≡ false
none_of [] h = refl
none_of (true ∷ w) h = absurd (let e : true ≡ false = h 0 in cc)
none_of (false ∷ w) h = none_of w (λ i. h (suc i))

-- divisions read all bits
untainted_word : (c : Cell) (p : ℕ) (ts : List Word) → AreAsLong c ts → list_any (bit_taint ts) (all_bits c) ≡ false → has_one (operand ts p) ≡ false
untainted_word c p ts e none =
    ap has_one (same_operands c p ts (cleared ts) e (cleared_long c ts e) (agree_cleared ts (all_bits c) none) ∙ cleared_word ts p) ∙ none_of (zeros (length (operand ts p))) (zero_bit (length (operand ts p)))

either_reads : (c : Cell) (ts : List Word) → AreAsLong c ts → (has_one (operand ts 0) || has_one (operand ts 1)) ≡ true → list_any (bit_taint ts) (all_bits c) ≡ true
either_reads c ts e h = true_by (list_any (bit_taint ts) (all_bits c)) (λ none.
    let a : has_one (operand ts 0) ≡ false = untainted_word c 0 ts e none in
    let b : has_one (operand ts 1) ≡ false = untainted_word c 1 ts e none in
    elim (or_true (has_one (operand ts 0)) (has_one (operand ts 1)) h) [ inl t ↦ absurd (cc) | inr t ↦ absurd (cc) ])

division_reads : (c : Cell) (i : ℕ) (vs ts : List Word) → AreAsLong c ts → bit (division_taint (y_width c) (operand ts 0) (operand vs 1) (operand ts 1)) i ≡ true → list_any (bit_taint ts) (all_bits c) ≡ true
division_reads c i vs ts e h = elim (le_or_lt i (y_width c)) [
  | inl l ↦ either_reads c ts e (and_true (has_one (operand ts 0) || has_one (operand ts 1)) (not (is_known_zero (operand vs 1) (operand ts 1)))
      (sym (bit-word (y_width c) (λ k. (has_one (operand ts 0) || has_one (operand ts 1)) && not (is_known_zero (operand vs 1) (operand ts 1))) i false l) ∙ h)).0
  | inr l ↦ absurd (let none : bit (division_taint (y_width c) (operand ts 0) (operand vs 1) (operand ts 1)) i ≡ false = past_word (y_width c) _ i false l in cc)
]

quotient_reads : (c : Cell) (i : ℕ) (vs ts : List Word) → AreAsLong c ts → bit (quotient_taint (y_width c) (operand vs 0) (operand ts 0) (operand vs 1) (operand ts 1)) i ≡ true → list_any (bit_taint ts) (all_bits c) ≡ true
quotient_reads c i vs ts e h = elim (le_or_lt i (y_width c)) [
  | inl l ↦ (let x : ℕ = low_quotient (operand vs 0) (operand ts 0) (operand vs 1) (operand ts 1) in
      let y : ℕ = high_quotient (operand vs 0) (operand ts 0) (operand vs 1) (operand ts 1) in
      let some : Bool = not (number (max_word (operand vs 1) (operand ts 1)) == 0) in
      either_reads c ts e (and_true (has_one (operand ts 0) || has_one (operand ts 1)) some (and_true ((has_one (operand ts 0) || has_one (operand ts 1)) && some) (not (x / 2 ^ i == y / 2 ^ i))
      (sym (bit-word (y_width c) (λ k. (has_one (operand ts 0) || has_one (operand ts 1)) && some && not (x / 2 ^ k == y / 2 ^ k)) i false l) ∙ h)).0).0)
  | inr l ↦ absurd (let none : bit (quotient_taint (y_width c) (operand vs 0) (operand ts 0) (operand vs 1) (operand ts 1)) i ≡ false = past_word (y_width c) _ i false l in cc)
]

div_reads : (c : Cell) (i : ℕ) (vs ts : List Word) (signed : Bool) → AreAsLong c ts
    → bit (cond signed (division_taint (y_width c) (operand ts 0) (operand vs 1) (operand ts 1)) (quotient_taint (y_width c) (operand vs 0) (operand ts 0) (operand vs 1) (operand ts 1))) i ≡ true
    → list_any (bit_taint ts) (all_bits c) ≡ true
div_reads c i vs ts true e h = division_reads c i vs ts e h
div_reads c i vs ts false e h = quotient_reads c i vs ts e h

-- a product reads the low bits of both
and_none : (b : Bool) → (b && false) ≡ false
and_none true = refl
and_none false = refl

zeros_extended : (signed : Bool) (n k : ℕ) → extended_bit signed k (zeros n) ≡ false
zeros_extended signed n k = elim (le_or_lt k n) [
  | inl l ↦ bit-word n (λ j. false) k (signed && top (zeros n)) l
  | inr l ↦ past_word n (λ j. false) k (signed && top (zeros n)) l ∙ ap (λ b. signed && b) (zero_bit n (length (zeros n) - 1)) ∙ and_none signed
]

untainted_low : (c : Cell) (p i k : ℕ) (ts : List Word) → AreAsLong c ts → list_any (bit_taint ts) (low_pairs c i) ≡ false → AgreeAt (low_bits c p i) ts (cleared ts) → k ≤ i
    → extended_bit (both_signed c) k (operand ts p) ≡ false
untainted_low c p i k ts e none same l =
    same_low (both_signed c) c p i ts (cleared ts) e (cleared_long c ts e) same k l
    ∙ ap (λ (w : Word). extended_bit (both_signed c) k w) (cleared_word ts p) ∙ zeros_extended (both_signed c) (length (operand ts p)) k

low_clear : (n i : ℕ) (f : ℕ → Bool) → i < n → ((k : ℕ) → k ≤ i → f k ≡ false) → has_one (take (i + 1) (word n f)) ≡ false
low_clear n i f l h =
    ap has_one (take-map-range_with_len f 0 n (i + 1) (omega arith)) ∙ none_of (word (i + 1) f) (λ k. elim (le_or_lt k (i + 1)) [
      | inl m ↦ bit-word (i + 1) f k false m ∙ h k (omega arith)
      | inr m ↦ past_word (i + 1) f k false m
    ])

neither : (a b : Bool) → a ≡ false → b ≡ false → (a || b) ≡ false
neither a b h k = rw (h, k) refl

product_low : (c : Cell) (i : ℕ) (ts : List Word) → AreAsLong c ts → i < y_width c → list_any (bit_taint ts) (low_pairs c i) ≡ false
    → has_one (take (i + 1) (either_taint (y_width c) (both_signed c) (operand ts 0) (operand ts 1))) ≡ false
product_low c i ts e l none =
    let same = agree_cleared ts (low_pairs c i) none in
    low_clear (y_width c) i (λ k. extended_bit (both_signed c) k (operand ts 0) || extended_bit (both_signed c) k (operand ts 1)) l (λ k m. neither _ _
    (untainted_low c 0 i k ts e none (agree_left (low_bits c 0 i) (low_bits c 1 i) ts (cleared ts) same) m)
    (untainted_low c 1 i k ts e none (agree_right (low_bits c 0 i) (low_bits c 1 i) ts (cleared ts) same) m))

product_reads : (c : Cell) (i : ℕ) (vs ts : List Word) → AreAsLong c ts → bit (product_taint (y_width c) (both_signed c) (operand vs 0) (operand ts 0) (operand vs 1) (operand ts 1)) i ≡ true
    → list_any (bit_taint ts) (low_pairs c i) ≡ true
product_reads c i vs ts e h = elim (le_or_lt i (y_width c)) [
  | inl l ↦ (let n : ℕ = y_width c in
      let signed : Bool = both_signed c in
      let za : Bool = not (is_known_zero (extend n signed (operand vs 0)) (extend n signed (operand ts 0))) in
      let zb : Bool = not (is_known_zero (extend n signed (operand vs 1)) (extend n signed (operand ts 1))) in
      let low : Bool = has_one (take (i + 1) (either_taint n signed (operand ts 0) (operand ts 1))) in
      let all : (za && zb && low) ≡ true = sym (bit-word n (λ k. za && zb && has_one (take (k + 1) (either_taint n signed (operand ts 0) (operand ts 1)))) i false l) ∙ h in
      let on : low ≡ true = (and_true (za && zb) low all).1 in
      true_by (list_any (bit_taint ts) (low_pairs c i)) (λ none. let off : low ≡ false = product_low c i ts e l none in absurd (cc)))
  | inr l ↦ absurd (let none : bit (product_taint (y_width c) (both_signed c) (operand vs 0) (operand ts 0) (operand vs 1) (operand ts 1)) i ≡ false = past_word (y_width c) _ i false l in cc)
]

-- ---- all combinational kinds

coarse_reads : (k : Kind) (c : Cell) (i : ℕ) (vs ts : List Word) → is_coarse k ≡ true → AreAsLong c ts → bit (coarse_by k c vs ts) i ≡ true → list_any (bit_taint ts) (bits_read k c i) ≡ true
unfolding coarse_by bits_read
coarse_reads Mul c i vs ts q e h = product_reads c i vs ts e h
coarse_reads Div c i vs ts q e h = div_reads c i vs ts (both_signed c) e h
coarse_reads Mod c i vs ts q e h = division_reads c i vs ts e h
coarse_reads DivFloor c i vs ts q e h = division_reads c i vs ts e h
coarse_reads ModFloor c i vs ts q e h = division_reads c i vs ts e h
coarse_reads _ c i vs ts q e h = absurd (cc)

output_cases : (c : Cell) (p i : ℕ) (vs ts : List Word) (coarse : Bool) → is_coarse c.kind ≡ coarse → AreAsLong c vs → AreAsLong c ts
    → cond coarse (bit (coarse_by c.kind c vs ts) i) (can_differ (output_bit c p i) vs ts) ≡ true → list_any (bit_taint ts) (bits_read c.kind c i) ≡ true
output_cases c p i vs ts true q e f h = coarse_reads c.kind c i vs ts q f h
output_cases c p i vs ts false q e f h = exact_reads c p i vs ts e h

-- a tainted output bit reads a tainted operand bit
pub output_reads : (c : Cell) (p i : ℕ) (vs ts : List Word) → AreAsLong c vs → AreAsLong c ts → output_taint c p i vs ts ≡ true → list_any (bit_taint ts) (bits_read c.kind c i) ≡ true
output_reads c p i vs ts e f h = output_cases c p i vs ts (is_coarse c.kind) refl e f h
