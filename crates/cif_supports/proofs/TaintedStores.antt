-- What a register and a memory store next, their flags and what is read: where one is tainted, what it follows is.
use Rattle.std.specs.Prelude.{ℕ, ◌+◌, ◌-◌, ◌<◌, ◌≤◌, ◌≡◌, Bool, true, false, ◌||◌, List, [], ◌∷◌, ◌++◌, map, length, take, Contains, refl}
use Rattle.std.specs.List.{list_any, range_with_len}
use Rattle.std.proofs.Common.{arith, sym, ap, ◌∙◌, inl, inr, subst}
use Rattle.std.proofs.lemmas.List.{get_or_past, get_or-take, length-take, get_or_at, get_or_append_left}
use Rattle.cif_defs.specs.Words.{Word, bit, operand}
use Rattle.cif_defs.specs.Cells.{Cell, next_by, shown_word, width}
use Rattle.cif_defs.specs.Completions.{AllComplete, can_differ}
use Rattle.cif_defs.specs.Taint.{next_bit, next_register_taint, shown_bit}
use Rattle.cif_defs.specs.declared.kinds.Kind.{Kind}
use Rattle.cif_defs.specs.declared.kinds.Kind.TheVariants.{Dff, Dffe, Sdff, Sdffe, Sdffce, Adff, Adffe}
use Rattle.cif_defs.proofs.WordLaws.{bit-word, le_or_lt, past_word}
use Rattle.cif_defs.proofs.Differ.{CanDiffer-from_test}
use Rattle.cif_supports.specs.Supports.{register_bits}
use Rattle.cif_supports.specs.Dependence.{AgreeAt}
use Rattle.cif_supports.proofs.Lists.{contains_first, contains_later, contains_map, contains_range, none_contained}
use Rattle.cif_supports.proofs.BitRows.{same_bit}
use Rattle.cif_supports.proofs.TaintedBits.{bit_taint, differ_reads}

-- ---- what a register stores next depends on D at that place, its controls and the stored bit

abbrev ReadSame : ℕ → List Word → List Word → Word → Word → Type 0
ReadSame i us ws s s' = (bit (operand us 0) i ≡ bit (operand ws 0) i) × ((p : ℕ) → 1 ≤ p → bit (operand us p) 0 ≡ bit (operand ws p) 0) × (bit s i ≡ bit s' i)

next_by_same : (k : Kind) (c : Cell) (i : ℕ) (us ws : List Word) (s s' : Word) → ReadSame i us ws s s' → bit (next_by k c us s) i ≡ bit (next_by k c ws s') i
unfolding next_by
next_by_same Dff c i us ws s s' h = same_bit (width c) _ _ i (λ l. h.0)
next_by_same Dffe c i us ws s s' h = same_bit (width c) _ _ i (λ l. let d = h.0 in let x = h.1 1 (omega arith) in let own = h.2 in cc)
next_by_same Sdff c i us ws s s' h = same_bit (width c) _ _ i (λ l. let d = h.0 in let x = h.1 1 (omega arith) in cc)
next_by_same Sdffe c i us ws s s' h = same_bit (width c) _ _ i (λ l. let d = h.0 in let x = h.1 1 (omega arith) in let y = h.1 2 (omega arith) in let own = h.2 in cc)
next_by_same Sdffce c i us ws s s' h = same_bit (width c) _ _ i (λ l. let d = h.0 in let x = h.1 1 (omega arith) in let y = h.1 2 (omega arith) in let own = h.2 in cc)
next_by_same Adff c i us ws s s' h = same_bit (width c) _ _ i (λ l. let d = h.0 in let x = h.1 1 (omega arith) in cc)
next_by_same Adffe c i us ws s s' h = same_bit (width c) _ _ i (λ l. let d = h.0 in let x = h.1 1 (omega arith) in let y = h.1 2 (omega arith) in let own = h.2 in cc)
next_by_same _ c i us ws s s' h = same_bit (width c) _ _ i (λ l. h.2)

-- a completion of the operands and the stored word, at an untainted operand bit
taken_same : (n : ℕ) (vs ts xs : List Word) (s st : Word) (p j : ℕ) → length vs ≡ n → length ts ≡ n → AllComplete (vs ++ s ∷ []) (ts ++ st ∷ []) xs → bit (operand ts p) j ≡ false
    → bit (operand (take n xs) p) j ≡ bit (operand vs p) j
taken_same n vs ts xs s st p j e f a h = elim (le_or_lt p n) [
  | inl l ↦ (let own_v : operand (vs ++ s ∷ []) p ≡ operand vs p = get_or_append_left vs (s ∷ []) [] p (omega arith) in
      let own_t : operand (ts ++ st ∷ []) p ≡ operand ts p = get_or_append_left ts (st ∷ []) [] p (omega arith) in
      ap (λ (w : Word). bit w j) (get_or-take n xs p [] l) ∙ (a.each p).same j (ap (λ (w : Word). bit w j) own_t ∙ h) ∙ ap (λ (w : Word). bit w j) own_v)
  | inr l ↦ ap (λ (w : Word). bit w j) (get_or_past (take n xs) p [] (let m = length-take n xs in omega arith)) ∙ sym (ap (λ (w : Word). bit w j) (get_or_past vs p [] (omega arith)))
]

own_same : (n : ℕ) (vs ts xs : List Word) (s st : Word) (i : ℕ) → length vs ≡ n → length ts ≡ n → AllComplete (vs ++ s ∷ []) (ts ++ st ∷ []) xs → bit st i ≡ false → bit (operand xs n) i ≡ bit s i
own_same n vs ts xs s st i e f a h =
    (a.each n).same i (ap (λ (w : Word). bit w i) (get_or_at ts st [] [] n f) ∙ h) ∙ ap (λ (w : Word). bit w i) (get_or_at vs s [] [] n e)

control_at : (c : Cell) (i p : ℕ) → 1 ≤ p → p < length c.operands → Contains (register_bits c i) (p, 0)
control_at c i p h l =
    let n : ℕ = length c.operands in
    let at : 1 + (p - 1) ≡ p = omega arith in
    contains_later (0, i) (map (λ q. (q, 0)) (range_with_len 1 (n - 1))) (p, 0)
    (contains_map (λ q. (q, 0)) (range_with_len 1 (n - 1)) p (subst (λ q. Contains (range_with_len 1 (n - 1)) q) at (contains_range 1 (n - 1) (p - 1) (omega arith))))

control_clear : (c : Cell) (i p : ℕ) (ts : List Word) → length ts ≡ length c.operands → list_any (bit_taint ts) (register_bits c i) ≡ false → 1 ≤ p → bit (operand ts p) 0 ≡ false
control_clear c i p ts e none h = elim (le_or_lt p (length c.operands)) [
  | inl l ↦ none_contained (bit_taint ts) (register_bits c i) (p, 0) none (control_at c i p h l)
  | inr l ↦ ap (λ (w : Word). bit w 0) (get_or_past ts p [] (omega arith))
]

data_clear : (c : Cell) (i : ℕ) (ts : List Word) → list_any (bit_taint ts) (register_bits c i) ≡ false → bit (operand ts 0) i ≡ false
data_clear c i ts none = none_contained (bit_taint ts) (register_bits c i) (0, i) none (contains_first (0, i) (map (λ q. (q, 0)) (range_with_len 1 (length c.operands - 1))))

next_bits_same : (c : Cell) (i : ℕ) (vs ts xs ys : List Word) (s st : Word) → length vs ≡ length c.operands → length ts ≡ length c.operands → AllComplete (vs ++ s ∷ []) (ts ++ st ∷ []) xs → AllComplete (vs ++ s ∷ []) (ts ++ st ∷ []) ys
    → list_any (bit_taint ts) (register_bits c i) ≡ false → bit st i ≡ false → next_bit c (length c.operands) i xs ≡ next_bit c (length c.operands) i ys
next_bits_same c i vs ts xs ys s st e f a b none own =
    let n : ℕ = length c.operands in
    next_by_same c.kind c i (take n xs) (take n ys) (operand xs n) (operand ys n) (
      taken_same n vs ts xs s st 0 i e f a (data_clear c i ts none) ∙ sym (taken_same n vs ts ys s st 0 i e f b (data_clear c i ts none)),
      λ p h. taken_same n vs ts xs s st p 0 e f a (control_clear c i p ts f none h) ∙ sym (taken_same n vs ts ys s st p 0 e f b (control_clear c i p ts f none h)),
      own_same n vs ts xs s st i e f a own ∙ sym (own_same n vs ts ys s st i e f b own),
    )

neither : (a b : Bool) → ((a ≡ false) → (b ≡ false) → ⊥) → (a || b) ≡ true
neither true b h = refl
neither false true h = refl
neither false false h = absurd (h refl refl)

-- a tainted next bit of a register: an operand bit that it follows is tainted, or its own bit
pub register_reads : (c : Cell) (i : ℕ) (vs ts : List Word) (s st : Word) → length vs ≡ length c.operands → length ts ≡ length c.operands
    → bit (next_register_taint c vs ts s st) i ≡ true → (list_any (bit_taint ts) (register_bits c i) || bit st i) ≡ true
register_reads c i vs ts s st e f h = elim (le_or_lt i (width c)) [
  | inl l ↦ (let on : can_differ (next_bit c (length vs) i) (vs ++ s ∷ []) (ts ++ st ∷ []) ≡ true = sym (bit-word (width c) (λ k. can_differ (next_bit c (length vs) k) (vs ++ s ∷ []) (ts ++ st ∷ [])) i false l) ∙ h in
      let at_n : can_differ (next_bit c (length c.operands) i) (vs ++ s ∷ []) (ts ++ st ∷ []) ≡ true = ap (λ n. can_differ (next_bit c n i) (vs ++ s ∷ []) (ts ++ st ∷ [])) (sym e) ∙ on in
      let d = CanDiffer-from_test (next_bit c (length c.operands) i) (vs ++ s ∷ []) (ts ++ st ∷ []) at_n in
      neither (list_any (bit_taint ts) (register_bits c i)) (bit st i) (λ none own. d.differ (next_bits_same c i vs ts d.first d.second s st e f d.first_completes d.second_completes none own)))
  | inr l ↦ absurd (let none : bit (next_register_taint c vs ts s st) i ≡ false = past_word (width c) _ i false l in cc)
]

-- ---- what a register with asynchronous reset shows depends on the reset and the stored bit

shown_same : (c : Cell) (i : ℕ) (xs ys : List Word) → AgreeAt ((0, 0) ∷ (1, i) ∷ []) xs ys → shown_bit c i xs ≡ shown_bit c i ys
unfolding shown_word
shown_same c i xs ys h =
    let x : bit (operand xs 0) 0 ≡ bit (operand ys 0) 0 = h (0, 0) (contains_first (0, 0) ((1, i) ∷ [])) in
    let y : bit (operand xs 1) i ≡ bit (operand ys 1) i = h (1, i) (contains_later (0, 0) ((1, i) ∷ []) (1, i) (contains_first (1, i) [])) in
    same_bit (width c) _ _ i (λ l. cc)

two_parts : (a b : Bool) → (a || (b || false)) ≡ true → (a || b) ≡ true
two_parts true b h = refl
two_parts false true h = refl
two_parts false false h = h

pub shown_reads : (c : Cell) (i : ℕ) (reset reset_taint s st : Word) → can_differ (shown_bit c i) (reset ∷ s ∷ []) (reset_taint ∷ st ∷ []) ≡ true → (bit reset_taint 0 || bit st i) ≡ true
shown_reads c i reset reset_taint s st h =
    let found = differ_reads (shown_bit c i) (reset ∷ s ∷ []) (reset_taint ∷ st ∷ []) ((0, 0) ∷ (1, i) ∷ []) (λ us ws a b same. shown_same c i us ws same) h in
    two_parts (bit reset_taint 0) (bit st i) found
