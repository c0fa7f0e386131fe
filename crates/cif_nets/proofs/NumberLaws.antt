-- Net numbers in code: gathered in a list, sorted, and found by their places.
use Rattle.std.specs.Prelude.{ℕ, zero, suc, ◌+◌, ◌<◌, ◌≤◌, ◌≡◌, ◌==◌, List, [], ◌∷◌, ◌++◌, length, get_or, drop, eqb, position, Some, None, Result, Ok, Err, refl}
use Rattle.std.specs.List.{Contains, dedup, flat_map, position_or_len, prefix_len}
use Rattle.std.specs.List.Retain.{IsFiltered, DiffersFromLast}
use Rattle.std.specs.List.Sorted.{IsBinarySearchResult, IsPermutation, IsSorted, IsStrictlyIncreasing}
use Rattle.std.specs.Ordering.{nat_cmp}
use Rattle.std.specs.Result.{MatchResult, result_ok}
use Rattle.std.proofs.Common.{arith, sym, ap, ◌∙◌, cond, inl, inr, append_assoc, ltb, not}
use Rattle.std.proofs.lemmas.Bool.{cases_lt, lt-ltb, le-ltb, ne_eqb}
use Rattle.std.proofs.lemmas.List.{at_drop_more}
use Rattle.std.proofs.lemmas.List.Filters.{dedup_is}
use Rattle.std.proofs.lemmas.List.Kept.{Contains-dedup_nat, Contains-from_dedup}
use Rattle.std.proofs.lemmas.List.Sorted.{Contains-permutation, IsPermutation-sym, searched}
use Rattle.std.proofs.lemmas.Map.Keys.{IsStrictlyIncreasing-dedup, non_decreasing_from_sorted, sorted_from_strictly_increasing}
use Rattle.cif_defs.specs.RawModule.{clock_bits, nets_in, numbers_held, operand_bits, output_bits, rising}
use Rattle.cif_checks.specs.Known.{joined}
use Rattle.cif_defs.specs.declared.raw_module.Raw.{Raw}
use Rattle.cif_defs.specs.declared.raw_module.RawPort.{RawPort}
use Rattle.cif_defs.specs.declared.raw_module.RawBit.{RawBit}
use Rattle.cif_defs.specs.declared.raw_module.RawCell.{RawCell}
use Rattle.cif_nets.proofs.Places.{At, At-below, At-get, At-has, Has, nets_in-append}
use Rattle.cif_nets.proofs.Rising.{IsBelowAll-below, IsRising, IsRising-rising, Has-rising, Has-from_rising, position_at, same_rising}

-- ---- gathered

pub held_step : (ports : List (List RawBit)) (i : ℕ) (port d bits : List RawBit) (old new : List ℕ) → i < length ports → port ≡ get_or ports i d → bits ≡ port → new ≡ old ++ nets_in bits
    → new ++ nets_in (joined (drop (i + 1) ports)) ≡ old ++ nets_in (joined (drop i ports))
held_step ports i port d bits old new h at e n =
    ap (λ (ns : List ℕ). ns ++ nets_in (joined (drop (i + 1) ports))) (n ∙ ap (λ (bs : List RawBit). old ++ nets_in bs) (e ∙ at))
    ∙ append_assoc old (nets_in (get_or ports i d)) (nets_in (joined (drop (i + 1) ports)))
    ∙ ap (λ (ns : List ℕ). old ++ ns) (sym (at_drop_more (λ (ps : List (List RawBit)). nets_in (joined ps)) ports i d h
    ∙ nets_in-append (get_or ports i d) (joined (drop (i + 1) ports))))

three_pushed : (old one two three a b c : List ℕ) → one ≡ old ++ a → two ≡ one ++ b → three ≡ two ++ c → three ≡ old ++ (a ++ b ++ c)
three_pushed old one two three a b c p q r =
    r ∙ ap (λ (ns : List ℕ). ns ++ c) (q ∙ ap (λ (ns : List ℕ). ns ++ b) p ∙ append_assoc old a b) ∙ append_assoc old (a ++ b) c

pub cell_pushed : (c : RawCell) (xs ys zs : List (List RawBit)) (old one two three : List ℕ)
    → joined xs ≡ operand_bits c → joined ys ≡ output_bits c → joined zs ≡ clock_bits c
    → one ≡ old ++ nets_in (joined xs) → two ≡ one ++ nets_in (joined ys) → three ≡ two ++ nets_in (joined zs)
    → three ≡ old ++ (nets_in (operand_bits c) ++ nets_in (output_bits c) ++ nets_in (clock_bits c))
cell_pushed c xs ys zs old one two three x y z p q r =
    three_pushed old one two three (nets_in (operand_bits c)) (nets_in (output_bits c)) (nets_in (clock_bits c))
    (p ∙ ap (λ (bs : List RawBit). old ++ nets_in bs) x)
    (q ∙ ap (λ (bs : List RawBit). one ++ nets_in bs) y)
    (r ∙ ap (λ (bs : List RawBit). two ++ nets_in bs) z)

pub both_pushed : (raw : Raw) (old one two : List ℕ) (ports : List RawPort) (cells : List RawCell) → old ≡ [] → ports ≡ raw.ports → one ≡ old ++ flat_map (λ (p : RawPort). nets_in p.bits) ports → cells ≡ raw.cells
    → two ≡ one ++ flat_map (λ (c : RawCell). nets_in (operand_bits c) ++ nets_in (output_bits c) ++ nets_in (clock_bits c)) cells → two ≡ numbers_held raw
both_pushed raw old one two ports cells a p b c d =
    d ∙ ap (λ (cs : List RawCell). one ++ flat_map (λ (c : RawCell). nets_in (operand_bits c) ++ nets_in (output_bits c) ++ nets_in (clock_bits c)) cs) c
    ∙ ap (λ (ns : List ℕ). ns ++ flat_map (λ (c : RawCell). nets_in (operand_bits c) ++ nets_in (output_bits c) ++ nets_in (clock_bits c)) raw.cells)
    (b ∙ ap (λ (ns : List ℕ). ns ++ flat_map (λ (p : RawPort). nets_in p.bits) ports) a ∙ ap (flat_map (λ (p : RawPort). nets_in p.bits)) p)

-- ---- sorted

Contains-has : (xs : List ℕ) (x : ℕ) → Has xs x → Contains xs x
Contains-has xs x h = (let at = At-has xs x h in (at.0, At-below xs at.0 x at.1, At-get xs at.0 x x at.1))

has_at : (xs : List ℕ) (i x d : ℕ) → i < length xs → get_or xs i d ≡ x → Has xs x
has_at [] i x d l e = absurd (omega arith)
has_at (y ∷ ys) zero x d l e = inl e
has_at (y ∷ ys) (suc i) x d l e = inr (has_at ys i x d (omega arith) e)

Has-contains : (xs : List ℕ) (x : ℕ) → Contains xs x → Has xs x
Has-contains xs x h = has_at xs h.0 x x h.1 h.2

increasing_tail : (x : ℕ) (xs : List ℕ) → IsStrictlyIncreasing (x ∷ xs) → IsStrictlyIncreasing xs
increasing_tail x xs h k l = (let e : suc k + 1 ≡ suc (k + 1) = omega arith in rw e at (h (suc k) (omega arith)))

pub IsRising-increasing : (xs : List ℕ) → IsStrictlyIncreasing xs → IsRising xs
IsRising-increasing [] h = tt
IsRising-increasing (x ∷ []) h = (tt, tt)
IsRising-increasing (x ∷ y ∷ ys) h =
    let first : x < y = h 0 (omega arith) in
    let rest : IsRising (y ∷ ys) = IsRising-increasing (y ∷ ys) (increasing_tail x (y ∷ ys) h) in
    ((first, IsBelowAll-below x y ys first rest.0), rest)

pub increasing_rising : (xs : List ℕ) → IsRising xs → IsStrictlyIncreasing xs
increasing_rising [] h k l = absurd (omega arith)
increasing_rising (x ∷ []) h k l = absurd (omega arith)
increasing_rising (x ∷ y ∷ ys) h zero l = h.0.0
increasing_rising (x ∷ y ∷ ys) h (suc k) l = (let e : suc k + 1 ≡ suc (k + 1) = omega arith in rw e (increasing_rising (y ∷ ys) h.1 k (omega arith)))

pub sorted_numbers : (xs ys zs : List ℕ) → IsPermutation xs ys → IsSorted nat_cmp ys → IsFiltered (DiffersFromLast eqb) [] ys zs → zs ≡ rising xs
sorted_numbers xs ys zs p s f =
    let e : zs ≡ dedup eqb ys = dedup_is eqb ys zs f in
    e ∙ same_rising (dedup eqb ys) (rising xs) (IsRising-increasing (dedup eqb ys) (IsStrictlyIncreasing-dedup ys s)) (IsRising-rising xs)
    (λ x h. Has-rising xs x (Has-contains xs x (Contains-permutation ys xs x (IsPermutation-sym xs ys p) (Contains-from_dedup eqb ys x (Contains-has (dedup eqb ys) x h)))))
    (λ x h. Has-contains (dedup eqb ys) x (Contains-dedup_nat ys x (Contains-permutation xs ys x p (Contains-has xs x (Has-from_rising xs x h)))))

-- ---- found

pub position_found : (ns : List ℕ) (i x : ℕ) → IsRising ns → At ns i x → position (λ n. n == x) ns ≡ Some i
position_found ns i x h at =
    let e : position_or_len (λ n. n == x) ns ≡ i = position_at ns i x h at in
    let l : i < length ns = At-below ns i x at in
    ap (λ (j : ℕ). cond (ltb j (length ns)) (Some j) None) e ∙ ap (λ b. cond b (Some i) None) (lt-ltb i (length ns) l)

none_passes : (ns : List ℕ) (x : ℕ) → (Has ns x → ⊥) → position_or_len (λ n. n == x) ns ≡ length ns
none_passes [] x h = refl
none_passes (n ∷ ns) x h =
    ap (λ b. cond (not b) (1 + prefix_len (λ y. not (y == x)) ns) 0) (ne_eqb n x (λ e. h (inl e)))
    ∙ (let r : position_or_len (λ n. n == x) ns ≡ length ns = none_passes ns x (λ k. h (inr k)) in omega arith)

pub position_none : (ns : List ℕ) (x : ℕ) → (Has ns x → ⊥) → position (λ n. n == x) ns ≡ None
position_none ns x h =
    let e : position_or_len (λ n. n == x) ns ≡ length ns = none_passes ns x h in
    ap (λ (j : ℕ). cond (ltb j (length ns)) (Some j) None) e ∙ ap (λ b. cond b (Some (length ns)) None) (le-ltb (length ns) (length ns) (omega arith))

at_place : (ns : List ℕ) (i : ℕ) → i < length ns → At ns i (get_or ns i 0)
at_place [] i l = absurd (omega arith)
at_place (n ∷ ns) zero l = refl
at_place (n ∷ ns) (suc i) l = at_place ns i (omega arith)

never_after : (a b : ℕ) → a ≡ b → a < b → ⊥
never_after a b e h = omega arith

-- what stands neither before place i nor from it on stands nowhere
nowhere : (ns : List ℕ) (x i : ℕ) → ((k : ℕ) → k < i → get_or ns k 0 < x) → ((k : ℕ) → i ≤ k → k < length ns → x < get_or ns k 0) → Has ns x → ⊥
nowhere ns x i below above h =
    let at = At-has ns x h in
    let here : get_or ns at.0 0 ≡ x = At-get ns at.0 x 0 at.1 in
    elim (cases_lt at.0 i) [ inl l ↦ never_after (get_or ns at.0 0) x here (below at.0 l) | inr l ↦ never_after x (get_or ns at.0 0) (sym here) (above at.0 l (At-below ns at.0 x at.1)) ]

not_falling : (ns : List ℕ) → IsStrictlyIncreasing ns → (i j : ℕ) → i ≤ j → j < length ns → get_or ns i 0 ≤ get_or ns j 0
not_falling ns h i j a b = non_decreasing_from_sorted ns (sorted_from_strictly_increasing ns h) i j 0 a b

found_by : (ns : List ℕ) (x : ℕ) (r : Result ℕ ℕ) → IsStrictlyIncreasing ns
    → MatchResult r (λ i. (i < length ns) × (get_or ns i 0 ≡ x)) (λ i. (i ≤ length ns) × ((k : ℕ) → k < i → get_or ns k 0 < x) × ((k : ℕ) → i ≤ k → k < length ns → x < get_or ns k 0))
    → result_ok r ≡ position (λ n. n == x) ns
found_by ns x (Ok i) h m = sym (position_found ns i x (IsRising-increasing ns h) (rw m.1 at (at_place ns i m.0)))
found_by ns x (Err i) h m = sym (position_none ns x (nowhere ns x i m.1 m.2))

pub searched_place : (ns : List ℕ) (x : ℕ) (r : Result ℕ ℕ) → IsStrictlyIncreasing ns → IsBinarySearchResult (λ y. nat_cmp y x) ns r → result_ok r ≡ position (λ n. n == x) ns
searched_place ns x r h s = found_by ns x r h (searched ns x r s (not_falling ns h))
