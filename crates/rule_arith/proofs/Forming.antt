-- The widths and the costs of formulas of bounds and cases.
use Rattle.std.specs.Prelude.{ℕ, zero, suc, ◌+◌, ◌*◌, ◌<◌, ◌≤◌, ◌≡◌, nat_lt, Bool, true, false, List, ◌∷◌, if◌then◌else◌, refl}
use Rattle.std.specs.List.{list_all, range_with_len}
use Rattle.std.proofs.Common.{arith, ap, ◌∙◌}
use Rattle.std.proofs.lemmas.Bool.Decides.{nat_tests}
use Rattle.std.proofs.lemmas.List.Folds.{list_all-map}
use Rattle.cif_defs.specs.Words.{zeros}
use Rattle.cif_defs.proofs.WordLaws.{length-word}
use Rattle.cif_term.specs.declared.ops.Op1.{Op1}
use Rattle.cif_term.specs.declared.ops.Op1.TheVariants.{Not, ReduceAnd, ReduceOr, ReduceXor}
use Rattle.cif_term.specs.declared.ops.Op2.{Op2}
use Rattle.cif_term.specs.declared.ops.Op2.TheVariants.{And, Or, Xor, Add, Mul, Div, LessUnsigned, LessSigned, Equal}
use Rattle.cif_term.specs.Formulas.{Formula, One, Two, IsFormed, is_on_numbers, joined_pieces, one_cost, one_width, pieces, two_cost, two_width}
use Rattle.cif_term.proofs.FormedFormulas.{formed_bound, formed_const, formed_join, formed_let, formed_one, formed_pick, formed_two, pieces_narrow, raised}
use Rattle.rule_arith.specs.Bounds.{bounds, half_of, half_places, is_upper, taint_below}
use Rattle.rule_arith.specs.Cases.{case_taint, cases_taint, joined, second_taint}
use Rattle.rule_arith.specs.SumFormulas.{sum_at, sum_formula}
use Rattle.rule_arith.proofs.BoundValues.{length-half_places}
use Rattle.rule_arith.proofs.SumValues.{plain_sums}

-- ---- operations on words of at most 4,096 bits cost 1

one_piece : (p : ℕ) → p ≤ 1 → joined_pieces p ≤ 1
one_piece p h = let t : nat_lt 1 p ≡ false = grind (arith, nat_tests) in omega (arith, ap (λ b. if b then p + 1 else p) t)

one_costs : (op : Op1) (n : ℕ) → n ≤ 4096 → one_cost op n ≤ 1
one_costs Not n h = pieces_narrow n h
one_costs ReduceAnd n h = one_piece (pieces n) (pieces_narrow n h)
one_costs ReduceOr n h = one_piece (pieces n) (pieces_narrow n h)
one_costs ReduceXor n h = one_piece (pieces n) (pieces_narrow n h)

two_costs : (op : Op2) (n : ℕ) → n ≤ 4096 → two_cost op n ≤ 1
two_costs Equal n h = one_piece (pieces n) (pieces_narrow n h)
two_costs And n h = pieces_narrow n h
two_costs Or n h = pieces_narrow n h
two_costs Xor n h = pieces_narrow n h
two_costs Add n h = pieces_narrow n h
two_costs Mul n h = pieces_narrow n h
two_costs Div n h = pieces_narrow n h
two_costs LessUnsigned n h = pieces_narrow n h
two_costs LessSigned n h = pieces_narrow n h

pub one_more : {f : Formula} {ws named : List ℕ} {n k : ℕ} (op : Op1) → n ≤ 4096 → IsFormed f ws named n k → IsFormed (One op f) ws named (one_width op n) (k + 1)
one_more {n = n} {k = k} op h x = let c : one_cost op n ≤ 1 = one_costs op n h in raised (k + 1) (formed_one op x) (omega arith)

pub two_more : {f g : Formula} {ws named : List ℕ} {n j k : ℕ} (op : Op2) → n ≤ 4096 → (is_on_numbers op ≡ true → n ≤ 128) → IsFormed f ws named n j → IsFormed g ws named n k
    → IsFormed (Two op f g) ws named (two_width op n) (j + k + 1)
two_more {n = n} {j = j} {k = k} op h small x y = let c : two_cost op n ≤ 1 = two_costs op n h in raised (j + k + 1) (formed_two op x y small) (omega arith)

-- ---- pairs of words

pub formed_bounds : {f t : Formula} {ws named : List ℕ} {n j k : ℕ} → 1 ≤ n → n ≤ 4096 → IsFormed f ws named n j → IsFormed t ws named n k → IsFormed (bounds f t) ws named (n + n) (j + (k + 1) + 1 + (j + k + 1))
formed_bounds some h x y = formed_join (two_more And h (λ e. absurd (cc)) x (one_more Not h y)) (two_more Or h (λ e. absurd (cc)) x y) (omega arith) (omega arith)

all_range : (p : ℕ → Bool) (s n : ℕ) → ((i : ℕ) → i < s + n → p i ≡ true) → list_all p (range_with_len s n) ≡ true
all_range p s zero h = refl
all_range p s (suc n) h =
    let here : p s ≡ true = h s (omega arith) in
    let rest : list_all p (range_with_len (s + 1) n) ≡ true = all_range p (s + 1) n (λ i l. h i (omega arith)) in
    grind arith

half_inside : (n i : ℕ) (upper : Bool) → i < n → nat_lt (if upper then n + i else i) (n + n) ≡ true
half_inside n i true h = grind (arith, nat_tests)
half_inside n i false h = grind (arith, nat_tests)

halves_inside : (n k : ℕ) (low high : Bool) → list_all (λ i. nat_lt i (n + n)) (half_places n k low high) ≡ true
halves_inside n k low high =
    list_all-map (λ i. nat_lt i (n + n)) (λ i. if is_upper k low high i then n + i else i) (range_with_len 0 n)
    ∙ all_range (λ i. nat_lt (if is_upper k low high i then n + i else i) (n + n)) 0 n (λ i h. half_inside n i (is_upper k low high i) (omega arith))

pub formed_half : {pair : Formula} {ws named : List ℕ} {n j : ℕ} (k : ℕ) (low high : Bool) → 1 ≤ n → n ≤ 4096 → IsFormed pair ws named (n + n) j → IsFormed (half_of n k low high pair) ws named n j
formed_half {n = n} k low high some h x = formed_pick (half_places n k low high) n x (halves_inside n k low high) (length-half_places n k low high) some (omega arith)

pub formed_below : {t : Formula} {ws named : List ℕ} {n j : ℕ} (k : ℕ) → 1 ≤ n → n ≤ 4096 → IsFormed t ws named n j → IsFormed (taint_below n k t) ws named n j
formed_below {n = n} {j = j} k some h x =
    formed_half k false true some h (raised j (formed_join x (formed_const (zeros n) _ _ n (length-word n (λ i. false)) some (omega arith)) (omega arith) (omega arith)) (omega arith))

-- ---- cases

pub formed_joined : {t0 t1 v0 v1 : Formula} {ws named : List ℕ} {n i j k l : ℕ} → n ≤ 4096 → IsFormed t0 ws named n i → IsFormed t1 ws named n j → IsFormed v0 ws named n k → IsFormed v1 ws named n l
    → IsFormed (joined t0 t1 v0 v1) ws named n (i + j + 1 + (k + l + 1) + 1)
formed_joined h a b c d = two_more Or h (λ e. absurd (cc)) (two_more Or h (λ e. absurd (cc)) a b) (two_more Xor h (λ e. absurd (cc)) c d)

abbrev pub AllFormed : (Bool → Bool → Bool → Formula) → List ℕ → List ℕ → ℕ → ℕ → Type 0
AllFormed g ws named n k = (upper a b : Bool) → IsFormed (g upper a b) ws named n k

formed_case : (g : Bool → Bool → Bool → Formula) (ws named : List ℕ) (n k : ℕ) → n ≤ 4096 → AllFormed g ws named n k → (a b : Bool) → IsFormed (case_taint g a b) ws named n (k + k + 1)
formed_case g ws named n k h all a b = two_more Xor h (λ e. absurd (cc)) (all false a b) (all true a b)

formed_second : (split : Bool) (g : Bool → Bool → Bool → Formula) (ws named : List ℕ) (n k : ℕ) → n ≤ 4096 → AllFormed g ws named n k → (a : Bool) → IsFormed (second_taint split g a) ws named n (6 * k + 5)
formed_second true g ws named n k h all a =
    raised (6 * k + 5) (formed_joined h (formed_case g ws named n k h all a false) (formed_case g ws named n k h all a true) (all false a false) (all false a true)) (omega arith)
formed_second false g ws named n k h all a = raised (6 * k + 5) (formed_case g ws named n k h all a false) (omega arith)

pub formed_cases : (first second : Bool) (g : Bool → Bool → Bool → Formula) (ws named : List ℕ) (n k : ℕ) → n ≤ 4096 → AllFormed g ws named n k → IsFormed (cases_taint first second g) ws named n (14 * k + 13)
formed_cases true second g ws named n k h all =
    raised (14 * k + 13) (formed_joined h (formed_second second g ws named n k h all false) (formed_second second g ws named n k h all true) (all false false false) (all false true false)) (omega arith)
formed_cases false second g ws named n k h all = raised (14 * k + 13) (formed_second second g ws named n k h all false) (omega arith)

-- ---- sums

formed_sum_at : (ws named : List ℕ) (n j k : ℕ) → 1 ≤ n → n ≤ 128 → AllFormed (sum_at (plain_sums n j k)) ws ((n + n) ∷ (n + n) ∷ named) n 1
formed_sum_at ws named n j k some h upper p q =
    two_more Add (omega arith) (λ e. h)
    (formed_half j upper p some (omega arith) (formed_bound ws ((n + n) ∷ (n + n) ∷ named) 1 (n + n) refl (omega arith) (omega arith)))
    (formed_half k upper q some (omega arith) (formed_bound ws ((n + n) ∷ (n + n) ∷ named) 0 (n + n) refl (omega arith) (omega arith)))

-- a formula that is formed wherever it is
abbrev pub Forms : Formula → List ℕ → ℕ → ℕ → Type 0
Forms f ws n k = (named : List ℕ) → IsFormed f ws named n k

-- with no more than one operation before the sum on each addend
pub formed_sum_formula : (f t g u : Formula) (ws : List ℕ) (n j k : ℕ) → 1 ≤ n → n ≤ 128 → Forms f ws n 1 → Forms t ws n 0 → Forms g ws n 0 → Forms u ws n 0 → (named : List ℕ)
    → IsFormed (sum_formula n j k f t g u) ws named n 37
formed_sum_formula f t g u ws n j k some h a b c d named =
    let inner : List ℕ = (n + n) ∷ (n + n) ∷ named in
    raised 37 (formed_let (formed_bounds some (omega arith) (a named) (b named)) (formed_let (formed_bounds some (omega arith) (c ((n + n) ∷ named)) (d ((n + n) ∷ named)))
    (two_more Or (omega arith) (λ e. absurd (cc))
    (two_more Or (omega arith) (λ e. absurd (cc)) (formed_below j some (omega arith) (b inner)) (formed_below k some (omega arith) (d inner)))
    (formed_cases (nat_lt j n) (nat_lt k n) (sum_at (plain_sums n j k)) ws inner n 1 (omega arith) (formed_sum_at ws named n j k some h))))) (omega arith)
