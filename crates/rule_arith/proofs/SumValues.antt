-- What the formulas of sums stand for.
use Rattle.std.specs.Prelude.{ℕ, ◌<◌, ◌≡◌, nat_lt, Bool, false, ◌&&◌, ◌||◌, List, ◌∷◌, length, None}
use Rattle.std.proofs.Common.{sym, ap, ◌∙◌}
use Rattle.std.proofs.lemmas.List.FromFn.{fill_by_all}
use Rattle.cif_defs.specs.Meanings.{add_word, alu_operand}
use Rattle.cif_defs.specs.Words.{Word, bit, word}
use Rattle.cif_defs.proofs.WordLaws.{bit-word, length-word}
use Rattle.cif_defs.proofs.Numbers.{word-same}
use Rattle.cif_defs.proofs.SumExact.{add_is_sum}
use Rattle.cif_defs.proofs.Sums.{sum_bit}
use Rattle.cif_term.specs.declared.ops.Op2.TheVariants.{Add, Or}
use Rattle.cif_term.specs.Formulas.{Formula, Bound, Two, value_of}
use Rattle.cif_term.proofs.Values.{value-or}
use Rattle.rule_arith.specs.declared.sums.Sums.{Sums}
use Rattle.rule_arith.specs.Bounds.{bounds, half_of, is_upper, taint_below}
use Rattle.rule_arith.specs.Cases.{cases_taint}
use Rattle.rule_arith.specs.SumFormulas.{sum_at, sum_formula}
use Rattle.rule_arith.proofs.BoundValues.{value-bound, value-bounds, value-cases, value-taint_below}
use Rattle.rule_arith.proofs.Limits.{at_bound}
use Rattle.rule_arith.proofs.SumRules.{xor_none}
use Rattle.rule_arith.proofs.Turns.{cases_turn}

-- ---- a sum of words of one width

whole_operand : (n : ℕ) (p : ℕ → Bool) → alu_operand n false false (word n p) ≡ word n p
whole_operand n p = word-same n _ _ (λ i h. sym (xor_none (bit (word n p) i)) ∙ bit-word n p i false h)

pub sum_of_words : (n : ℕ) (p q : ℕ → Bool) → add_word n false (word n p) (word n q) ≡ word n (λ i. sum_bit false (word n p) (word n q) i)
sum_of_words n p q = sum_word (add_word n false (word n p) (word n q)) (length-word n _)
    (λ i h. add_is_sum n false (word n p) (word n q) i h ∙ ap (λ (w : Word). sum_bit false w (alu_operand n false false (word n q)) i) (whole_operand n p)
    ∙ ap (λ (w : Word). sum_bit false (word n p) w i) (whole_operand n q))
  where
    sum_word : (w : Word) → length w ≡ n → ((i : ℕ) → i < n → bit w i ≡ sum_bit false (word n p) (word n q) i) → w ≡ word n (λ i. sum_bit false (word n p) (word n q) i)
    sum_word w e h = fill_by_all (λ i. sum_bit false (word n p) (word n q) i) w n false e h

pub value-add : (n : ℕ) (p q : ℕ → Bool) (f g : Formula) (vs ts named : List Word) → value_of f vs ts named ≡ word n p → value_of g vs ts named ≡ word n q
    → value_of (Two Add f g) vs ts named ≡ word n (λ i. sum_bit false (word n p) (word n q) i)
value-add n p q f g vs ts named a b =
    ap (λ (w : Word). add_word (length w) false w (value_of g vs ts named)) a ∙ ap (λ (w : Word). add_word (length (word n p)) false (word n p) w) b
    ∙ ap (λ k. add_word k false (word n p) (word n q)) (length-word n p) ∙ sum_of_words n p q

-- ---- the taint of a sum

abbrev pub plain_sums : ℕ → ℕ → ℕ → Sums
plain_sums n j k = record { width = n; first = 1; first_start = j; second = 0; second_start = k; carry = None }

-- a bound of an addend with bits p and taint q
abbrev pub bound_at : ℕ → ℕ → (ℕ → Bool) → (ℕ → Bool) → Bool → Bool → Word
bound_at n k p q upper side = word n (λ i. at_bound (is_upper k upper side i) (p i) (q i))

abbrev pub sum_rule : ℕ → ℕ → ℕ → (ℕ → Bool) → (ℕ → Bool) → (ℕ → Bool) → (ℕ → Bool) → ℕ → Bool
sum_rule n j k pf pt pg pu i =
    ((nat_lt i j && pt i) || (nat_lt i k && pu i))
    || cases_turn (nat_lt j n) (nat_lt k n) (λ upper p q. sum_bit false (bound_at n j pf pt upper p) (bound_at n k pg pu upper q) i)

-- a formula that stands for the bits p wherever it is
abbrev pub Gives : ℕ → List Word → List Word → Formula → (ℕ → Bool) → Type 0
Gives n vs ts f p = (named : List Word) → value_of f vs ts named ≡ word n p

pub value-sum_formula : (n j k : ℕ) (f t g u : Formula) (pf pt pg pu : ℕ → Bool) (vs ts named : List Word) → Gives n vs ts f pf → Gives n vs ts t pt → Gives n vs ts g pg → Gives n vs ts u pu
    → value_of (sum_formula n j k f t g u) vs ts named ≡ word n (sum_rule n j k pf pt pg pu)
value-sum_formula n j k f t g u pf pt pg pu vs ts named a b c d =
    let first : Word = value_of (bounds f t) vs ts named in
    let second : Word = value_of (bounds g u) vs ts (first ∷ named) in
    let inner : List Word = second ∷ first ∷ named in
    value-or n (λ i. (nat_lt i j && pt i) || (nat_lt i k && pu i))
    (λ i. cases_turn (nat_lt j n) (nat_lt k n) (λ upper p q. sum_bit false (bound_at n j pf pt upper p) (bound_at n k pg pu upper q) i))
    (Two Or (taint_below n j t) (taint_below n k u)) (cases_taint (nat_lt j n) (nat_lt k n) (sum_at (plain_sums n j k))) vs ts inner
    (value-or n _ _ (taint_below n j t) (taint_below n k u) vs ts inner (value-taint_below n j pt t vs ts inner (b inner)) (value-taint_below n k pu u vs ts inner (d inner)))
    (value-cases n (nat_lt j n) (nat_lt k n) (sum_at (plain_sums n j k)) (λ i upper p q. sum_bit false (bound_at n j pf pt upper p) (bound_at n k pg pu upper q) i) vs ts inner
    (λ upper p q. value-add n _ _ (half_of n j upper p (Bound 1)) (half_of n k upper q (Bound 0)) vs ts inner
    (value-bound n j upper p pf pt (Bound 1) vs ts inner (value-bounds n pf pt f t vs ts named (a named) (b named)))
    (value-bound n k upper q pg pu (Bound 0) vs ts inner (value-bounds n pg pu g u vs ts (first ∷ named) (c (first ∷ named)) (d (first ∷ named))))))
