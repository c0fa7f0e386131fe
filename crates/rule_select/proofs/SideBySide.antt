-- A word and its taint side by side.
use Rattle.std.specs.Prelude.{ℕ, ◌+◌, ◌-◌, ◌≤◌, ◌≡◌, Bool, false, List, ◌++◌, slice_get, Some}
use Rattle.std.proofs.Common.{arith, ap, ◌∙◌}
use Rattle.std.proofs.lemmas.List.{get_or_append_left, get_or-append_right}
use Rattle.cif_defs.specs.Words.{Word, bit, word}
use Rattle.cif_defs.proofs.Numbers.{word-same}
use Rattle.cif_defs.proofs.WordLaws.{bit-word, length-word}
use Rattle.cif_term.specs.Formulas.{Bound, Formula, IsFormed, value_of}
use Rattle.cif_term.proofs.FormedFormulas.{formed_bound, formed_join}
use Rattle.rule_select.specs.Offsets.{pair_of, pair_taint, pair_value}
use Rattle.rule_select.proofs.PlacedParts.{value-first}
use Rattle.rule_select.proofs.TreeLaws.{IsNamed, Tree, differs, tree_bit}
use Rattle.rule_select.proofs.WindowLaws.{formed_places, picked-from}

pub value-pair : (t : Tree) (m n : ℕ) (vs ts named : List Word) → n ≤ t.wide m → IsNamed t m vs ts named → value_of (pair_of n) vs ts named ≡ word n (λ i. tree_bit t m i vs) ++ word n (differs (tree_bit t m) vs ts)
value-pair t m n vs ts named h d =
    ap (λ (w : Word). w ++ value_of (pair_value n (Bound 0)) vs ts named) (value-first (t.wide m) n (λ i. tree_bit t m i vs) (Bound 1) vs ts named h d.value)
    ∙ ap (λ (w : Word). word n (λ i. tree_bit t m i vs) ++ w) (value-first (t.wide m) n (differs (tree_bit t m) vs ts) (Bound 0) vs ts named h d.taint)

pub value-low : (n : ℕ) (p q : ℕ → Bool) (f : Formula) (vs ts named : List Word) → value_of f vs ts named ≡ word n p ++ word n q → value_of (pair_value n f) vs ts named ≡ word n p
value-low n p q f vs ts named e = picked-from 0 n (value_of f vs ts named) ∙ word-same n _ _ (λ i h.
    let place : 0 + i ≡ i = omega arith in
    ap (λ (v : Word). bit v (0 + i)) e ∙ ap (λ k. bit (word n p ++ word n q) k) place ∙ get_or_append_left (word n p) (word n q) false i (omega (arith, length-word n p)) ∙ bit-word n p i false h)

pub value-high : (n : ℕ) (p q : ℕ → Bool) (f : Formula) (vs ts named : List Word) → value_of f vs ts named ≡ word n p ++ word n q → value_of (pair_taint n f) vs ts named ≡ word n q
value-high n p q f vs ts named e = picked-from n n (value_of f vs ts named) ∙ word-same n _ _ (λ i h.
    let place : n + i - n ≡ i = omega arith in
    ap (λ (v : Word). bit v (n + i)) e ∙ get_or-append_right (word n p) (word n q) n (n + i) false (length-word n p) (omega arith) ∙ ap (λ k. bit (word n q) k) place ∙ bit-word n q i false h)

pub formed_pair : (w n : ℕ) (ws named : List ℕ) → slice_get named 1 ≡ Some w → slice_get named 0 ≡ Some w → 1 ≤ n → n ≤ w → w ≤ 65536 → n + n ≤ 65536 → IsFormed (pair_of n) ws named (n + n) 0
formed_pair w n ws named a b some few wide both =
    formed_join (formed_places 0 n (formed_bound ws named 1 w a (omega arith) wide) (omega arith) some (omega arith)) (formed_places 0 n (formed_bound ws named 0 w b (omega arith) wide) (omega arith) some (omega arith)) (omega arith) both
