-- From exact taint, bit by bit, to the taint words of a cell.
use Rattle.std.specs.Prelude.{ℕ, zero, suc, ◌+◌, ◌<◌, ◌≤◌, ◌≡◌, Bool, true, false, List, [], ◌∷◌, length, get_or, refl}
use Rattle.std.proofs.Common.{arith, sym, ◌∙◌}
use Rattle.cif_defs.specs.Words.{Word, bit}
use Rattle.cif_defs.specs.Kinds.{is_coarse}
use Rattle.cif_defs.specs.Cells.{Cell}
use Rattle.cif_defs.specs.Table.{outputs_of}
use Rattle.cif_defs.specs.Completions.{CanDiffer, IsExact, can_differ}
use Rattle.cif_defs.specs.Taint.{output_bit, output_taint}
use Rattle.cif_defs.specs.Fitted.{operand_widths}
use Rattle.cif_defs.specs.Weights.{weight}
use Rattle.cif_defs.proofs.WordLaws.{bit-word, length-word, same_words}
use Rattle.cif_defs.proofs.Differ.{CanDiffer-from_test, test_from-CanDiffer}
use Rattle.cif_term.specs.Formulas.{Formula, Const, cost_of}
use Rattle.cif_term.specs.CellTaints.{AreTaintsOf, IsTaintOf, output_width, taint_word}

pub same_tests : (a b : Bool) → (a ≡ true → b ≡ true) → (b ≡ true → a ≡ true) → a ≡ b
same_tests true b h k = sym (h refl)
same_tests false true h k = k refl
same_tests false false h k = refl

-- two functions that are the same at every list of words can differ at the same words and taints
pub moved : (f g : List Word → Bool) (vs ts : List Word) → ((us : List Word) → g us ≡ f us) → CanDiffer f vs ts → CanDiffer g vs ts
moved f g vs ts e d = record { first = d.first; second = d.second; first_completes = d.first_completes; second_completes = d.second_completes; differ = λ q. d.differ (sym (e d.first) ∙ q ∙ e d.second) }

-- the exact taint of what output p gives is its taint word
pub exact_taint : (c : Cell) (p : ℕ) (f : ℕ → List Word → Bool) (vs ts : List Word) (w : Word) → is_coarse c.kind ≡ false
    → ((i : ℕ) (us : List Word) → output_bit c p i us ≡ f i us) → IsExact (output_width c p) f vs ts w → w ≡ taint_word c vs ts p
exact_taint c p f vs ts w fine same e = same_words w (taint_word c vs ts p) (e.as_long ∙ sym (length-word (output_width c p) _))
    (λ i h. let l : i < output_width c p = (let k : length w ≡ output_width c p = e.as_long in omega arith) in
    tested i l ∙ by_test i ∙ sym (bit-word (output_width c p) (λ k. output_taint c p k vs ts) i false l))
  where
    tested : (i : ℕ) → i < output_width c p → bit w i ≡ can_differ (output_bit c p i) vs ts
    tested i l = same_tests (bit w i) (can_differ (output_bit c p i) vs ts)
        (λ q. test_from-CanDiffer (output_bit c p i) vs ts (moved (f i) (output_bit c p i) vs ts (same i) (e.only i l q)))
        (λ q. e.all i l (moved (output_bit c p i) (f i) vs ts (λ us. sym (same i us)) (CanDiffer-from_test (output_bit c p i) vs ts q)))

    by_test : (i : ℕ) → can_differ (output_bit c p i) vs ts ≡ output_taint c p i vs ts
    by_test i = rw fine refl

-- ---- the formulas of a cell with one output, and of one with two

each_of_one : (c : Cell) (f : Formula) → IsTaintOf c 0 f → (p : ℕ) → p < 1 → IsTaintOf c p (get_or (f ∷ []) p (Const []))
each_of_one c f t zero l = t
each_of_one c f t (suc p) l = absurd (omega arith)

pub one_output : (c : Cell) (f : Formula) → length (outputs_of c.kind) ≡ 1 → IsTaintOf c 0 f → cost_of f (operand_widths c) [] ≤ weight c → AreTaintsOf c (f ∷ [])
one_output c f e t l = record { as_many = sym e; each = each_of_one c f t; cost = omega arith }

each_of_two : (c : Cell) (f g : Formula) → IsTaintOf c 0 f → IsTaintOf c 1 g → (p : ℕ) → p < 2 → IsTaintOf c p (get_or (f ∷ g ∷ []) p (Const []))
each_of_two c f g t u zero l = t
each_of_two c f g t u (suc zero) l = u
each_of_two c f g t u (suc (suc p)) l = absurd (omega arith)

pub two_outputs : (c : Cell) (f g : Formula) → length (outputs_of c.kind) ≡ 2 → IsTaintOf c 0 f → IsTaintOf c 1 g
    → cost_of f (operand_widths c) [] + cost_of g (operand_widths c) [] ≤ weight c → AreTaintsOf c (f ∷ g ∷ [])
two_outputs c f g e t u l = record { as_many = sym e; each = each_of_two c f g t u; cost = omega arith }
