-- The taint of cells of one shape is the same, and so formulas for one of them serve for all.
use Rattle.std.specs.Prelude.{ℕ, ◌^◌, ◌<◌, ◌≤◌, ◌≡◌, Bool, List, [], ◌∷◌, map, length, get_or, Some, refl, if◌then◌else◌}
use Rattle.std.specs.List.{range_with_len, sum_by}
use Rattle.std.proofs.Common.{arith, ap, sym, ◌∙◌}
use Rattle.cif_defs.specs.Words.{Word, bit, number, operand, word}
use Rattle.cif_defs.specs.Kinds.{is_coarse, role_of}
use Rattle.cif_defs.specs.Cells.{Cell, coarse_by, width}
use Rattle.cif_defs.specs.Completions.{AllComplete, CanDiffer, can_differ}
use Rattle.cif_defs.specs.Fitted.{IsFitted, operand_widths}
use Rattle.cif_defs.specs.Table.{operands_of, outputs_of}
use Rattle.cif_defs.specs.Taint.{output_bit, output_taint}
use Rattle.cif_defs.specs.Weights.{weight}
use Rattle.cif_defs.specs.declared.kinds.Role.TheVariants.{Combinational}
use Rattle.cif_defs.specs.declared.kinds.Kind.{Kind}
use Rattle.cif_defs.specs.declared.kinds.Kind.TheVariants.{Lut as LutKind}
use Rattle.cif_defs.proofs.Differ.{CanDiffer-from_test, test_from-CanDiffer}
use Rattle.cif_defs.proofs.Numbers.{word-same}
use Rattle.cif_defs.proofs.WordNumbers.{number_below}
use Rattle.cif_kinds.proofs.OperandWidths.{operand_width}
use Rattle.cif_term.specs.Formulas.{Formula, Const, cost_of, width_of}
use Rattle.cif_term.specs.CellTaints.{AreOperands, AreTaintsOf, output_width, taint_word, taint_words}
use Rattle.cif_term.proofs.ExactTaintWords.{same_tests}
use Rattle.cif_shapes.specs.declared.shape.Shape.{Shape}
use Rattle.cif_shapes.specs.Shapes.{AreTaintsOfShape, shape_of, table_size}
use Rattle.cif_shapes.proofs.SameShape.{SameDigit, SameShape, from_shapes, same_coarse, same_meaning, same_operand_widths, same_output_width, same_weight}

-- ---- tests of exact taint

-- two functions that are the same at all completions can differ at the same words and taints
moved : (f g : List Word → Bool) (vs ts : List Word) → ((us : List Word) → AllComplete vs ts us → f us ≡ g us) → CanDiffer f vs ts → CanDiffer g vs ts
moved f g vs ts h d = record {
  first = d.first;
  second = d.second;
  first_completes = d.first_completes;
  second_completes = d.second_completes;
  differ = λ q. d.differ (h d.first d.first_completes ∙ q ∙ sym (h d.second d.second_completes));
}

can_differ_same : (f g : List Word → Bool) (vs ts : List Word) → ((us : List Word) → AllComplete vs ts us → f us ≡ g us) → can_differ f vs ts ≡ can_differ g vs ts
can_differ_same f g vs ts h = same_tests (can_differ f vs ts) (can_differ g vs ts)
    (λ q. test_from-CanDiffer g vs ts (moved f g vs ts h (CanDiffer-from_test f vs ts q)))
    (λ q. test_from-CanDiffer f vs ts (moved g f vs ts (λ us a. sym (h us a)) (CanDiffer-from_test g vs ts q)))

-- ---- the place at which a table is read

table_width : (c : Cell) (vs : List Word) → c.kind ≡ LutKind → IsFitted c → AreOperands c vs → length (operand vs 0) ≡ width c
unfolding operands_of
table_width c vs e f h = operand_width c vs LutKind 0 (sym e) f h

same_digit : (c d : Cell) (vs ts us : List Word) → SameShape c d → IsFitted c → AreOperands c vs → AllComplete vs ts us → SameDigit c.kind c d us
same_digit c d vs ts us s f h a = λ e.
    let long : length (operand us 0) ≡ width c = (a.each 0).as_long ∙ table_width c vs e f h in
    let below : number (operand us 0) < 2 ^ length (operand us 0) = number_below (operand us 0) in
    let size : table_size c.kind c ≡ 2 ^ width c = ap (λ (k : Kind). table_size k c) e in
    let power : 2 ^ length (operand us 0) ≡ 2 ^ width c = ap (λ n. 2 ^ n) long in
    s.table (number (operand us 0)) (omega arith)

-- ---- taint

either_same : (a b x y u v : Bool) → a ≡ b → x ≡ y → u ≡ v → (if a then x else u) ≡ (if b then y else v)
either_same a b x y u v e f g = rw (e, f, g) refl

output_taint_same : (c d : Cell) (p i : ℕ) (vs ts : List Word) → SameShape c d → IsFitted c → AreOperands c vs → output_taint c p i vs ts ≡ output_taint d p i vs ts
output_taint_same c d p i vs ts s f h =
    either_same (is_coarse c.kind) (is_coarse d.kind) (bit (coarse_by c.kind c vs ts) i) (bit (coarse_by d.kind d vs ts) i) (can_differ (output_bit c p i) vs ts) (can_differ (output_bit d p i) vs ts)
    (ap is_coarse s.kind)
    (ap (λ (w : Word). bit w i) (same_coarse c d vs ts s))
    (can_differ_same (output_bit c p i) (output_bit d p i) vs ts (λ us a. ap (λ (ws : List Word). bit (operand ws p) i) (same_meaning c d us s (same_digit c d vs ts us s f h a))))

taint_word_same : (c d : Cell) (vs ts : List Word) (p : ℕ) → role_of c.kind ≡ Combinational → SameShape c d → IsFitted c → AreOperands c vs → taint_word c vs ts p ≡ taint_word d vs ts p
taint_word_same c d vs ts p r s f h =
    word-same (output_width c p) (λ i. output_taint c p i vs ts) (λ i. output_taint d p i vs ts) (λ i l. output_taint_same c d p i vs ts s f h)
    ∙ ap (λ n. word n (λ i. output_taint d p i vs ts)) (same_output_width c d p r s)

pub map_same : {A : Type 0} (f g : ℕ → A) (xs : List ℕ) → ((i : ℕ) → f i ≡ g i) → map f xs ≡ map g xs
map_same {A} f g [] h = refl
map_same {A} f g (x ∷ xs) h = let one : f x ≡ g x = h x in let rest : map f xs ≡ map g xs = map_same f g xs h in cc

-- cells of one shape have the same taint words
pub same_taint_words : (c d : Cell) (vs ts : List Word) → role_of c.kind ≡ Combinational → IsFitted c → shape_of c ≡ shape_of d → AreOperands c vs → taint_words c vs ts ≡ taint_words d vs ts
same_taint_words c d vs ts r f e h =
    let s : SameShape c d = from_shapes c d e in
    map_same (taint_word c vs ts) (taint_word d vs ts) (range_with_len 0 (length (outputs_of c.kind))) (λ p. taint_word_same c d vs ts p r s f h)
    ∙ ap (λ (k : Kind). map (taint_word d vs ts) (range_with_len 0 (length (outputs_of k)))) s.kind

pub same_widths : (c d : Cell) → role_of c.kind ≡ Combinational → IsFitted c → IsFitted d → shape_of c ≡ shape_of d → operand_widths c ≡ operand_widths d
same_widths c d r f g e = same_operand_widths c d r f g (from_shapes c d e)

-- ---- formulas

shared : (c d : Cell) (fs : List Formula) → role_of c.kind ≡ Combinational → IsFitted c → IsFitted d → SameShape c d → AreTaintsOf c fs → AreTaintsOf d fs
shared c d fs r f g s a =
    let widths : operand_widths c ≡ operand_widths d = same_operand_widths c d r f g s in
    let costs : sum_by (λ x. cost_of x (operand_widths c) []) fs ≡ sum_by (λ x. cost_of x (operand_widths d) []) fs = ap (λ (ws : List ℕ). sum_by (λ x. cost_of x ws []) fs) widths in
    let weights : weight c ≡ weight d = same_weight c d r s in
    let limit : sum_by (λ x. cost_of x (operand_widths c) []) fs ≤ weight c = a.cost in
    record {
      as_many = a.as_many ∙ ap (λ (k : Kind). length (outputs_of k)) s.kind;
      each = λ p l. let one = a.each p l in record {
        formed = ap (λ (ws : List ℕ). width_of (get_or fs p (Const [])) ws []) (sym widths) ∙ one.formed ∙ ap Some (same_output_width c d p r s);
        means = λ vs ts hv ht. one.means vs ts (hv ∙ sym widths) (ht ∙ sym widths) ∙ taint_word_same c d vs ts p r s f (hv ∙ sym widths);
      };
      cost = omega arith;
    }

-- what a rule has to keep
pub rule_keeps : (c : Cell) (s : Shape) (fs : List Formula) → role_of c.kind ≡ Combinational → IsFitted c → s ≡ shape_of c → AreTaintsOf c fs → AreTaintsOfShape s fs
rule_keeps c s fs r f e a = record { of_each = λ d q g h. shared c d fs r f g (from_shapes c d (sym e ∙ h)) a }
