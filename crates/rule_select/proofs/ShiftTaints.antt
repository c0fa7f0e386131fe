-- The formulas of $shl, $sshl, $shr and $sshr compute their exact taint.
use Rattle.std.specs.Prelude.{ℕ, zero, suc, ◌*◌, ◌<◌, ◌≤◌, ◌≡◌, Bool, List, [], ◌∷◌, length, map, refl}
use Rattle.std.proofs.Common.{arith}
use Rattle.cif_defs.specs.Words.{Word, operand, word}
use Rattle.cif_defs.specs.Cells.{Cell, number_of, y_width}
use Rattle.cif_defs.specs.declared.kinds.Param.TheVariants.{AWidth, BWidth}
use Rattle.cif_defs.specs.Taint.{output_bit}
use Rattle.cif_defs.specs.Weights.{weight}
use Rattle.cif_term.specs.Formulas.{Bound, Pick, Taint, Value, IsFormed, pieces, value_of}
use Rattle.cif_term.specs.CellTaints.{AreTaintsOf}
use Rattle.cif_term.specs.Extended.{extended}
use Rattle.cif_term.proofs.FormedFormulas.{formed_bound, formed_extended, formed_taint, formed_value, raised}
use Rattle.cif_term.proofs.Values.{value-extended}
use Rattle.rule_select.specs.declared.moves.Moves.{Moves}
use Rattle.rule_select.specs.Moves.{wide_by}
use Rattle.rule_select.specs.Shifts.{shift_formula}
use Rattle.rule_select.specs.Windows.{places_from}
use Rattle.rule_select.proofs.Leaves.{extended_leaf, leaf_ignores, value-leaf_taint}
use Rattle.rule_select.proofs.MoveTrees.{IsMoving, move_tree, moving_formed, moving_tree}
use Rattle.rule_select.proofs.SingleOutputs.{taints_from}
use Rattle.rule_select.proofs.SelectOperands.{operand_by}
use Rattle.rule_select.proofs.PlacedParts.{value-first}
use Rattle.rule_select.proofs.ShiftCells.{IsShiftCell}
use Rattle.rule_select.proofs.TreeLaws.{differs, formed_tree, stages_cost, tree_bit, value-tree}
use Rattle.rule_select.proofs.WindowLaws.{formed_places}

-- the tree of a shift
abbrev pub shift_bit : Moves → Bool → ℕ → ℕ → List Word → Bool
shift_bit moves signed b = tree_bit (move_tree moves 1 b (λ j. wide_by moves) (extended_leaf 0 signed)) b

pub shift_value : (moves : Moves) (n a : ℕ) (signed : Bool) (b : ℕ) (vs ts : List Word) → IsMoving moves b (λ j. wide_by moves) → n ≤ wide_by moves → 1 ≤ a → map length vs ≡ a ∷ b ∷ [] → map length ts ≡ a ∷ b ∷ []
    → value_of (shift_formula moves n a signed b) vs ts [] ≡ word n (differs (shift_bit moves signed b) vs ts)
shift_value moves n a signed b vs ts g few some e q =
    let first = operand_by vs (a ∷ b ∷ []) 0 a e refl in
    let second = operand_by vs (a ∷ b ∷ []) 1 b e refl in
    let tainted = operand_by ts (a ∷ b ∷ []) 0 a q refl in
    value-tree (move_tree moves 1 b (λ j. wide_by moves) (extended_leaf 0 signed)) b vs ts [] (extended (wide_by moves) signed a (Value 0)) (extended (wide_by moves) signed a (Taint 0)) (Pick (Bound 0) (places_from 0 n)) _
    (moving_tree moves 1 b (λ j. wide_by moves) (extended_leaf 0 signed) vs ts g second.0 (let l : length (operand vs 1) ≡ b = second.1 in omega arith) (λ k i. leaf_ignores 0 signed 1 k i (λ o. absurd (omega arith))))
    (value-extended (wide_by moves) a signed (Value 0) vs ts [] first.1 some)
    (λ u. value-leaf_taint 0 (wide_by moves) a signed vs ts (u ∷ []) first.0 first.1 tainted.1 some)
    (λ named h. value-first (wide_by moves) n (differs (shift_bit moves signed b) vs ts) (Bound 0) vs ts named few h.taint)

-- stages of one width, of at most p pieces, cost alike
pub even_cost : (w p r j : ℕ) → pieces w ≤ p → stages_cost (λ i. w) r j ≤ 6 * p * r
even_cost w p zero j h = omega arith
even_cost w p (suc r) j h = let rest : stages_cost (λ i. w) r (suc j) ≤ 6 * p * r = even_cost w p r (suc j) h in omega arith

pub shift_formed : (moves : Moves) (n a : ℕ) (signed : Bool) (b p : ℕ) → IsMoving moves b (λ j. wide_by moves) → 1 ≤ n → n ≤ wide_by moves → wide_by moves ≤ 65536 → pieces (wide_by moves) ≤ p → 1 ≤ a → a ≤ 65536 → b ≤ 65536
    → IsFormed (shift_formula moves n a signed b) (a ∷ b ∷ []) [] n (6 * p * b)
shift_formed moves n a signed b p g some few wide narrow a_some a_few b_few =
    raised (6 * p * b) (formed_tree (move_tree moves 1 b (λ j. wide_by moves) (extended_leaf 0 signed)) b (a ∷ b ∷ []) [] _ _ (Pick (Bound 0) (places_from 0 n)) n 0
    (moving_formed moves 1 b b (λ j. wide_by moves) (extended_leaf 0 signed) (a ∷ b ∷ []) g refl (omega arith) b_few)
    (formed_extended (wide_by moves) a signed (formed_value _ [] 0 a refl a_some a_few) a_some (omega arith) wide)
    (λ u. formed_extended (wide_by moves) a signed (formed_taint _ (u ∷ []) 0 a refl a_some a_few) a_some (omega arith) wide)
    (λ named e h. formed_places 0 n (formed_bound _ named 0 (wide_by moves) h (omega arith) wide) (omega arith) some (omega arith)))
    (let cost : stages_cost (λ i. wide_by moves) b 0 ≤ 6 * p * b = even_cost (wide_by moves) p b 0 narrow in omega arith)

-- a cell with operands A and B whose output bits are those of a tree of shifts
pub shift_taints : (c : Cell) (limit : ℕ) (moves : Moves) (signed : Bool) (p : ℕ) → IsShiftCell c limit → limit ≤ 65536 → IsMoving moves (number_of c BWidth) (λ j. wide_by moves) → y_width c ≤ wide_by moves → wide_by moves ≤ 65536 → pieces (wide_by moves) ≤ p
    → ((us : List Word) → map length us ≡ number_of c AWidth ∷ number_of c BWidth ∷ [] → (i : ℕ) → i < y_width c → output_bit c 0 i us ≡ shift_bit moves signed (number_of c BWidth) i us)
    → 6 * p * number_of c BWidth ≤ weight c → AreTaintsOf c (shift_formula moves (y_width c) (number_of c AWidth) signed (number_of c BWidth) ∷ [])
shift_taints c limit moves signed p s large g few wide narrow same light =
    let a_few : number_of c AWidth ≤ limit = s.a_few in
    let b_few : number_of c BWidth ≤ 128 = s.b_few in
    taints_from c _ (number_of c AWidth ∷ number_of c BWidth ∷ []) (y_width c) (6 * p * number_of c BWidth) (shift_bit moves signed (number_of c BWidth)) (record {
      widths = s.widths;
      output = s.output;
      one = s.one;
      fine = s.fine;
      formed = shift_formed moves (y_width c) (number_of c AWidth) signed (number_of c BWidth) p g s.y_some few wide narrow s.a_some (omega arith) (omega arith);
      value = λ vs ts e q. shift_value moves (y_width c) (number_of c AWidth) signed (number_of c BWidth) vs ts g few s.a_some e q;
      gives = same;
    }) light
