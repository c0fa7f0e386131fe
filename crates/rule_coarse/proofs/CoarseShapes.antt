-- Cells of the coarse kinds, and what makes a formula the taint of such a cell.
use Rattle.std.specs.Prelude.{ℕ, ◌+◌, ◌<◌, ◌≤◌, ◌≡◌, ◌≢◌, Bool, true, false, List, [], ◌∷◌, map, length, get_or, if◌then◌else◌, Some}
use Rattle.std.proofs.Common.{arith, sym, ap, ◌∙◌}
use Rattle.std.proofs.lemmas.Bool.Decides.{nat_tests}
use Rattle.cif_defs.specs.Words.{Word, bit}
use Rattle.cif_defs.specs.Kinds.{is_coarse}
use Rattle.cif_defs.specs.Cells.{Cell, coarse_by, number_of, y_width}
use Rattle.cif_defs.specs.Table.{a_row, b_row, y_row, operands_of, outputs_of, width_limit}
use Rattle.cif_defs.specs.Taint.{output_bit, output_taint}
use Rattle.cif_defs.specs.Completions.{can_differ}
use Rattle.cif_defs.specs.Fitted.{IsFitted, IsWithin, operand_widths, row_width}
use Rattle.cif_defs.specs.Weights.{weight}
use Rattle.cif_defs.specs.declared.kinds.Kind.{Kind}
use Rattle.cif_defs.specs.declared.kinds.Kind.TheVariants.{Mem}
use Rattle.cif_defs.specs.declared.kinds.Param.TheVariants.{AWidth, BWidth}
use Rattle.cif_defs.specs.declared.kinds.PortRow.{PortRow}
use Rattle.cif_defs.proofs.WordLaws.{bit-word, length-word, same_words}
use Rattle.cif_term.specs.declared.ops.Op1.{Op1}
use Rattle.cif_term.specs.declared.ops.Op1.TheVariants.{Not, ReduceAnd, ReduceOr, ReduceXor}
use Rattle.cif_term.specs.declared.ops.Op2.{Op2}
use Rattle.cif_term.specs.declared.ops.Op2.TheVariants.{And, Or, Xor, Add, Mul, Div, LessUnsigned, LessSigned, Equal}
use Rattle.cif_term.specs.Formulas.{Formula, One, Two, Choose, IsFormed, cost_of, joined_pieces, one_cost, one_width, pieces, two_cost, two_width, value_of, width_of}
use Rattle.cif_term.specs.CellTaints.{output_width, taint_word}
use Rattle.cif_term.specs.Extended.{extended}
use Rattle.cif_term.proofs.FormedFormulas.{formed_choose, formed_extended, formed_one, formed_two, pieces_narrow, raised}
use Rattle.rule_logic.proofs.LogicTaints.{IsRule}
use Rattle.rule_logic.proofs.Shapes.{HasRows, has_rows, two_words}

-- ---- cells

-- a width from 1 to 128
pub record IsShort (n : ℕ) : Type 0 where
  pub some : 1 ≤ n
  pub limit : n ≤ 128

-- a cell with operands A and B and the output Y, all of them short
pub record IsNumeric (c : Cell) : Type 0 where
  pub widths : operand_widths c ≡ number_of c AWidth ∷ number_of c BWidth ∷ []
  pub a : IsShort (number_of c AWidth)
  pub b : IsShort (number_of c BWidth)
  pub y : IsShort (y_width c)
  pub output : output_width c 0 ≡ y_width c

short : (c : Cell) (k : Kind) (r : PortRow) → c.kind ≡ k → width_limit k r.port ≡ 128 → IsWithin c r → IsShort (row_width c r)
short c k r e l w =
    let same : width_limit c.kind r.port ≡ 128 = ap (λ x. width_limit x r.port) e ∙ l in
    let bound : row_width c r ≤ width_limit c.kind r.port = w.limit in
    record { some = w.some; limit = omega (arith, same, bound) }

pub numeric : (c : Cell) (k : Kind) → c.kind ≡ k → k ≢ Mem → operands_of k ≡ a_row ∷ b_row ∷ [] → outputs_of k ≡ y_row ∷ []
    → width_limit k a_row.port ≡ 128 → width_limit k b_row.port ≡ 128 → width_limit k y_row.port ≡ 128 → IsFitted c → IsNumeric c
numeric c k e h a b la lb ly f =
    let r : HasRows c (a_row ∷ b_row ∷ []) (y_row ∷ []) = has_rows c k (a_row ∷ b_row ∷ []) (y_row ∷ []) e h a b f in
    let i = r.within in let o = r.outputs_within in
    record { widths = r.widths; a = short c k a_row e la i.0; b = short c k b_row e lb (let j = i.1 in j.0); y = short c k y_row e ly o.0; output = ap (λ rows. get_or (map (row_width c) rows) 0 0) r.output_rows }

-- ---- forms: each operation on short words costs one cell

joined_small : (p : ℕ) → p ≤ 1 → joined_pieces p ≤ 1
joined_small p h = grind (arith, nat_tests)

small_one : (op : Op1) (n : ℕ) → n ≤ 128 → one_cost op n ≤ 1
small_one Not n h = pieces_narrow n (omega arith)
small_one ReduceAnd n h = joined_small (pieces n) (pieces_narrow n (omega arith))
small_one ReduceOr n h = joined_small (pieces n) (pieces_narrow n (omega arith))
small_one ReduceXor n h = joined_small (pieces n) (pieces_narrow n (omega arith))

small_two : (op : Op2) (n : ℕ) → n ≤ 128 → two_cost op n ≤ 1
small_two And n h = pieces_narrow n (omega arith)
small_two Or n h = pieces_narrow n (omega arith)
small_two Xor n h = pieces_narrow n (omega arith)
small_two Add n h = pieces_narrow n (omega arith)
small_two Mul n h = pieces_narrow n (omega arith)
small_two Div n h = pieces_narrow n (omega arith)
small_two LessUnsigned n h = pieces_narrow n (omega arith)
small_two LessSigned n h = pieces_narrow n (omega arith)
small_two Equal n h = joined_small (pieces n) (pieces_narrow n (omega arith))

pub one_short : {f : Formula} {ws named : List ℕ} {n k : ℕ} (op : Op1) (i : ℕ) → IsShort n → IsFormed f ws named n k → k + 1 ≤ i → IsFormed (One op f) ws named (one_width op n) i
one_short {n = n} op i y a l = let p = small_one op n y.limit in raised i (formed_one op a) (omega arith)

pub two_short : {f g : Formula} {ws named : List ℕ} {n j k : ℕ} (op : Op2) (i : ℕ) → IsShort n → IsFormed f ws named n j → IsFormed g ws named n k → j + k + 1 ≤ i → IsFormed (Two op f g) ws named (two_width op n) i
two_short {n = n} op i y a b l = let p = small_two op n y.limit in raised i (formed_two op a b (λ q. y.limit)) (omega arith)

pub choose_short : {s f g : Formula} {ws named : List ℕ} {n j k l : ℕ} (i : ℕ) → IsShort n → IsFormed s ws named 1 j → IsFormed f ws named n k → IsFormed g ws named n l → j + k + l + 1 ≤ i → IsFormed (Choose s f g) ws named n i
choose_short {n = n} i y s a b l = let u = y.limit in let p = pieces_narrow n (omega arith) in raised i (formed_choose s a b y.some) (omega arith)

pub extended_short : {f : Formula} {ws named : List ℕ} {k : ℕ} (n m : ℕ) (signed : Bool) → IsShort n → IsShort m → IsFormed f ws named m k → IsFormed (extended n signed m f) ws named n k
extended_short n m signed y a h = let u = y.limit in formed_extended n m signed h a.some y.some (omega arith)

pub one_bit : IsShort 1
one_bit = record { some = omega arith; limit = omega arith }

-- ---- the taint of an output

-- the coarse taint of a kind is its taint word
pub coarse_taint : (c : Cell) (vs ts : List Word) (w : Word) → is_coarse c.kind ≡ true → coarse_by c.kind c vs ts ≡ w → length w ≡ output_width c 0 → w ≡ taint_word c vs ts 0
coarse_taint c vs ts w coarse e long = same_words w (taint_word c vs ts 0) (long ∙ sym (length-word (output_width c 0) _))
    (λ i h. let l : i < output_width c 0 = omega (arith, long) in
    sym (ap (λ (x : Word). bit x i) e) ∙ sym (ap (λ b. if b then bit (coarse_by c.kind c vs ts) i else can_differ (output_bit c 0 i) vs ts) coarse)
    ∙ sym (bit-word (output_width c 0) (λ k. output_taint c 0 k vs ts) i false l))

-- a formula that gives the word of a kind's coarse taint, and costs at most k
pub coarse_rule : (c : Cell) (f : Formula) (k : ℕ) (row : List Word → List Word → Word) → IsNumeric c → IsFormed f (number_of c AWidth ∷ number_of c BWidth ∷ []) [] (y_width c) k → k ≤ weight c
    → is_coarse c.kind ≡ true → ((vs ts : List Word) → coarse_by c.kind c vs ts ≡ row vs ts) → ((vs ts : List Word) → length (row vs ts) ≡ y_width c)
    → ((v w x z : Word) → length v ≡ number_of c AWidth → length w ≡ number_of c BWidth → length x ≡ number_of c AWidth → length z ≡ number_of c BWidth
    → value_of f (v ∷ w ∷ []) (x ∷ z ∷ []) [] ≡ row (v ∷ w ∷ []) (x ∷ z ∷ [])) → IsRule c f
coarse_rule c f k row u formed l coarse is long value = record {
  taint = record {
    formed = ap (λ ws. width_of f ws []) u.widths ∙ formed.width ∙ ap (λ n. Some n) (sym u.output);
    means = λ vs ts a b. two_words (λ us. value_of f us ts [] ≡ taint_word c us ts 0) (number_of c AWidth) (number_of c BWidth)
        (λ v w p q. two_words (λ us. value_of f (v ∷ w ∷ []) us [] ≡ taint_word c (v ∷ w ∷ []) us 0) (number_of c AWidth) (number_of c BWidth)
        (λ x z r s. value v w x z p q r s ∙ coarse_taint c (v ∷ w ∷ []) (x ∷ z ∷ []) (row (v ∷ w ∷ []) (x ∷ z ∷ [])) coarse (is (v ∷ w ∷ []) (x ∷ z ∷ [])) (long (v ∷ w ∷ []) (x ∷ z ∷ []) ∙ sym u.output))
        ts (b ∙ u.widths)) vs (a ∙ u.widths);
  };
  cost = (let bound : cost_of f (number_of c AWidth ∷ number_of c BWidth ∷ []) [] ≤ k = formed.cost in
      let same : cost_of f (operand_widths c) [] ≡ cost_of f (number_of c AWidth ∷ number_of c BWidth ∷ []) [] = ap (λ ws. cost_of f ws []) u.widths in omega arith);
}
