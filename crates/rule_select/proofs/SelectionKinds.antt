-- The taint of $bmux, $demux and $lut.
use Rattle.std.specs.Prelude.{ℕ, zero, suc, ◌+◌, ◌-◌, ◌*◌, ◌/◌, ◌%◌, ◌^◌, ◌<◌, ◌≤◌, ◌≡◌, ◌≢◌, ◌==◌, nat_le, Bool, true, false, ◌&&◌, List, [], ◌∷◌, length, refl}
use Rattle.std.proofs.Common.{arith, sym, ap, ◌∙◌, inl, inr}
use Rattle.std.proofs.lemmas.Bool.Decides.{nat_tests}
use Rattle.std.proofs.lemmas.List.{get_or_past}
use Rattle.std.proofs.Math.Nat.{div-eq_of_lt-le, mod-add-div, mod-eq-sub-mul-div, mod-lt}
use Rattle.std.proofs.Math.Pow.{pow_mono}
use Rattle.cif_defs.specs.Words.{Word, bit, number, operand}
use Rattle.cif_defs.specs.Meanings.{bmux_word, demux_word, lut_word}
use Rattle.cif_defs.specs.declared.kinds.Kind.TheVariants.{Bmux, Demux, Lut}
use Rattle.cif_defs.specs.declared.kinds.Param.TheVariants.{SWidth}
use Rattle.cif_defs.specs.declared.kinds.Param.TheVariants.{Lut as LutTable}
use Rattle.cif_defs.specs.Kinds.{is_coarse}
use Rattle.cif_defs.specs.Table.{outputs_of}
use Rattle.cif_defs.specs.Cells.{Cell, digits_of, number_of, width, words_by}
use Rattle.cif_defs.specs.Fitted.{IsFitted}
use Rattle.cif_defs.specs.Weights.{weight, weight_by}
use Rattle.cif_defs.proofs.WordLaws.{bit-word, le_or_lt}
use Rattle.cif_term.specs.CellTaints.{AreTaintsOf}
use Rattle.rule_select.specs.Selections.{cell_bmux, cell_demux, cell_lut}
use Rattle.rule_select.proofs.BlockLaws.{block_all, block_tree, bmux_formed, bmux_value, demux_formed, demux_value, half_all, half_tree, lut_formed, lut_value, table_leaf}
use Rattle.rule_select.proofs.SingleOutputs.{taints_from}
use Rattle.rule_select.proofs.Leaves.{extended_leaf}
use Rattle.rule_select.proofs.SelectOperands.{operand_by}
use Rattle.rule_select.proofs.SelectionCells.{bmux_cell, bmux_output, bmux_widths, demux_cell, demux_output, demux_widths, lut_cell, lut_output, lut_widths}
use Rattle.rule_select.proofs.TreeLaws.{tree_bit}

-- ---- $bmux

pub bmux_gives : (n m : ℕ) (us : List Word) → length (operand us 1) ≡ m → (i : ℕ) → i < n → bit (bmux_word n (operand us 0) (operand us 1)) i ≡ tree_bit (half_tree n m 1 (extended_leaf 0 false)) m i us
bmux_gives n m us e i h =
    let place : number (operand us 1) * n + i ≡ i + n * number (operand us 1) = omega arith in
    bit-word n (λ k. bit (operand us 0) (number (operand us 1) * n + k)) i false h ∙ ap (bit (operand us 0)) place ∙ sym (half_all n m 1 (extended_leaf 0 false) us e i h)

pub bmux_taints : (c : Cell) → IsFitted c → c.kind ≡ Bmux → AreTaintsOf c (cell_bmux c ∷ [])
unfolding words_by weight_by outputs_of
bmux_taints c f e =
    let s = bmux_cell c f e in
    let heavy : weight c ≡ 16 * (number_of c SWidth + width c * 2 ^ number_of c SWidth / 4096) = ap (λ k. weight_by k c) e in
    let selects : number_of c SWidth ≤ 4096 = s.selects in
    taints_from c (cell_bmux c) (width c * 2 ^ number_of c SWidth ∷ number_of c SWidth ∷ []) (width c) (6 * (number_of c SWidth + width c * 2 ^ number_of c SWidth / 4096)) (tree_bit (half_tree (width c) (number_of c SWidth) 1 (extended_leaf 0 false)) (number_of c SWidth)) (record {
      widths = bmux_widths c f e;
      output = bmux_output c e;
      one = ap (λ k. length (outputs_of k)) e;
      fine = ap is_coarse e;
      formed = bmux_formed (width c) (number_of c SWidth) s.some s.few (omega arith);
      value = λ vs ts d q. bmux_value (width c) (number_of c SWidth) vs ts s.some s.few d q;
      gives = λ us d i h. ap (λ k. bit (operand (words_by k c us) 0) i) e ∙ bmux_gives (width c) (number_of c SWidth) us (operand_by us _ 1 (number_of c SWidth) d refl).1 i h;
    }) (omega arith)

-- ---- $demux

-- a place of block x is past x blocks, and below the next
block_inside : (n x i : ℕ) (f : ℕ → Bool) → n * x ≤ i → i < n * x + n → (i / n == x && f (i % n)) ≡ (nat_le (n * x) i && f (i - n * x))
block_inside n x i f h l =
    let at : i / n ≡ x = div-eq_of_lt-le n (omega arith) (omega arith) in
    let rest : i % n ≡ i - n * x = mod-eq-sub-mul-div i n ∙ ap (λ k. i - n * k) at in
    let test : (i / n == x) ≡ true = grind (arith, nat_tests) in
    let inside : nat_le (n * x) i ≡ true = grind (arith, nat_tests) in
    ap (λ b. b && f (i % n)) test ∙ ap f rest ∙ sym (ap (λ b. b && f (i - n * x)) inside)

block_under : (n x i : ℕ) (f : ℕ → Bool) → i < n * x → (i / n == x && f (i % n)) ≡ (nat_le (n * x) i && f (i - n * x))
block_under n x i f h =
    let parts : i % n + n * (i / n) ≡ i = mod-add-div i n in
    let other : i / n ≢ x = λ e. absurd (let same : n * (i / n) ≡ n * x = ap (λ k. n * k) e in omega arith) in
    let test : (i / n == x) ≡ false = grind (arith, nat_tests) in
    let below : nat_le (n * x) i ≡ false = grind (arith, nat_tests) in
    ap (λ b. b && f (i % n)) test ∙ sym (ap (λ b. b && f (i - n * x)) below)

block_over : (n x i : ℕ) (f : ℕ → Bool) → 1 ≤ n → n * x + n ≤ i → f (i - n * x) ≡ false → (i / n == x && f (i % n)) ≡ (nat_le (n * x) i && f (i - n * x))
block_over n x i f some h past =
    let parts : i % n + n * (i / n) ≡ i = mod-add-div i n in
    let small : i % n < n = mod-lt i (omega arith) in
    let other : i / n ≢ x = λ e. absurd (let same : n * (i / n) ≡ n * x = ap (λ k. n * k) e in omega arith) in
    let test : (i / n == x) ≡ false = grind (arith, nat_tests) in
    let inside : nat_le (n * x) i ≡ true = grind (arith, nat_tests) in
    ap (λ b. b && f (i % n)) test ∙ sym (ap (λ b. b && f (i - n * x)) inside ∙ past)

pub block_place : (n x i : ℕ) (f : ℕ → Bool) → 1 ≤ n → ((k : ℕ) → n ≤ k → f k ≡ false) → (i / n == x && f (i % n)) ≡ (nat_le (n * x) i && f (i - n * x))
block_place n x i f some past = elim (le_or_lt i (n * x)) [
  | inl h ↦ block_under n x i f h
  | inr h ↦ elim (le_or_lt i (n * x + n)) [
    | inl l ↦ block_inside n x i f h l
    | inr l ↦ block_over n x i f some l (past (i - n * x) (omega arith))
  ]
]

pub demux_gives : (n m : ℕ) (us : List Word) → 1 ≤ n → length (operand us 0) ≡ n → length (operand us 1) ≡ m → (i : ℕ) → i < n * 2 ^ m → bit (demux_word n m (operand us 0) (operand us 1)) i ≡ tree_bit (block_tree n m) m i us
demux_gives n m us some d e i h =
    bit-word (n * 2 ^ m) (λ k. k / n == number (operand us 1) && bit (operand us 0) (k % n)) i false h
    ∙ block_place n (number (operand us 1)) i (bit (operand us 0)) some (λ k l. get_or_past (operand us 0) k false (omega arith)) ∙ sym (block_all n m us d e i h)

pub demux_taints : (c : Cell) → IsFitted c → c.kind ≡ Demux → AreTaintsOf c (cell_demux c ∷ [])
unfolding words_by weight_by outputs_of
demux_taints c f e =
    let s = demux_cell c f e in
    let heavy : weight c ≡ 24 * (number_of c SWidth + width c * 2 ^ number_of c SWidth / 4096) = ap (λ k. weight_by k c) e in
    let selects : number_of c SWidth ≤ 4096 = s.selects in
    taints_from c (cell_demux c) (width c ∷ number_of c SWidth ∷ []) (width c * 2 ^ number_of c SWidth) (6 * number_of c SWidth + 12 * (width c * 2 ^ number_of c SWidth / 4096)) (tree_bit (block_tree (width c) (number_of c SWidth)) (number_of c SWidth)) (record {
      widths = demux_widths c f e;
      output = demux_output c e;
      one = ap (λ k. length (outputs_of k)) e;
      fine = ap is_coarse e;
      formed = demux_formed (width c) (number_of c SWidth) s.some s.few (omega arith);
      value = λ vs ts d q. demux_value (width c) (number_of c SWidth) vs ts s.some s.few d q;
      gives = λ us d i h. ap (λ k. bit (operand (words_by k c us) 0) i) e
          ∙ demux_gives (width c) (number_of c SWidth) us s.some (operand_by us _ 0 (width c) d refl).1 (operand_by us _ 1 (number_of c SWidth) d refl).1 i h;
    }) (omega arith)

-- ---- $lut

lut_gives : (table : Word) (m : ℕ) (us : List Word) → length (operand us 0) ≡ m → (i : ℕ) → i < 1 → bit (lut_word table (operand us 0)) i ≡ tree_bit (half_tree 1 m 0 (table_leaf table)) m i us
lut_gives table m us e zero h =
    let place : number (operand us 0) ≡ 0 + 1 * number (operand us 0) = omega arith in
    bit-word 1 (λ k. k == 0 && bit table (number (operand us 0))) 0 false h ∙ ap (bit table) place ∙ sym (half_all 1 m 0 (table_leaf table) us e 0 h)
lut_gives table m us e (suc i) h = absurd (omega arith)

pub lut_taints : (c : Cell) → IsFitted c → c.kind ≡ Lut → AreTaintsOf c (cell_lut c ∷ [])
unfolding words_by weight_by outputs_of
lut_taints c f e =
    let s = lut_cell c f e in
    let few : width c ≤ 12 = s.few in
    let some : 1 ≤ width c = s.some in
    let heavy : weight c ≡ 16 * width c = ap (λ k. weight_by k c) e in
    let power : 2 ^ width c ≤ 2 ^ 12 = pow_mono few in
    taints_from c (cell_lut c) (width c ∷ []) 1 (6 * (width c + 1)) (tree_bit (half_tree 1 (width c) 0 (table_leaf (digits_of c LutTable))) (width c)) (record {
      widths = lut_widths c f e;
      output = lut_output c e;
      one = ap (λ k. length (outputs_of k)) e;
      fine = ap is_coarse e;
      formed = lut_formed (digits_of c LutTable) (width c) (omega arith) (omega arith);
      value = λ vs ts d q. lut_value (digits_of c LutTable) (width c) vs ts (omega arith) d;
      gives = λ us d i h. ap (λ k. bit (operand (words_by k c us) 0) i) e ∙ lut_gives (digits_of c LutTable) (width c) us (operand_by us _ 0 (width c) d refl).1 i h;
    }) (omega arith)
