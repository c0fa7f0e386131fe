-- The formula of $pmux computes its exact taint.
use Rattle.std.specs.Prelude.{ℕ, zero, suc, ◌+◌, ◌-◌, ◌*◌, ◌/◌, ◌%◌, ◌<◌, ◌≤◌, ◌≡◌, Bool, true, false, List, [], ◌∷◌, ◌++◌, length, map, position, slice_get, Some, refl}
use Rattle.std.proofs.Common.{arith, sym, ap, ◌∙◌}
use Rattle.std.proofs.Math.Nat.{mul-le-mul_right}
use Rattle.cif_defs.specs.Words.{Word, bit, operand, word}
use Rattle.cif_defs.specs.Meanings.{pmux_bit}
use Rattle.cif_defs.specs.declared.kinds.Kind.TheVariants.{Pmux}
use Rattle.cif_defs.specs.declared.kinds.Param.TheVariants.{SWidth}
use Rattle.cif_defs.specs.Kinds.{is_coarse}
use Rattle.cif_defs.specs.Table.{outputs_of}
use Rattle.cif_defs.specs.Cells.{Cell, number_of, width, words_by}
use Rattle.cif_defs.specs.Fitted.{IsFitted}
use Rattle.cif_defs.specs.Weights.{weight, weight_by}
use Rattle.cif_defs.proofs.Numbers.{word-same}
use Rattle.cif_defs.proofs.WordLaws.{bit-word}
use Rattle.cif_term.specs.Formulas.{Bound, Formula, IsFormed, value_of}
use Rattle.cif_term.specs.CellTaints.{AreTaintsOf}
use Rattle.cif_term.proofs.FormedFormulas.{formed_bound, formed_join, formed_let, formed_taint, formed_value, pieces_narrow, raised}
use Rattle.rule_select.specs.declared.moves.Moves.TheVariants.{Chain}
use Rattle.rule_select.specs.Moves.{block_of, order_by, parts_by}
use Rattle.rule_select.specs.Offsets.{pair_of, pair_taint, pair_value}
use Rattle.rule_select.specs.Chains.{cell_pmux, chain_group, chain_groups, group_size, pmux_formula}
use Rattle.rule_select.proofs.SingleOutputs.{taints_from}
use Rattle.rule_select.proofs.ChainBits.{chain_all, chain_tree}
use Rattle.rule_select.proofs.ChoiceTaints.{bit_differs, reads_other}
use Rattle.rule_select.proofs.Leaves.{extended_leaf, leaf_ignores, value-plain, value-plain_taint}
use Rattle.rule_select.proofs.SelectOperands.{operand_by}
use Rattle.rule_select.proofs.SideBySide.{formed_pair, value-high, value-low, value-pair}
use Rattle.rule_select.proofs.SelectionCells.{pmux_cell, pmux_output, pmux_widths}
use Rattle.rule_select.proofs.ShiftTaints.{even_cost}
use Rattle.rule_select.proofs.TreeLaws.{IsFormedTree, IsPart, IsTree, Tree, differs, formed_staged, stages_cost, tree_bit, value-staged}
use Rattle.rule_select.proofs.WindowLaws.{formed_places, picked-from}

-- ---- the parts

-- a block of operand 1 lies inside it
block_room : (n m k : ℕ) → k < m → k * n + n ≤ n * m
block_room n m k h = let more : (k + 1) * n ≤ m * n = mul-le-mul_right n (omega arith) in omega arith

chain_part : (n m j : ℕ) (one : Bool) (vs ts : List Word) → j < m → 1 < length vs → length (operand vs 1) ≡ n * m → IsPart (chain_tree n m) j one vs ts
unfolding parts_by order_by
chain_part n m j true vs ts h there e = record {
  value = λ f x named q. picked-from ((m - suc j) * n) n (operand vs 1);
  taint = λ f x named q. picked-from ((m - suc j) * n) n (operand ts 1) ∙ word-same n _ _ (λ i l.
      let room : (m - suc j) * n + n ≤ n * m = block_room n m (m - suc j) (omega arith) in
      sym (bit_differs 1 ((m - suc j) * n + i) vs ts there (omega arith)));
  ignores = λ f k g i. reads_other 2 k 1 ((m - suc j) * n + i) (λ o. absurd (omega arith));
}
chain_part n m j false vs ts h there e = record { value = λ f x named q. q; taint = λ f x named q. q; ignores = λ f k g i. g i }

chain_is : (n m : ℕ) (vs ts : List Word) → map length vs ≡ n ∷ n * m ∷ m ∷ [] → IsTree (chain_tree n m) m vs ts
unfolding order_by
chain_is n m vs ts e =
    let blocks = operand_by vs (n ∷ n * m ∷ m ∷ []) 1 (n * m) e refl in
    let selects = operand_by vs (n ∷ n * m ∷ m ∷ []) 2 m e refl in
    let long : length (operand vs 2) ≡ m = selects.1 in
    record {
      there = selects.0;
      within = λ j h. omega arith;
      apart = λ j k l h q. absurd (omega arith);
      leaf_ignores = λ k i. leaf_ignores 0 false 2 k i (λ o. absurd (omega arith));
      part = λ j one h. chain_part n m j one vs ts h blocks.0 blocks.1;
    }

fewer_stages : (t : Tree) (m k : ℕ) (vs ts : List Word) → k ≤ m → IsTree t m vs ts → IsTree t k vs ts
fewer_stages t m k vs ts h g = record {
  there = g.there;
  within = λ j l. g.within j (omega arith);
  apart = λ i j l q. g.apart i j l (omega arith);
  leaf_ignores = g.leaf_ignores;
  part = λ j one l. g.part j one (omega arith);
}

-- ---- groups

-- the word and the taint after j stages
abbrev pair_at : ℕ → ℕ → ℕ → List Word → List Word → Word
pair_at n m j vs ts = word n (λ i. tree_bit (chain_tree n m) j i vs) ++ word n (differs (tree_bit (chain_tree n m) j) vs ts)

group_value : (n m r j : ℕ) (vs ts named : List Word) → IsTree (chain_tree n m) m vs ts → j + r ≤ m → operand named 0 ≡ pair_at n m j vs ts → value_of (chain_group n m r j) vs ts named ≡ pair_at n m (j + r) vs ts
group_value n m r j vs ts named g h e =
    let value : Word = value_of (pair_value n (Bound 0)) vs ts named in
    let taint : Word = value_of (pair_taint n (Bound 1)) vs ts (value ∷ named) in
    value-staged (chain_tree n m) (j + r) vs ts (pair_of n) (pair_at n m (j + r) vs ts) (fewer_stages (chain_tree n m) m (j + r) vs ts h g)
    (λ inner d. value-pair (chain_tree n m) (j + r) n vs ts inner (omega arith) d) r j (taint ∷ value ∷ named) refl
    (record { value = value-low n _ _ (Bound 0) vs ts named e; taint = value-high n _ _ (Bound 1) vs ts (value ∷ named) e })

groups_value : (n m r g j : ℕ) (vs ts named : List Word) → IsTree (chain_tree n m) m vs ts → j + g * r ≡ m → operand named 0 ≡ pair_at n m j vs ts
    → value_of (chain_groups n m r g j) vs ts named ≡ word n (differs (tree_bit (chain_tree n m) m) vs ts)
groups_value n m r zero j vs ts named t h e = let all : j ≡ m = omega arith in value-high n _ _ (Bound 0) vs ts named e ∙ ap (λ k. word n (differs (tree_bit (chain_tree n m) k) vs ts)) all
groups_value n m r (suc g) j vs ts named t h e = groups_value n m r g (j + r) vs ts _ t (omega arith) (group_value n m r j vs ts named t (omega arith) e)

pmux_value : (n m : ℕ) (vs ts : List Word) → 1 ≤ n → map length vs ≡ n ∷ n * m ∷ m ∷ [] → map length ts ≡ n ∷ n * m ∷ m ∷ [] → value_of (pmux_formula n m) vs ts [] ≡ word n (differs (tree_bit (chain_tree n m) m) vs ts)
pmux_value n m vs ts some e q =
    let first = operand_by vs (n ∷ n * m ∷ m ∷ []) 0 n e refl in
    let tainted = operand_by ts (n ∷ n * m ∷ m ∷ []) 0 n q refl in
    let tree = chain_is n m vs ts e in
    let start : Word = operand vs 0 ++ operand ts 0 in
    let start_is : start ≡ pair_at n m 0 vs ts =
    ap (λ (w : Word). w ++ operand ts 0) (value-plain 0 n vs ts [] first.1) ∙ ap (λ (w : Word). word n (λ i. extended_leaf 0 false i vs) ++ w) (value-plain_taint 0 n vs ts [] first.0 first.1 tainted.1 some) in
    let rest : 0 + m % group_size ≡ m % group_size = omega arith in
    let first_is : value_of (chain_group n m (m % group_size) 0) vs ts (start ∷ []) ≡ pair_at n m (m % group_size) vs ts =
    group_value n m (m % group_size) 0 vs ts (start ∷ []) tree (omega arith) start_is ∙ ap (λ k. pair_at n m k vs ts) rest in
    groups_value n m group_size (m / group_size) (m % group_size) vs ts _ tree (omega arith) first_is

-- ---- how it is formed

block_formed : (n m k : ℕ) (tainted : Bool) (named : List ℕ) → 1 ≤ n → n ≤ 65536 → n * m ≤ 65536 → k < m → IsFormed (block_of n k tainted) (n ∷ n * m ∷ m ∷ []) named n 0
block_formed n m k true named some narrow few h =
    let room : k * n + n ≤ n * m = block_room n m k h in
    formed_places (k * n) n (formed_taint (n ∷ n * m ∷ m ∷ []) named 1 (n * m) refl (omega arith) few) room some narrow
block_formed n m k false named some narrow few h =
    let room : k * n + n ≤ n * m = block_room n m k h in
    formed_places (k * n) n (formed_value (n ∷ n * m ∷ m ∷ []) named 1 (n * m) refl (omega arith) few) room some narrow

part_formed : (n m k : ℕ) (one tainted : Bool) (x : Formula) (named : List ℕ) → 1 ≤ n → n ≤ 65536 → n * m ≤ 65536 → k < m → IsFormed x (n ∷ n * m ∷ m ∷ []) named n 0 → IsFormed (parts_by (Chain n) k one tainted x) (n ∷ n * m ∷ m ∷ []) named n 0
unfolding parts_by
part_formed n m k true tainted x named some narrow few h f = block_formed n m k tainted named some narrow few h
part_formed n m k false tainted x named some narrow few h f = f

chain_formed : (n m k : ℕ) → 1 ≤ n → n ≤ 65536 → n * m ≤ 65536 → m ≤ 65536 → k ≤ m → IsFormedTree (chain_tree n m) k (n ∷ n * m ∷ m ∷ [])
unfolding order_by
chain_formed n m k some narrow few selects h = record {
  select_width = m;
  select_there = refl;
  select_few = selects;
  within = λ j l. omega arith;
  wide_some = λ j l. some;
  wide_few = λ j l. narrow;
  part = λ j one tainted x named l f. part_formed n m (m - suc j) one tainted x named some narrow few (omega arith) f;
}

group_formed : (n m r j : ℕ) (named : List ℕ) → 1 ≤ n → n ≤ 4096 → n * m ≤ 65536 → m ≤ 65536 → j + r ≤ m → slice_get named 0 ≡ Some (n + n) → IsFormed (chain_group n m r j) (n ∷ n * m ∷ m ∷ []) named (n + n) (6 * r)
group_formed n m r j named some narrow few selects h e =
    let ws : List ℕ = n ∷ n * m ∷ m ∷ [] in
    let value = formed_places 0 n (formed_bound ws named 0 (n + n) e (omega arith) (omega arith)) (omega arith) some (omega arith) in
    let taint = formed_places n n (formed_bound ws (n ∷ named) 1 (n + n) e (omega arith) (omega arith)) (omega arith) some (omega arith) in
    let rest = formed_staged (chain_tree n m) (j + r) ws (pair_of n) (n + n) 0 (chain_formed n m (j + r) some (omega arith) few selects h)
    (λ inner a b. formed_pair n n ws inner a b some (omega arith) (omega arith) (omega arith)) r j (n ∷ n ∷ named) refl refl refl in
    let cost : stages_cost (λ i. n) r j ≤ 6 * 1 * r = even_cost n 1 r j (pieces_narrow n narrow) in
    raised (6 * r) (formed_let value (formed_let taint rest)) (omega arith)

groups_formed : (n m r g j : ℕ) (named : List ℕ) → 1 ≤ n → n ≤ 4096 → n * m ≤ 65536 → m ≤ 65536 → j + g * r ≤ m → slice_get named 0 ≡ Some (n + n) → IsFormed (chain_groups n m r g j) (n ∷ n * m ∷ m ∷ []) named n (6 * (g * r))
groups_formed n m r zero j named some narrow few selects h e =
    raised (6 * (0 * r)) (formed_places n n (formed_bound (n ∷ n * m ∷ m ∷ []) named 0 (n + n) e (omega arith) (omega arith)) (omega arith) some (omega arith)) (omega arith)
groups_formed n m r (suc g) j named some narrow few selects h e =
    raised (6 * (suc g * r)) (formed_let (group_formed n m r j named some narrow few selects (omega arith) e) (groups_formed n m r g (j + r) ((n + n) ∷ named) some narrow few selects (omega arith) refl)) (omega arith)

pmux_formed : (n m : ℕ) → 1 ≤ n → n ≤ 4096 → n * m ≤ 65536 → m ≤ 65536 → IsFormed (pmux_formula n m) (n ∷ n * m ∷ m ∷ []) [] n (6 * m)
pmux_formed n m some narrow few selects =
    let ws : List ℕ = n ∷ n * m ∷ m ∷ [] in
    let start = formed_join (formed_value ws [] 0 n refl some (omega arith)) (formed_taint ws [] 0 n refl some (omega arith)) (omega arith) (omega arith) in
    let first = group_formed n m (m % group_size) 0 ((n + n) ∷ []) some narrow few selects (omega arith) refl in
    let rest = groups_formed n m group_size (m / group_size) (m % group_size) ((n + n) ∷ (n + n) ∷ []) some narrow few selects (omega arith) refl in
    raised (6 * m) (formed_let start (formed_let first rest)) (omega arith)

-- ---- the cell

pub pmux_taints : (c : Cell) → IsFitted c → c.kind ≡ Pmux → AreTaintsOf c (cell_pmux c ∷ [])
unfolding words_by weight_by outputs_of
pmux_taints c f e =
    let s = pmux_cell c f e in
    let heavy : weight c ≡ 12 * number_of c SWidth = ap (λ k. weight_by k c) e in
    let selects : number_of c SWidth ≤ 4096 = s.selects in
    taints_from c (cell_pmux c) (width c ∷ width c * number_of c SWidth ∷ number_of c SWidth ∷ []) (width c) (6 * number_of c SWidth) (tree_bit (chain_tree (width c) (number_of c SWidth)) (number_of c SWidth)) (record {
      widths = pmux_widths c f e;
      output = pmux_output c e;
      one = ap (λ k. length (outputs_of k)) e;
      fine = ap is_coarse e;
      formed = pmux_formed (width c) (number_of c SWidth) s.some s.narrow s.few (omega arith);
      value = λ vs ts d q. pmux_value (width c) (number_of c SWidth) vs ts s.some d q;
      gives = λ us d i h. ap (λ k. bit (operand (words_by k c us) 0) i) e
          ∙ bit-word (width c) (λ x. pmux_bit (width c) (operand us 0) (operand us 1) x (position (λ b. b) (operand us 2))) i false h
          ∙ sym (chain_all (width c) (number_of c SWidth) us (operand_by us _ 2 (number_of c SWidth) d refl).1 i);
    }) (omega arith)
