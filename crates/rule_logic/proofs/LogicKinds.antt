-- Each kind in turn: its formula, exact and within its weight.
use Rattle.std.specs.Prelude.{ℕ, ◌+◌, ◌≤◌, ◌≡◌, Bool, true, not, ◌&&◌, ◌||◌, List, [], ◌∷◌, length, slice_get, Some, refl}
use Rattle.std.proofs.Common.{arith, ap}
use Rattle.std.proofs.lemmas.Bool.Decides.{nat_tests}
use Rattle.cif_defs.specs.Coarse.{max_word, min_word}
use Rattle.cif_defs.specs.Words.{Word, bit, word, extended_bit, has_one, is_all_ones, operand, parity, xor}
use Rattle.cif_defs.specs.Kinds.{is_coarse}
use Rattle.cif_defs.specs.Cells.{Cell, number_of, y_width, both_signed, words_by}
use Rattle.cif_defs.specs.Table.{operands_of, outputs_of, width_limit}
use Rattle.cif_defs.specs.Taint.{output_bit}
use Rattle.cif_defs.specs.Fitted.{IsFitted}
use Rattle.cif_defs.specs.Weights.{weight, weight_by}
use Rattle.cif_defs.specs.declared.kinds.Kind.{Kind}
use Rattle.cif_defs.specs.declared.kinds.Kind.TheVariants.{Not as NotKind, Pos, And as AndKind, Or as OrKind, Xor as XorKind, Xnor, ReduceAnd as ReduceAndKind, ReduceOr as ReduceOrKind, ReduceXor as ReduceXorKind, ReduceXnor, ReduceBool, LogicNot, LogicAnd, LogicOr}
use Rattle.cif_defs.specs.declared.kinds.Param.TheVariants.{AWidth, BWidth}
use Rattle.cif_term.specs.declared.ops.Op1.TheVariants.{Not, ReduceAnd, ReduceOr}
use Rattle.cif_term.specs.declared.ops.Op2.TheVariants.{And, Or}
use Rattle.cif_term.specs.Formulas.{Formula, Value, Taint, One, Two, IsFormed, joined_pieces, pieces, value_of}
use Rattle.cif_term.proofs.FormedFormulas.{formed_one, formed_taint, formed_value, pieces_narrow, raised}
use Rattle.cif_term.proofs.Values.{value-and, value-not, value-or}
use Rattle.rule_logic.specs.LogicFormulas.{and_formula, either_formula, is_binary, is_unary, logic_and_formula, logic_or_formula, max_formula, min_formula, or_formula, reduce_and_formula, reduce_or_formula, reduce_xor_formula, flag_formula, spread}
use Rattle.rule_logic.proofs.BitRules.{and_rule, and_table, either_rule, not_table, or_rule, or_table, same_table, xnor_bits, xnor_table, xor_table}
use Rattle.rule_logic.proofs.Flags.{both_grow, complement_exact, either_grows, not_parity_exact, ones_grows, parity_exact, some_grows, spread_exact}
use Rattle.rule_logic.proofs.LogicValues.{value-both, value-either, value-max, value-min, value-ones, value-some, value-spread}
use Rattle.rule_logic.proofs.Shapes.{IsPlain}
use Rattle.rule_logic.proofs.LogicTaints.{AreExtended, IsBinary, IsRule, IsUnary, binary, flag_bits, formed_a, formed_b, formed_ta, formed_tb, not_plain, one_bits, one_flag, one_kind, or_plain, own_taint, tx_at, ty_at, two_bits, two_flag, two_kind, two_plain, unary, x_at, y_at}

-- ---- the parts of formulas, formed

bit_width : IsPlain 1
bit_width = record { some = omega arith; limit = omega arith }

joined_small : (p : ℕ) → p ≤ 1 → joined_pieces p ≤ 1
joined_small p h = grind (arith, nat_tests)

ones_plain : {f : Formula} {ws : List ℕ} {n k : ℕ} (i : ℕ) → IsPlain n → IsFormed f ws [] n k → k + 1 ≤ i → IsFormed (One ReduceAnd f) ws [] 1 i
ones_plain {n = n} i y a l = let u = y.limit in let p = joined_small (pieces n) (pieces_narrow n (omega arith)) in raised i (formed_one ReduceAnd a) (omega arith)

some_plain : {f : Formula} {ws : List ℕ} {n k : ℕ} (i : ℕ) → IsPlain n → IsFormed f ws [] n k → k + 1 ≤ i → IsFormed (One ReduceOr f) ws [] 1 i
some_plain {n = n} i y a l = let u = y.limit in let p = joined_small (pieces n) (pieces_narrow n (omega arith)) in raised i (formed_one ReduceOr a) (omega arith)

leaf_value : (ws : List ℕ) (p n : ℕ) → slice_get ws p ≡ Some n → IsPlain n → IsFormed (Value p) ws [] n 0
leaf_value ws p n e y = let l = y.limit in formed_value ws [] p n e y.some (omega arith)

pub leaf_taint : (ws : List ℕ) (p n : ℕ) → slice_get ws p ≡ Some n → IsPlain n → IsFormed (Taint p) ws [] n 0
leaf_taint ws p n e y = let l = y.limit in formed_taint ws [] p n e y.some (omega arith)

pub formed_max : (ws : List ℕ) (p n : ℕ) → slice_get ws p ≡ Some n → IsPlain n → IsFormed (max_formula p) ws [] n 1
formed_max ws p n e y = or_plain 1 y (leaf_value ws p n e y) (leaf_taint ws p n e y) (omega arith)

pub formed_min : (ws : List ℕ) (p n : ℕ) → slice_get ws p ≡ Some n → IsPlain n → IsFormed (min_formula p) ws [] n 2
formed_min ws p n e y = two_plain 2 y (leaf_value ws p n e y) (not_plain 1 y (leaf_taint ws p n e y) (omega arith)) (omega arith)

formed_spread : {f g : Formula} {ws : List ℕ} {j k : ℕ} (i : ℕ) → IsFormed f ws [] 1 j → IsFormed g ws [] 1 k → j + k + 2 ≤ i → IsFormed (spread f g) ws [] 1 i
formed_spread {k = k} i a b l = two_plain i bit_width a (not_plain (k + 1) bit_width b (omega arith)) (omega arith)

-- ---- $not and $pos

not_row : (c : Cell) → c.kind ≡ NotKind → (i : ℕ) (us : List Word) → output_bit c 0 i us ≡ one_bits not c i us
unfolding words_by
not_row c k i us = ap (λ x. bit (operand (words_by x c us) 0) i) k

not_unary : (c : Cell) → c.kind ≡ NotKind → IsFitted c → IsUnary c
unfolding operands_of outputs_of width_limit
not_unary c k f = unary c NotKind k (λ q. absurd (cc)) refl refl refl refl f

not_weight : (c : Cell) → c.kind ≡ NotKind → weight c ≡ 12
unfolding weight_by
not_weight c k = ap (λ x. weight_by x c) k

pub not_is : (c : Cell) → c.kind ≡ NotKind → IsFitted c → IsRule c (own_taint c)
not_is c k f = one_kind not c not_table (not_unary c k f) (not_weight c k) (ap is_coarse k) (not_row c k)

pos_row : (c : Cell) → c.kind ≡ Pos → (i : ℕ) (us : List Word) → output_bit c 0 i us ≡ one_bits (λ b. b) c i us
unfolding words_by
pos_row c k i us = ap (λ x. bit (operand (words_by x c us) 0) i) k

pos_unary : (c : Cell) → c.kind ≡ Pos → IsFitted c → IsUnary c
unfolding operands_of outputs_of width_limit
pos_unary c k f = unary c Pos k (λ q. absurd (cc)) refl refl refl refl f

pos_weight : (c : Cell) → c.kind ≡ Pos → weight c ≡ 12
unfolding weight_by
pos_weight c k = ap (λ x. weight_by x c) k

pub pos_is : (c : Cell) → c.kind ≡ Pos → IsFitted c → IsRule c (own_taint c)
pos_is c k f = one_kind (λ b. b) c same_table (pos_unary c k f) (pos_weight c k) (ap is_coarse k) (pos_row c k)

-- ---- bitwise kinds with two operands

formed_xs : (c : Cell) → IsBinary c → IsFormed (x_at c) (number_of c AWidth ∷ number_of c BWidth ∷ []) [] (y_width c) 0
formed_xs c u = formed_a (y_width c) (number_of c AWidth) (both_signed c) (number_of c AWidth ∷ number_of c BWidth ∷ []) (number_of c BWidth ∷ []) refl u.a u.y

formed_txs : (c : Cell) → IsBinary c → IsFormed (tx_at c) (number_of c AWidth ∷ number_of c BWidth ∷ []) [] (y_width c) 0
formed_txs c u = formed_ta (y_width c) (number_of c AWidth) (both_signed c) (number_of c AWidth ∷ number_of c BWidth ∷ []) (number_of c BWidth ∷ []) refl u.a u.y

formed_ys : (c : Cell) → IsBinary c → IsFormed (y_at c) (number_of c AWidth ∷ number_of c BWidth ∷ []) [] (y_width c) 0
formed_ys c u = formed_b (y_width c) (number_of c BWidth) (number_of c AWidth) (both_signed c) u.b u.y

formed_tys : (c : Cell) → IsBinary c → IsFormed (ty_at c) (number_of c AWidth ∷ number_of c BWidth ∷ []) [] (y_width c) 0
formed_tys c u = formed_tb (y_width c) (number_of c BWidth) (number_of c AWidth) (both_signed c) u.b u.y

formed_and : (c : Cell) → IsBinary c → IsFormed (and_formula (x_at c) (tx_at c) (y_at c) (ty_at c)) (number_of c AWidth ∷ number_of c BWidth ∷ []) [] (y_width c) 5
formed_and c u =
    or_plain 5 u.y (two_plain 1 u.y (formed_txs c u) (formed_tys c u) (omega arith))
    (or_plain 3 u.y (two_plain 1 u.y (formed_txs c u) (formed_ys c u) (omega arith)) (two_plain 1 u.y (formed_tys c u) (formed_xs c u) (omega arith)) (omega arith)) (omega arith)

formed_or : (c : Cell) → IsBinary c → IsFormed (or_formula (x_at c) (tx_at c) (y_at c) (ty_at c)) (number_of c AWidth ∷ number_of c BWidth ∷ []) [] (y_width c) 7
formed_or c u =
    or_plain 7 u.y (two_plain 1 u.y (formed_txs c u) (formed_tys c u) (omega arith))
    (or_plain 5 u.y (two_plain 2 u.y (formed_txs c u) (not_plain 1 u.y (formed_ys c u) (omega arith)) (omega arith)) (two_plain 2 u.y (formed_tys c u) (not_plain 1 u.y (formed_xs c u) (omega arith)) (omega arith)) (omega arith)) (omega arith)

formed_either : (c : Cell) → IsBinary c → IsFormed (either_formula (tx_at c) (ty_at c)) (number_of c AWidth ∷ number_of c BWidth ∷ []) [] (y_width c) 1
formed_either c u = or_plain 1 u.y (formed_txs c u) (formed_tys c u) (omega arith)

abbrev at_c : Cell → Word → ℕ → Bool
at_c c v i = extended_bit (both_signed c) i v

and_value : (c : Cell) (v w x z : Word) → AreExtended c v w x z → value_of (and_formula (x_at c) (tx_at c) (y_at c) (ty_at c)) (v ∷ w ∷ []) (x ∷ z ∷ []) [] ≡ word (y_width c) (λ i. and_rule (at_c c v i) (at_c c x i) (at_c c w i) (at_c c z i))
and_value c v w x z e =
    value-or (y_width c) (λ i. at_c c x i && at_c c z i) (λ i. (at_c c x i && at_c c w i) || (at_c c z i && at_c c v i)) (Two And (tx_at c) (ty_at c)) (Two Or (Two And (tx_at c) (y_at c)) (Two And (ty_at c) (x_at c))) (v ∷ w ∷ []) (x ∷ z ∷ []) []
    (value-and (y_width c) (at_c c x) (at_c c z) (tx_at c) (ty_at c) (v ∷ w ∷ []) (x ∷ z ∷ []) [] e.vtx e.vty)
    (value-or (y_width c) (λ i. at_c c x i && at_c c w i) (λ i. at_c c z i && at_c c v i) (Two And (tx_at c) (y_at c)) (Two And (ty_at c) (x_at c)) (v ∷ w ∷ []) (x ∷ z ∷ []) []
    (value-and (y_width c) (at_c c x) (at_c c w) (tx_at c) (y_at c) (v ∷ w ∷ []) (x ∷ z ∷ []) [] e.vtx e.vy) (value-and (y_width c) (at_c c z) (at_c c v) (ty_at c) (x_at c) (v ∷ w ∷ []) (x ∷ z ∷ []) [] e.vty e.vx))

or_value : (c : Cell) (v w x z : Word) → AreExtended c v w x z → value_of (or_formula (x_at c) (tx_at c) (y_at c) (ty_at c)) (v ∷ w ∷ []) (x ∷ z ∷ []) [] ≡ word (y_width c) (λ i. or_rule (at_c c v i) (at_c c x i) (at_c c w i) (at_c c z i))
or_value c v w x z e =
    value-or (y_width c) (λ i. at_c c x i && at_c c z i) (λ i. (at_c c x i && not (at_c c w i)) || (at_c c z i && not (at_c c v i))) (Two And (tx_at c) (ty_at c)) (Two Or (Two And (tx_at c) (One Not (y_at c))) (Two And (ty_at c) (One Not (x_at c)))) (v ∷ w ∷ []) (x ∷ z ∷ []) []
    (value-and (y_width c) (at_c c x) (at_c c z) (tx_at c) (ty_at c) (v ∷ w ∷ []) (x ∷ z ∷ []) [] e.vtx e.vty)
    (value-or (y_width c) (λ i. at_c c x i && not (at_c c w i)) (λ i. at_c c z i && not (at_c c v i)) (Two And (tx_at c) (One Not (y_at c))) (Two And (ty_at c) (One Not (x_at c))) (v ∷ w ∷ []) (x ∷ z ∷ []) []
    (value-and (y_width c) (at_c c x) (λ i. not (at_c c w i)) (tx_at c) (One Not (y_at c)) (v ∷ w ∷ []) (x ∷ z ∷ []) [] e.vtx (value-not (y_width c) (at_c c w) (y_at c) (v ∷ w ∷ []) (x ∷ z ∷ []) [] e.vy))
    (value-and (y_width c) (at_c c z) (λ i. not (at_c c v i)) (ty_at c) (One Not (x_at c)) (v ∷ w ∷ []) (x ∷ z ∷ []) [] e.vty (value-not (y_width c) (at_c c v) (x_at c) (v ∷ w ∷ []) (x ∷ z ∷ []) [] e.vx)))

either_value : (c : Cell) (v w x z : Word) → AreExtended c v w x z → value_of (either_formula (tx_at c) (ty_at c)) (v ∷ w ∷ []) (x ∷ z ∷ []) [] ≡ word (y_width c) (λ i. either_rule (at_c c v i) (at_c c x i) (at_c c w i) (at_c c z i))
either_value c v w x z e = value-or (y_width c) (at_c c x) (at_c c z) (tx_at c) (ty_at c) (v ∷ w ∷ []) (x ∷ z ∷ []) [] e.vtx e.vty

and_row : (c : Cell) → c.kind ≡ AndKind → (i : ℕ) (us : List Word) → output_bit c 0 i us ≡ two_bits (λ x y. x && y) c i us
unfolding words_by
and_row c k i us = ap (λ x. bit (operand (words_by x c us) 0) i) k

and_binary : (c : Cell) → c.kind ≡ AndKind → IsFitted c → IsBinary c
unfolding operands_of outputs_of width_limit
and_binary c k f = binary c AndKind k (λ q. absurd (cc)) refl refl refl refl refl f

and_weight : (c : Cell) → c.kind ≡ AndKind → weight c ≡ 12
unfolding weight_by
and_weight c k = ap (λ x. weight_by x c) k

pub and_is : (c : Cell) → c.kind ≡ AndKind → IsFitted c → IsRule c (and_formula (x_at c) (tx_at c) (y_at c) (ty_at c))
and_is c k f = two_kind (λ x y. x && y) and_rule (and_formula (x_at c) (tx_at c) (y_at c) (ty_at c)) 5 c and_table (and_binary c k f) (formed_and c (and_binary c k f)) (let w = and_weight c k in omega arith) (ap is_coarse k) (and_row c k) (and_value c)

or_row : (c : Cell) → c.kind ≡ OrKind → (i : ℕ) (us : List Word) → output_bit c 0 i us ≡ two_bits (λ x y. x || y) c i us
unfolding words_by
or_row c k i us = ap (λ x. bit (operand (words_by x c us) 0) i) k

or_binary : (c : Cell) → c.kind ≡ OrKind → IsFitted c → IsBinary c
unfolding operands_of outputs_of width_limit
or_binary c k f = binary c OrKind k (λ q. absurd (cc)) refl refl refl refl refl f

or_weight : (c : Cell) → c.kind ≡ OrKind → weight c ≡ 12
unfolding weight_by
or_weight c k = ap (λ x. weight_by x c) k

pub or_is : (c : Cell) → c.kind ≡ OrKind → IsFitted c → IsRule c (or_formula (x_at c) (tx_at c) (y_at c) (ty_at c))
or_is c k f = two_kind (λ x y. x || y) or_rule (or_formula (x_at c) (tx_at c) (y_at c) (ty_at c)) 7 c or_table (or_binary c k f) (formed_or c (or_binary c k f)) (let w = or_weight c k in omega arith) (ap is_coarse k) (or_row c k) (or_value c)

xor_row : (c : Cell) → c.kind ≡ XorKind → (i : ℕ) (us : List Word) → output_bit c 0 i us ≡ two_bits xor c i us
unfolding words_by
xor_row c k i us = ap (λ x. bit (operand (words_by x c us) 0) i) k

xor_binary : (c : Cell) → c.kind ≡ XorKind → IsFitted c → IsBinary c
unfolding operands_of outputs_of width_limit
xor_binary c k f = binary c XorKind k (λ q. absurd (cc)) refl refl refl refl refl f

xor_weight : (c : Cell) → c.kind ≡ XorKind → weight c ≡ 12
unfolding weight_by
xor_weight c k = ap (λ x. weight_by x c) k

pub xor_is : (c : Cell) → c.kind ≡ XorKind → IsFitted c → IsRule c (either_formula (tx_at c) (ty_at c))
xor_is c k f = two_kind xor either_rule (either_formula (tx_at c) (ty_at c)) 1 c xor_table (xor_binary c k f) (formed_either c (xor_binary c k f)) (let w = xor_weight c k in omega arith) (ap is_coarse k) (xor_row c k) (either_value c)

xnor_row : (c : Cell) → c.kind ≡ Xnor → (i : ℕ) (us : List Word) → output_bit c 0 i us ≡ two_bits xnor_bits c i us
unfolding words_by
xnor_row c k i us = ap (λ x. bit (operand (words_by x c us) 0) i) k

xnor_binary : (c : Cell) → c.kind ≡ Xnor → IsFitted c → IsBinary c
unfolding operands_of outputs_of width_limit
xnor_binary c k f = binary c Xnor k (λ q. absurd (cc)) refl refl refl refl refl f

xnor_weight : (c : Cell) → c.kind ≡ Xnor → weight c ≡ 12
unfolding weight_by
xnor_weight c k = ap (λ x. weight_by x c) k

pub xnor_is : (c : Cell) → c.kind ≡ Xnor → IsFitted c → IsRule c (either_formula (tx_at c) (ty_at c))
xnor_is c k f = two_kind xnor_bits either_rule (either_formula (tx_at c) (ty_at c)) 1 c xnor_table (xnor_binary c k f) (formed_either c (xnor_binary c k f)) (let w = xnor_weight c k in omega arith) (ap is_coarse k) (xnor_row c k) (either_value c)

-- ---- reductions

formed_reduce_and : (n : ℕ) → IsPlain n → IsFormed reduce_and_formula (n ∷ []) [] 1 7
formed_reduce_and n y = formed_spread 7 (ones_plain 2 y (formed_max (n ∷ []) 0 n refl y) (omega arith)) (ones_plain 3 y (formed_min (n ∷ []) 0 n refl y) (omega arith)) (omega arith)

formed_reduce_or : (n : ℕ) → IsPlain n → IsFormed reduce_or_formula (n ∷ []) [] 1 7
formed_reduce_or n y = formed_spread 7 (some_plain 2 y (formed_max (n ∷ []) 0 n refl y) (omega arith)) (some_plain 3 y (formed_min (n ∷ []) 0 n refl y) (omega arith)) (omega arith)

formed_reduce_xor : (n : ℕ) → IsPlain n → IsFormed reduce_xor_formula (n ∷ []) [] 1 1
formed_reduce_xor n y = some_plain 1 y (leaf_taint (n ∷ []) 0 n refl y) (omega arith)

formed_logic_and : (m n : ℕ) → IsPlain m → IsPlain n → IsFormed logic_and_formula (m ∷ n ∷ []) [] 1 14
formed_logic_and m n y z = formed_spread 14
    (two_plain 5 bit_width (some_plain 2 y (formed_max (m ∷ n ∷ []) 0 m refl y) (omega arith)) (some_plain 2 z (formed_max (m ∷ n ∷ []) 1 n refl z) (omega arith)) (omega arith))
    (two_plain 7 bit_width (some_plain 3 y (formed_min (m ∷ n ∷ []) 0 m refl y) (omega arith)) (some_plain 3 z (formed_min (m ∷ n ∷ []) 1 n refl z) (omega arith)) (omega arith)) (omega arith)

formed_logic_or : (m n : ℕ) → IsPlain m → IsPlain n → IsFormed logic_or_formula (m ∷ n ∷ []) [] 1 14
formed_logic_or m n y z = formed_spread 14
    (or_plain 5 bit_width (some_plain 2 y (formed_max (m ∷ n ∷ []) 0 m refl y) (omega arith)) (some_plain 2 z (formed_max (m ∷ n ∷ []) 1 n refl z) (omega arith)) (omega arith))
    (or_plain 7 bit_width (some_plain 3 y (formed_min (m ∷ n ∷ []) 0 m refl y) (omega arith)) (some_plain 3 z (formed_min (m ∷ n ∷ []) 1 n refl z) (omega arith)) (omega arith)) (omega arith)

ones_value : (v x : Word) → length x ≡ length v → value_of reduce_and_formula (v ∷ []) (x ∷ []) [] ≡ (is_all_ones (max_word v x) && not (is_all_ones (min_word v x))) ∷ []
ones_value v x e = value-spread (One ReduceAnd (max_formula 0)) (One ReduceAnd (min_formula 0)) (v ∷ []) (x ∷ []) _ _
    (value-ones (max_formula 0) (v ∷ []) (x ∷ []) (max_word v x) (value-max 0 (v ∷ []) (x ∷ []))) (value-ones (min_formula 0) (v ∷ []) (x ∷ []) (min_word v x) (value-min 0 (v ∷ []) (x ∷ []) e))

some_value : (v x : Word) → length x ≡ length v → value_of reduce_or_formula (v ∷ []) (x ∷ []) [] ≡ (has_one (max_word v x) && not (has_one (min_word v x))) ∷ []
some_value v x e = value-spread (One ReduceOr (max_formula 0)) (One ReduceOr (min_formula 0)) (v ∷ []) (x ∷ []) _ _
    (value-some (max_formula 0) (v ∷ []) (x ∷ []) (max_word v x) (value-max 0 (v ∷ []) (x ∷ []))) (value-some (min_formula 0) (v ∷ []) (x ∷ []) (min_word v x) (value-min 0 (v ∷ []) (x ∷ []) e))

parity_value : (v x : Word) → length x ≡ length v → value_of reduce_xor_formula (v ∷ []) (x ∷ []) [] ≡ has_one x ∷ []
parity_value v x e = refl

both_value : (v w x z : Word) → length x ≡ length v → length z ≡ length w → value_of logic_and_formula (v ∷ w ∷ []) (x ∷ z ∷ []) []
    ≡ ((has_one (max_word v x) && has_one (max_word w z)) && not (has_one (min_word v x) && has_one (min_word w z))) ∷ []
both_value v w x z e h = value-spread (Two And (One ReduceOr (max_formula 0)) (One ReduceOr (max_formula 1))) (Two And (One ReduceOr (min_formula 0)) (One ReduceOr (min_formula 1))) (v ∷ w ∷ []) (x ∷ z ∷ []) _ _
    (value-both (One ReduceOr (max_formula 0)) (One ReduceOr (max_formula 1)) (v ∷ w ∷ []) (x ∷ z ∷ []) _ _ (value-some (max_formula 0) (v ∷ w ∷ []) (x ∷ z ∷ []) (max_word v x) (value-max 0 (v ∷ w ∷ []) (x ∷ z ∷ []))) (value-some (max_formula 1) (v ∷ w ∷ []) (x ∷ z ∷ []) (max_word w z) (value-max 1 (v ∷ w ∷ []) (x ∷ z ∷ []))))
    (value-both (One ReduceOr (min_formula 0)) (One ReduceOr (min_formula 1)) (v ∷ w ∷ []) (x ∷ z ∷ []) _ _ (value-some (min_formula 0) (v ∷ w ∷ []) (x ∷ z ∷ []) (min_word v x) (value-min 0 (v ∷ w ∷ []) (x ∷ z ∷ []) e)) (value-some (min_formula 1) (v ∷ w ∷ []) (x ∷ z ∷ []) (min_word w z) (value-min 1 (v ∷ w ∷ []) (x ∷ z ∷ []) h)))

some_of_value : (v w x z : Word) → length x ≡ length v → length z ≡ length w → value_of logic_or_formula (v ∷ w ∷ []) (x ∷ z ∷ []) []
    ≡ ((has_one (max_word v x) || has_one (max_word w z)) && not (has_one (min_word v x) || has_one (min_word w z))) ∷ []
some_of_value v w x z e h = value-spread (Two Or (One ReduceOr (max_formula 0)) (One ReduceOr (max_formula 1))) (Two Or (One ReduceOr (min_formula 0)) (One ReduceOr (min_formula 1))) (v ∷ w ∷ []) (x ∷ z ∷ []) _ _
    (value-either (One ReduceOr (max_formula 0)) (One ReduceOr (max_formula 1)) (v ∷ w ∷ []) (x ∷ z ∷ []) _ _ (value-some (max_formula 0) (v ∷ w ∷ []) (x ∷ z ∷ []) (max_word v x) (value-max 0 (v ∷ w ∷ []) (x ∷ z ∷ []))) (value-some (max_formula 1) (v ∷ w ∷ []) (x ∷ z ∷ []) (max_word w z) (value-max 1 (v ∷ w ∷ []) (x ∷ z ∷ []))))
    (value-either (One ReduceOr (min_formula 0)) (One ReduceOr (min_formula 1)) (v ∷ w ∷ []) (x ∷ z ∷ []) _ _ (value-some (min_formula 0) (v ∷ w ∷ []) (x ∷ z ∷ []) (min_word v x) (value-min 0 (v ∷ w ∷ []) (x ∷ z ∷ []) e)) (value-some (min_formula 1) (v ∷ w ∷ []) (x ∷ z ∷ []) (min_word w z) (value-min 1 (v ∷ w ∷ []) (x ∷ z ∷ []) h)))

reduce_and_row : (c : Cell) → c.kind ≡ ReduceAndKind → (i : ℕ) (us : List Word) → output_bit c 0 i us ≡ flag_bits (λ us. is_all_ones (operand us 0)) c i us
unfolding words_by
reduce_and_row c k i us = ap (λ x. bit (operand (words_by x c us) 0) i) k

reduce_and_unary : (c : Cell) → c.kind ≡ ReduceAndKind → IsFitted c → IsUnary c
unfolding operands_of outputs_of width_limit
reduce_and_unary c k f = unary c ReduceAndKind k (λ q. absurd (cc)) refl refl refl refl f

reduce_and_weight : (c : Cell) → c.kind ≡ ReduceAndKind → weight c ≡ 12
unfolding weight_by
reduce_and_weight c k = ap (λ x. weight_by x c) k

pub reduce_and_is : (c : Cell) → c.kind ≡ ReduceAndKind → IsFitted c → IsRule c (flag_formula (y_width c) reduce_and_formula)
reduce_and_is c k f = one_flag (λ us. is_all_ones (operand us 0)) reduce_and_formula (λ v x. is_all_ones (max_word v x) && not (is_all_ones (min_word v x))) 7 c (reduce_and_unary c k f) (formed_reduce_and (number_of c AWidth) (let u = reduce_and_unary c k f in u.a)) (let w = reduce_and_weight c k in omega arith) (ap is_coarse k) (reduce_and_row c k) ones_value (λ v x e. spread_exact (y_width c) (λ us. is_all_ones (operand us 0)) (v ∷ []) (x ∷ []) ones_grows (e, tt))

reduce_or_row : (c : Cell) → c.kind ≡ ReduceOrKind → (i : ℕ) (us : List Word) → output_bit c 0 i us ≡ flag_bits (λ us. has_one (operand us 0)) c i us
unfolding words_by
reduce_or_row c k i us = ap (λ x. bit (operand (words_by x c us) 0) i) k

reduce_or_unary : (c : Cell) → c.kind ≡ ReduceOrKind → IsFitted c → IsUnary c
unfolding operands_of outputs_of width_limit
reduce_or_unary c k f = unary c ReduceOrKind k (λ q. absurd (cc)) refl refl refl refl f

reduce_or_weight : (c : Cell) → c.kind ≡ ReduceOrKind → weight c ≡ 12
unfolding weight_by
reduce_or_weight c k = ap (λ x. weight_by x c) k

pub reduce_or_is : (c : Cell) → c.kind ≡ ReduceOrKind → IsFitted c → IsRule c (flag_formula (y_width c) reduce_or_formula)
reduce_or_is c k f = one_flag (λ us. has_one (operand us 0)) reduce_or_formula (λ v x. has_one (max_word v x) && not (has_one (min_word v x))) 7 c (reduce_or_unary c k f) (formed_reduce_or (number_of c AWidth) (let u = reduce_or_unary c k f in u.a)) (let w = reduce_or_weight c k in omega arith) (ap is_coarse k) (reduce_or_row c k) some_value (λ v x e. spread_exact (y_width c) (λ us. has_one (operand us 0)) (v ∷ []) (x ∷ []) some_grows (e, tt))

reduce_bool_row : (c : Cell) → c.kind ≡ ReduceBool → (i : ℕ) (us : List Word) → output_bit c 0 i us ≡ flag_bits (λ us. has_one (operand us 0)) c i us
unfolding words_by
reduce_bool_row c k i us = ap (λ x. bit (operand (words_by x c us) 0) i) k

reduce_bool_unary : (c : Cell) → c.kind ≡ ReduceBool → IsFitted c → IsUnary c
unfolding operands_of outputs_of width_limit
reduce_bool_unary c k f = unary c ReduceBool k (λ q. absurd (cc)) refl refl refl refl f

reduce_bool_weight : (c : Cell) → c.kind ≡ ReduceBool → weight c ≡ 12
unfolding weight_by
reduce_bool_weight c k = ap (λ x. weight_by x c) k

pub reduce_bool_is : (c : Cell) → c.kind ≡ ReduceBool → IsFitted c → IsRule c (flag_formula (y_width c) reduce_or_formula)
reduce_bool_is c k f = one_flag (λ us. has_one (operand us 0)) reduce_or_formula (λ v x. has_one (max_word v x) && not (has_one (min_word v x))) 7 c (reduce_bool_unary c k f) (formed_reduce_or (number_of c AWidth) (let u = reduce_bool_unary c k f in u.a)) (let w = reduce_bool_weight c k in omega arith) (ap is_coarse k) (reduce_bool_row c k) some_value (λ v x e. spread_exact (y_width c) (λ us. has_one (operand us 0)) (v ∷ []) (x ∷ []) some_grows (e, tt))

logic_not_row : (c : Cell) → c.kind ≡ LogicNot → (i : ℕ) (us : List Word) → output_bit c 0 i us ≡ flag_bits (λ us. not (has_one (operand us 0))) c i us
unfolding words_by
logic_not_row c k i us = ap (λ x. bit (operand (words_by x c us) 0) i) k

logic_not_unary : (c : Cell) → c.kind ≡ LogicNot → IsFitted c → IsUnary c
unfolding operands_of outputs_of width_limit
logic_not_unary c k f = unary c LogicNot k (λ q. absurd (cc)) refl refl refl refl f

logic_not_weight : (c : Cell) → c.kind ≡ LogicNot → weight c ≡ 12
unfolding weight_by
logic_not_weight c k = ap (λ x. weight_by x c) k

pub logic_not_is : (c : Cell) → c.kind ≡ LogicNot → IsFitted c → IsRule c (flag_formula (y_width c) reduce_or_formula)
logic_not_is c k f = one_flag (λ us. not (has_one (operand us 0))) reduce_or_formula (λ v x. has_one (max_word v x) && not (has_one (min_word v x))) 7 c (logic_not_unary c k f) (formed_reduce_or (number_of c AWidth) (let u = logic_not_unary c k f in u.a)) (let w = logic_not_weight c k in omega arith) (ap is_coarse k) (logic_not_row c k) some_value (λ v x e. complement_exact (y_width c) (λ us. has_one (operand us 0)) (v ∷ []) (x ∷ []) some_grows (e, tt))

reduce_xor_row : (c : Cell) → c.kind ≡ ReduceXorKind → (i : ℕ) (us : List Word) → output_bit c 0 i us ≡ flag_bits (λ us. parity (operand us 0)) c i us
unfolding words_by
reduce_xor_row c k i us = ap (λ x. bit (operand (words_by x c us) 0) i) k

reduce_xor_unary : (c : Cell) → c.kind ≡ ReduceXorKind → IsFitted c → IsUnary c
unfolding operands_of outputs_of width_limit
reduce_xor_unary c k f = unary c ReduceXorKind k (λ q. absurd (cc)) refl refl refl refl f

reduce_xor_weight : (c : Cell) → c.kind ≡ ReduceXorKind → weight c ≡ 12
unfolding weight_by
reduce_xor_weight c k = ap (λ x. weight_by x c) k

pub reduce_xor_is : (c : Cell) → c.kind ≡ ReduceXorKind → IsFitted c → IsRule c (flag_formula (y_width c) reduce_xor_formula)
reduce_xor_is c k f = one_flag (λ us. parity (operand us 0)) reduce_xor_formula (λ v x. has_one x) 1 c (reduce_xor_unary c k f) (formed_reduce_xor (number_of c AWidth) (let u = reduce_xor_unary c k f in u.a)) (let w = reduce_xor_weight c k in omega arith) (ap is_coarse k) (reduce_xor_row c k) parity_value (λ v x e. parity_exact (y_width c) v x e)

reduce_xnor_row : (c : Cell) → c.kind ≡ ReduceXnor → (i : ℕ) (us : List Word) → output_bit c 0 i us ≡ flag_bits (λ us. not (parity (operand us 0))) c i us
unfolding words_by
reduce_xnor_row c k i us = ap (λ x. bit (operand (words_by x c us) 0) i) k

reduce_xnor_unary : (c : Cell) → c.kind ≡ ReduceXnor → IsFitted c → IsUnary c
unfolding operands_of outputs_of width_limit
reduce_xnor_unary c k f = unary c ReduceXnor k (λ q. absurd (cc)) refl refl refl refl f

reduce_xnor_weight : (c : Cell) → c.kind ≡ ReduceXnor → weight c ≡ 12
unfolding weight_by
reduce_xnor_weight c k = ap (λ x. weight_by x c) k

pub reduce_xnor_is : (c : Cell) → c.kind ≡ ReduceXnor → IsFitted c → IsRule c (flag_formula (y_width c) reduce_xor_formula)
reduce_xnor_is c k f = one_flag (λ us. not (parity (operand us 0))) reduce_xor_formula (λ v x. has_one x) 1 c (reduce_xnor_unary c k f) (formed_reduce_xor (number_of c AWidth) (let u = reduce_xnor_unary c k f in u.a)) (let w = reduce_xnor_weight c k in omega arith) (ap is_coarse k) (reduce_xnor_row c k) parity_value (λ v x e. not_parity_exact (y_width c) v x e)

logic_and_row : (c : Cell) → c.kind ≡ LogicAnd → (i : ℕ) (us : List Word) → output_bit c 0 i us ≡ flag_bits (λ us. has_one (operand us 0) && has_one (operand us 1)) c i us
unfolding words_by
logic_and_row c k i us = ap (λ x. bit (operand (words_by x c us) 0) i) k

logic_and_binary : (c : Cell) → c.kind ≡ LogicAnd → IsFitted c → IsBinary c
unfolding operands_of outputs_of width_limit
logic_and_binary c k f = binary c LogicAnd k (λ q. absurd (cc)) refl refl refl refl refl f

logic_and_weight : (c : Cell) → c.kind ≡ LogicAnd → weight c ≡ 24
unfolding weight_by
logic_and_weight c k = ap (λ x. weight_by x c) k

pub logic_and_is : (c : Cell) → c.kind ≡ LogicAnd → IsFitted c → IsRule c (flag_formula (y_width c) logic_and_formula)
logic_and_is c k f = two_flag (λ us. has_one (operand us 0) && has_one (operand us 1)) logic_and_formula (λ v w x z. (has_one (max_word v x) && has_one (max_word w z)) && not (has_one (min_word v x) && has_one (min_word w z))) 14 c (logic_and_binary c k f) (formed_logic_and (number_of c AWidth) (number_of c BWidth) (let u = logic_and_binary c k f in u.a) (let u = logic_and_binary c k f in u.b)) (let w = logic_and_weight c k in omega arith) (ap is_coarse k) (logic_and_row c k) both_value
    (λ v w x z e h. spread_exact (y_width c) (λ us. has_one (operand us 0) && has_one (operand us 1)) (v ∷ w ∷ []) (x ∷ z ∷ []) both_grow (e, (h, tt)))

logic_or_row : (c : Cell) → c.kind ≡ LogicOr → (i : ℕ) (us : List Word) → output_bit c 0 i us ≡ flag_bits (λ us. has_one (operand us 0) || has_one (operand us 1)) c i us
unfolding words_by
logic_or_row c k i us = ap (λ x. bit (operand (words_by x c us) 0) i) k

logic_or_binary : (c : Cell) → c.kind ≡ LogicOr → IsFitted c → IsBinary c
unfolding operands_of outputs_of width_limit
logic_or_binary c k f = binary c LogicOr k (λ q. absurd (cc)) refl refl refl refl refl f

logic_or_weight : (c : Cell) → c.kind ≡ LogicOr → weight c ≡ 24
unfolding weight_by
logic_or_weight c k = ap (λ x. weight_by x c) k

pub logic_or_is : (c : Cell) → c.kind ≡ LogicOr → IsFitted c → IsRule c (flag_formula (y_width c) logic_or_formula)
logic_or_is c k f = two_flag (λ us. has_one (operand us 0) || has_one (operand us 1)) logic_or_formula (λ v w x z. (has_one (max_word v x) || has_one (max_word w z)) && not (has_one (min_word v x) || has_one (min_word w z))) 14 c (logic_or_binary c k f) (formed_logic_or (number_of c AWidth) (number_of c BWidth) (let u = logic_or_binary c k f in u.a) (let u = logic_or_binary c k f in u.b)) (let w = logic_or_weight c k in omega arith) (ap is_coarse k) (logic_or_row c k) some_of_value
    (λ v w x z e h. spread_exact (y_width c) (λ us. has_one (operand us 0) || has_one (operand us 1)) (v ∷ w ∷ []) (x ∷ z ∷ []) either_grows (e, (h, tt)))

-- ---- the shapes of kinds

unary_by : (k : Kind) (c : Cell) → c.kind ≡ k → is_unary k ≡ true → IsFitted c → IsUnary c
unary_by NotKind c e h f = not_unary c e f
unary_by Pos c e h f = pos_unary c e f
unary_by ReduceAndKind c e h f = reduce_and_unary c e f
unary_by ReduceOrKind c e h f = reduce_or_unary c e f
unary_by ReduceXorKind c e h f = reduce_xor_unary c e f
unary_by ReduceXnor c e h f = reduce_xnor_unary c e f
unary_by ReduceBool c e h f = reduce_bool_unary c e f
unary_by LogicNot c e h f = logic_not_unary c e f
unary_by _ c e h f = absurd (cc)

pub unary_shape : (c : Cell) → is_unary c.kind ≡ true → IsFitted c → IsUnary c
unary_shape c h f = unary_by c.kind c refl h f

binary_by : (k : Kind) (c : Cell) → c.kind ≡ k → is_binary k ≡ true → IsFitted c → IsBinary c
binary_by AndKind c e h f = and_binary c e f
binary_by OrKind c e h f = or_binary c e f
binary_by XorKind c e h f = xor_binary c e f
binary_by Xnor c e h f = xnor_binary c e f
binary_by LogicAnd c e h f = logic_and_binary c e f
binary_by LogicOr c e h f = logic_or_binary c e f
binary_by _ c e h f = absurd (cc)

pub binary_shape : (c : Cell) → is_binary c.kind ≡ true → IsFitted c → IsBinary c
binary_shape c h f = binary_by c.kind c refl h f
