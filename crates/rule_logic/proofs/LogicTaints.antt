-- The formula of each kind computes the taint of its output, and costs no more than the kind's weight.
use Rattle.std.specs.Prelude.{ℕ, ◌+◌, ◌≤◌, ◌≡◌, ◌≢◌, Bool, false, List, [], ◌∷◌, map, length, get_or, slice_get, refl}
use Rattle.std.proofs.Common.{arith, sym, ap, subst, ◌∙◌}
use Rattle.cif_defs.specs.Words.{Word, bit, word, extended_bit, flag_word, operand}
use Rattle.cif_defs.specs.Kinds.{is_coarse}
use Rattle.cif_defs.specs.Cells.{Cell, number_of, y_width, a_signed, both_signed}
use Rattle.cif_defs.specs.Completions.{IsExact}
use Rattle.cif_defs.specs.Table.{a_row, b_row, y_row, operands_of, outputs_of, width_limit}
use Rattle.cif_defs.specs.Taint.{output_bit}
use Rattle.cif_defs.specs.Fitted.{IsFitted, operand_widths, row_width}
use Rattle.cif_defs.specs.Weights.{weight}
use Rattle.cif_defs.specs.declared.kinds.Kind.{Kind}
use Rattle.cif_defs.specs.declared.kinds.Kind.TheVariants.{Mem}
use Rattle.cif_defs.specs.declared.kinds.Param.TheVariants.{AWidth, BWidth}
use Rattle.cif_defs.proofs.Exact.{bits_can_differ}
use Rattle.cif_term.specs.declared.ops.Op1.TheVariants.{Not}
use Rattle.cif_term.specs.declared.ops.Op2.TheVariants.{And, Or}
use Rattle.cif_term.specs.Formulas.{Formula, Value, Taint, One, Two, IsFormed, cost_of, value_of}
use Rattle.cif_term.specs.CellTaints.{IsTaintOf, output_width}
use Rattle.cif_term.proofs.FormedFormulas.{formed_extended, formed_one, formed_taint, formed_two, formed_value, pieces_narrow, raised}
use Rattle.cif_term.proofs.Values.{value-extended}
use Rattle.rule_logic.specs.LogicFormulas.{flag_formula, taint_at, value_at}
use Rattle.rule_logic.proofs.BitRules.{one_exact, one_of, two_exact, two_of}
use Rattle.rule_logic.proofs.LogicValues.{value-flag}
use Rattle.rule_logic.proofs.Shapes.{HasRows, IsPlain, has_rows, is_taint, one_word, plain, two_words}

-- ---- cells of unary and of binary shape

pub record IsUnary (c : Cell) : Type 0 where
  pub widths : operand_widths c ≡ number_of c AWidth ∷ []
  pub a : IsPlain (number_of c AWidth)
  pub y : IsPlain (y_width c)
  pub output : output_width c 0 ≡ y_width c

pub record IsBinary (c : Cell) : Type 0 where
  pub widths : operand_widths c ≡ number_of c AWidth ∷ number_of c BWidth ∷ []
  pub a : IsPlain (number_of c AWidth)
  pub b : IsPlain (number_of c BWidth)
  pub y : IsPlain (y_width c)
  pub output : output_width c 0 ≡ y_width c

pub unary : (c : Cell) (k : Kind) → c.kind ≡ k → k ≢ Mem → operands_of k ≡ a_row ∷ [] → outputs_of k ≡ y_row ∷ [] → width_limit k a_row.port ≡ 4096 → width_limit k y_row.port ≡ 4096 → IsFitted c → IsUnary c
unary c k e h a b la ly f =
    let r : HasRows c (a_row ∷ []) (y_row ∷ []) = has_rows c k (a_row ∷ []) (y_row ∷ []) e h a b f in
    let i = r.within in let o = r.outputs_within in
    record { widths = r.widths; a = plain c k a_row e la i.0; y = plain c k y_row e ly o.0; output = ap (λ rows. get_or (map (row_width c) rows) 0 0) r.output_rows }

pub binary : (c : Cell) (k : Kind) → c.kind ≡ k → k ≢ Mem → operands_of k ≡ a_row ∷ b_row ∷ [] → outputs_of k ≡ y_row ∷ [] → width_limit k a_row.port ≡ 4096 → width_limit k b_row.port ≡ 4096 → width_limit k y_row.port ≡ 4096 → IsFitted c → IsBinary c
binary c k e h a b la lb ly f =
    let r : HasRows c (a_row ∷ b_row ∷ []) (y_row ∷ []) = has_rows c k (a_row ∷ b_row ∷ []) (y_row ∷ []) e h a b f in
    let i = r.within in let o = r.outputs_within in
    record { widths = r.widths; a = plain c k a_row e la i.0; b = plain c k b_row e lb (let j = i.1 in j.0); y = plain c k y_row e ly o.0; output = ap (λ rows. get_or (map (row_width c) rows) 0 0) r.output_rows }

-- a term of one output that is formed and exact: its taint and its cost
pub record IsRule (c : Cell) (f : Formula) : Type 0 where
  pub taint : IsTaintOf c 0 f
  pub cost : cost_of f (operand_widths c) [] ≤ weight c

pub rule : (c : Cell) (f : Formula) (n k : ℕ) (ws : List ℕ) (h : ℕ → List Word → Bool) → operand_widths c ≡ ws → output_width c 0 ≡ n → IsFormed f ws [] n k → k ≤ weight c → is_coarse c.kind ≡ false
    → ((i : ℕ) (us : List Word) → output_bit c 0 i us ≡ h i us) → ((vs ts : List Word) → map length vs ≡ ws → map length ts ≡ ws → IsExact n h vs ts (value_of f vs ts [])) → IsRule c f
rule c f n k ws h e o formed l fine r exact = record {
  taint = is_taint c 0 f n k ws h e o formed fine r exact;
  cost = (let bound : cost_of f ws [] ≤ k = formed.cost in let same : cost_of f (operand_widths c) [] ≡ cost_of f ws [] = ap (λ x. cost_of f x []) e in omega arith);
}

-- ---- operands

pub formed_a : (n m : ℕ) (s : Bool) (ws : List ℕ) (rest : List ℕ) → ws ≡ m ∷ rest → IsPlain m → IsPlain n → IsFormed (value_at n s m 0) ws [] n 0
formed_a n m s ws rest e a y = let l = a.some in let u = a.limit in let z = y.limit in formed_extended n m s (formed_value ws [] 0 m (ap (λ x. slice_get x 0) e) l (omega arith)) l y.some (omega arith)

pub formed_ta : (n m : ℕ) (s : Bool) (ws : List ℕ) (rest : List ℕ) → ws ≡ m ∷ rest → IsPlain m → IsPlain n → IsFormed (taint_at n s m 0) ws [] n 0
formed_ta n m s ws rest e a y = let l = a.some in let u = a.limit in let z = y.limit in formed_extended n m s (formed_taint ws [] 0 m (ap (λ x. slice_get x 0) e) l (omega arith)) l y.some (omega arith)

pub formed_b : (n m k : ℕ) (s : Bool) → IsPlain m → IsPlain n → IsFormed (value_at n s m 1) (k ∷ m ∷ []) [] n 0
formed_b n m k s a y = let l = a.some in let u = a.limit in let z = y.limit in formed_extended n m s (formed_value (k ∷ m ∷ []) [] 1 m refl l (omega arith)) l y.some (omega arith)

pub formed_tb : (n m k : ℕ) (s : Bool) → IsPlain m → IsPlain n → IsFormed (taint_at n s m 1) (k ∷ m ∷ []) [] n 0
formed_tb n m k s a y = let l = a.some in let u = a.limit in let z = y.limit in formed_extended n m s (formed_taint (k ∷ m ∷ []) [] 1 m refl l (omega arith)) l y.some (omega arith)

-- an operation on plain words costs one cell
pub two_plain : {f g : Formula} {ws : List ℕ} {n j k : ℕ} (i : ℕ) → IsPlain n → IsFormed f ws [] n j → IsFormed g ws [] n k → j + k + 1 ≤ i → IsFormed (Two And f g) ws [] n i
two_plain {n = n} i y a b l = let u = y.limit in let p = pieces_narrow n (omega arith) in raised i (formed_two And a b (λ q. absurd (cc))) (omega arith)

pub or_plain : {f g : Formula} {ws : List ℕ} {n j k : ℕ} (i : ℕ) → IsPlain n → IsFormed f ws [] n j → IsFormed g ws [] n k → j + k + 1 ≤ i → IsFormed (Two Or f g) ws [] n i
or_plain {n = n} i y a b l = let u = y.limit in let p = pieces_narrow n (omega arith) in raised i (formed_two Or a b (λ q. absurd (cc))) (omega arith)

pub not_plain : {f : Formula} {ws : List ℕ} {n k : ℕ} (i : ℕ) → IsPlain n → IsFormed f ws [] n k → k + 1 ≤ i → IsFormed (One Not f) ws [] n i
not_plain {n = n} i y a l = let u = y.limit in let p = pieces_narrow n (omega arith) in raised i (formed_one Not a) (omega arith)

-- ---- $not and $pos

abbrev pub one_bits : (Bool → Bool) → Cell → ℕ → List Word → Bool
one_bits op c i us = bit (word (y_width c) (λ k. op (extended_bit (a_signed c) k (operand us 0)))) i

abbrev pub own_taint : Cell → Formula
own_taint c = taint_at (y_width c) (a_signed c) (number_of c AWidth) 0

pub one_kind : (op : Bool → Bool) (c : Cell) → ((x tx : Bool) → bits_can_differ (one_of op) (x ∷ []) (tx ∷ []) ≡ tx) → IsUnary c → weight c ≡ 12 → is_coarse c.kind ≡ false → ((i : ℕ) (us : List Word) → output_bit c 0 i us ≡ one_bits op c i us) → IsRule c (own_taint c)
one_kind op c table u w fine r =
    rule c (own_taint c) (y_width c) 0 (number_of c AWidth ∷ []) (one_bits op c) u.widths u.output
    (formed_ta (y_width c) (number_of c AWidth) (a_signed c) (number_of c AWidth ∷ []) [] refl u.a u.y) (omega arith) fine r
    (λ vs ts a b. one_word (λ us. IsExact (y_width c) (one_bits op c) us ts (value_of (own_taint c) us ts [])) (number_of c AWidth)
    (λ v l. one_word (λ us. IsExact (y_width c) (one_bits op c) (v ∷ []) us (value_of (own_taint c) (v ∷ []) us [])) (number_of c AWidth)
    (λ t m. subst (λ x. IsExact (y_width c) (one_bits op c) (v ∷ []) (t ∷ []) x)
    (sym (value-extended (y_width c) (number_of c AWidth) (a_signed c) (Taint 0) (v ∷ []) (t ∷ []) [] m (let x = u.a in x.some)))
    (one_exact op (a_signed c) (y_width c) v t table (m ∙ sym l))) ts b) vs a)

-- ---- reductions

abbrev pub flag_bits : (List Word → Bool) → Cell → ℕ → List Word → Bool
flag_bits h c i us = bit (flag_word (y_width c) (h us)) i

-- a flag of unary shape, from the bit that its formula computes
pub one_flag : (h : List Word → Bool) (f : Formula) (t : Word → Word → Bool) (k : ℕ) (c : Cell) → IsUnary c → IsFormed f (number_of c AWidth ∷ []) [] 1 k → k ≤ weight c → is_coarse c.kind ≡ false → ((i : ℕ) (us : List Word) → output_bit c 0 i us ≡ flag_bits h c i us)
    → ((v x : Word) → length x ≡ length v → value_of f (v ∷ []) (x ∷ []) [] ≡ t v x ∷ []) → ((v x : Word) → length x ≡ length v → IsExact (y_width c) (flag_bits h c) (v ∷ []) (x ∷ []) (flag_word (y_width c) (t v x))) → IsRule c (flag_formula (y_width c) f)
one_flag h f t k c u formed w fine r value exact =
    let y : IsPlain (y_width c) = u.y in let l = y.limit in
    rule c (flag_formula (y_width c) f) (y_width c) k (number_of c AWidth ∷ []) (flag_bits h c) u.widths u.output
    (formed_extended (y_width c) 1 false formed (omega arith) y.some (omega arith)) w fine r
    (λ vs ts a b. one_word (λ us. IsExact (y_width c) (flag_bits h c) us ts (value_of (flag_formula (y_width c) f) us ts [])) (number_of c AWidth)
    (λ v l. one_word (λ us. IsExact (y_width c) (flag_bits h c) (v ∷ []) us (value_of (flag_formula (y_width c) f) (v ∷ []) us [])) (number_of c AWidth)
    (λ x m. subst (λ z. IsExact (y_width c) (flag_bits h c) (v ∷ []) (x ∷ []) z) (sym (value-flag (y_width c) f (v ∷ []) (x ∷ []) (t v x) (value v x (m ∙ sym l)))) (exact v x (m ∙ sym l))) ts b) vs a)

pub two_flag : (h : List Word → Bool) (f : Formula) (t : Word → Word → Word → Word → Bool) (k : ℕ) (c : Cell) → IsBinary c → IsFormed f (number_of c AWidth ∷ number_of c BWidth ∷ []) [] 1 k → k ≤ weight c → is_coarse c.kind ≡ false → ((i : ℕ) (us : List Word) → output_bit c 0 i us ≡ flag_bits h c i us)
    → ((v w x z : Word) → length x ≡ length v → length z ≡ length w → value_of f (v ∷ w ∷ []) (x ∷ z ∷ []) [] ≡ t v w x z ∷ [])
    → ((v w x z : Word) → length x ≡ length v → length z ≡ length w → IsExact (y_width c) (flag_bits h c) (v ∷ w ∷ []) (x ∷ z ∷ []) (flag_word (y_width c) (t v w x z))) → IsRule c (flag_formula (y_width c) f)
two_flag h f t k c u formed w fine r value exact =
    let y : IsPlain (y_width c) = u.y in let l = y.limit in
    rule c (flag_formula (y_width c) f) (y_width c) k (number_of c AWidth ∷ number_of c BWidth ∷ []) (flag_bits h c) u.widths u.output
    (formed_extended (y_width c) 1 false formed (omega arith) y.some (omega arith)) w fine r
    (λ vs ts a b. two_words (λ us. IsExact (y_width c) (flag_bits h c) us ts (value_of (flag_formula (y_width c) f) us ts [])) (number_of c AWidth) (number_of c BWidth)
    (λ v v' l l'. two_words (λ us. IsExact (y_width c) (flag_bits h c) (v ∷ v' ∷ []) us (value_of (flag_formula (y_width c) f) (v ∷ v' ∷ []) us [])) (number_of c AWidth) (number_of c BWidth)
    (λ x x' m m'. subst (λ z. IsExact (y_width c) (flag_bits h c) (v ∷ v' ∷ []) (x ∷ x' ∷ []) z) (sym (value-flag (y_width c) f (v ∷ v' ∷ []) (x ∷ x' ∷ []) (t v v' x x') (value v v' x x' (m ∙ sym l) (m' ∙ sym l')))) (exact v v' x x' (m ∙ sym l) (m' ∙ sym l'))) ts b) vs a)

-- ---- bitwise kinds with two operands

abbrev pub two_bits : (Bool → Bool → Bool) → Cell → ℕ → List Word → Bool
two_bits op c i us = bit (word (y_width c) (λ k. op (extended_bit (both_signed c) k (operand us 0)) (extended_bit (both_signed c) k (operand us 1)))) i

abbrev pub x_at : Cell → Formula
x_at c = value_at (y_width c) (both_signed c) (number_of c AWidth) 0

abbrev pub tx_at : Cell → Formula
tx_at c = taint_at (y_width c) (both_signed c) (number_of c AWidth) 0

abbrev pub y_at : Cell → Formula
y_at c = value_at (y_width c) (both_signed c) (number_of c BWidth) 1

abbrev pub ty_at : Cell → Formula
ty_at c = taint_at (y_width c) (both_signed c) (number_of c BWidth) 1

-- what the four extended words stand for
pub record AreExtended (c : Cell) (v w x z : Word) : Type 0 where
  pub vx : value_of (x_at c) (v ∷ w ∷ []) (x ∷ z ∷ []) [] ≡ word (y_width c) (λ i. extended_bit (both_signed c) i v)
  pub vtx : value_of (tx_at c) (v ∷ w ∷ []) (x ∷ z ∷ []) [] ≡ word (y_width c) (λ i. extended_bit (both_signed c) i x)
  pub vy : value_of (y_at c) (v ∷ w ∷ []) (x ∷ z ∷ []) [] ≡ word (y_width c) (λ i. extended_bit (both_signed c) i w)
  pub vty : value_of (ty_at c) (v ∷ w ∷ []) (x ∷ z ∷ []) [] ≡ word (y_width c) (λ i. extended_bit (both_signed c) i z)

pub are_extended : (c : Cell) (v w x z : Word) → IsBinary c → length v ≡ number_of c AWidth → length w ≡ number_of c BWidth → length x ≡ number_of c AWidth → length z ≡ number_of c BWidth → AreExtended c v w x z
are_extended c v w x z u l m n k = let a : IsPlain (number_of c AWidth) = u.a in let b : IsPlain (number_of c BWidth) = u.b in record {
  vx = value-extended (y_width c) (number_of c AWidth) (both_signed c) (Value 0) (v ∷ w ∷ []) (x ∷ z ∷ []) [] l a.some;
  vtx = value-extended (y_width c) (number_of c AWidth) (both_signed c) (Taint 0) (v ∷ w ∷ []) (x ∷ z ∷ []) [] n a.some;
  vy = value-extended (y_width c) (number_of c BWidth) (both_signed c) (Value 1) (v ∷ w ∷ []) (x ∷ z ∷ []) [] m b.some;
  vty = value-extended (y_width c) (number_of c BWidth) (both_signed c) (Taint 1) (v ∷ w ∷ []) (x ∷ z ∷ []) [] k b.some;
}

pub two_kind : (op : Bool → Bool → Bool) (bit_rule : Bool → Bool → Bool → Bool → Bool) (f : Formula) (k : ℕ) (c : Cell) → ((x tx y ty : Bool) → bits_can_differ (two_of op) (x ∷ y ∷ []) (tx ∷ ty ∷ []) ≡ bit_rule x tx y ty)
    → IsBinary c → IsFormed f (number_of c AWidth ∷ number_of c BWidth ∷ []) [] (y_width c) k → k ≤ weight c → is_coarse c.kind ≡ false → ((i : ℕ) (us : List Word) → output_bit c 0 i us ≡ two_bits op c i us)
    → ((v w x z : Word) → AreExtended c v w x z → value_of f (v ∷ w ∷ []) (x ∷ z ∷ []) [] ≡ word (y_width c) (λ i. bit_rule (extended_bit (both_signed c) i v) (extended_bit (both_signed c) i x) (extended_bit (both_signed c) i w) (extended_bit (both_signed c) i z)))
    → IsRule c f
two_kind op bit_rule f k c table u formed l fine r value =
    rule c f (y_width c) k (number_of c AWidth ∷ number_of c BWidth ∷ []) (two_bits op c) u.widths u.output formed l fine r
    (λ vs ts a b. two_words (λ us. IsExact (y_width c) (two_bits op c) us ts (value_of f us ts [])) (number_of c AWidth) (number_of c BWidth)
    (λ v v' l l'. two_words (λ us. IsExact (y_width c) (two_bits op c) (v ∷ v' ∷ []) us (value_of f (v ∷ v' ∷ []) us [])) (number_of c AWidth) (number_of c BWidth)
    (λ x x' m m'. subst (λ z. IsExact (y_width c) (two_bits op c) (v ∷ v' ∷ []) (x ∷ x' ∷ []) z) (sym (value v v' x x' (are_extended c v v' x x' u l l' m m')))
    (two_exact op bit_rule (both_signed c) (y_width c) v v' x x' table (m ∙ sym l) (m' ∙ sym l'))) ts b) vs a)
