-- The widths of the operands and outputs of cells on numbers, and which row each kind takes.
use Rattle.std.specs.Prelude.{ℕ, ◌≤◌, ◌≡◌, ◌≢◌, Bool, true, List, [], ◌∷◌, map, length, get_or, IfOk, Result, refl}
use Rattle.std.proofs.Common.{arith, sym, ap, ◌∙◌, Vec, Global}
use Rattle.std.proofs.lemmas.List.{length-map}
use Rattle.std.proofs.lemmas.Result.{IfOk-weaker}
use Rattle.cif_defs.specs.Words.{Word, bit, operand}
use Rattle.cif_defs.specs.Meanings.{neg_word, alu_xor_word, alu_sum_word, alu_carry_word}
use Rattle.cif_defs.specs.Cells.{Cell, meaning, number_of, both_signed, a_signed, y_width, words_by}
use Rattle.cif_defs.specs.Fitted.{IsFitted, AllWithin, operand_widths}
use Rattle.cif_defs.specs.Table.{operands_of, outputs_of, width_limit, is_arithmetic, a_row, b_row, y_row, row}
use Rattle.cif_defs.specs.declared.kinds.Kind.{Kind}
use Rattle.cif_defs.specs.declared.kinds.Kind.TheVariants.{Add, Sub, Neg, Mul, Div, Mod, DivFloor, ModFloor, Eq, Ne, Eqx, Nex, Lt, Le, Ge, Gt, Alu, Mem}
use Rattle.cif_defs.specs.declared.kinds.Param.TheVariants.{AWidth, BWidth, YWidth}
use Rattle.cif_defs.specs.declared.kinds.CellPort.{CellPort}
use Rattle.cif_defs.specs.declared.kinds.CellPort.TheVariants.{A, B, X, Y, Co, Ci, Bi}
use Rattle.cif_defs.specs.declared.kinds.PortWidth.TheVariants.{One, Of}
use Rattle.cif_meanings.specs.NumberKinds.{is_equality}
use Rattle.cif_kinds.proofs.OperandWidths.{map_width, operands_within, outputs_within, widths_are}

-- ---- kinds with two operands and one output, whose ports have at most m bits

pub record IsPairKind (m : ℕ) (k : Kind) : Type 0 where
  pub operands : operands_of k ≡ a_row ∷ b_row ∷ []
  pub outputs : outputs_of k ≡ y_row ∷ []
  pub limit : (p : CellPort) → width_limit k p ≡ m
  pub no_memory : k ≢ Mem

pub arithmetic_kind : (k : Kind) → is_arithmetic k ≡ true → k ≢ Neg → k ≢ Alu → IsPairKind 128 k
unfolding operands_of outputs_of width_limit
arithmetic_kind Add h no_neg no_alu = record { operands = refl; outputs = refl; limit = λ p. refl; no_memory = λ e. cc }
arithmetic_kind Sub h no_neg no_alu = record { operands = refl; outputs = refl; limit = λ p. refl; no_memory = λ e. cc }
arithmetic_kind Mul h no_neg no_alu = record { operands = refl; outputs = refl; limit = λ p. refl; no_memory = λ e. cc }
arithmetic_kind Div h no_neg no_alu = record { operands = refl; outputs = refl; limit = λ p. refl; no_memory = λ e. cc }
arithmetic_kind Mod h no_neg no_alu = record { operands = refl; outputs = refl; limit = λ p. refl; no_memory = λ e. cc }
arithmetic_kind DivFloor h no_neg no_alu = record { operands = refl; outputs = refl; limit = λ p. refl; no_memory = λ e. cc }
arithmetic_kind ModFloor h no_neg no_alu = record { operands = refl; outputs = refl; limit = λ p. refl; no_memory = λ e. cc }
arithmetic_kind Lt h no_neg no_alu = record { operands = refl; outputs = refl; limit = λ p. refl; no_memory = λ e. cc }
arithmetic_kind Le h no_neg no_alu = record { operands = refl; outputs = refl; limit = λ p. refl; no_memory = λ e. cc }
arithmetic_kind Ge h no_neg no_alu = record { operands = refl; outputs = refl; limit = λ p. refl; no_memory = λ e. cc }
arithmetic_kind Gt h no_neg no_alu = record { operands = refl; outputs = refl; limit = λ p. refl; no_memory = λ e. cc }
arithmetic_kind Neg h no_neg no_alu = absurd (no_neg refl)
arithmetic_kind Alu h no_neg no_alu = absurd (no_alu refl)
arithmetic_kind _ h no_neg no_alu = absurd (cc)

pub equality_kind : (k : Kind) → is_equality k ≡ true → IsPairKind 4096 k
unfolding operands_of outputs_of width_limit
equality_kind Eq h = record { operands = refl; outputs = refl; limit = λ p. refl; no_memory = λ e. cc }
equality_kind Ne h = record { operands = refl; outputs = refl; limit = λ p. refl; no_memory = λ e. cc }
equality_kind Eqx h = record { operands = refl; outputs = refl; limit = λ p. refl; no_memory = λ e. cc }
equality_kind Nex h = record { operands = refl; outputs = refl; limit = λ p. refl; no_memory = λ e. cc }
equality_kind _ h = absurd (cc)

-- ---- the widths of their cells

pub record IsPair (m : ℕ) (c : Cell) (us : List Word) : Type 0 where
  pub is : us ≡ operand us 0 ∷ operand us 1 ∷ []
  pub two : length us ≡ 2
  pub a : 1 ≤ length (operand us 0)
  pub b : 1 ≤ length (operand us 1)
  pub a_limit : length (operand us 0) ≤ m
  pub b_limit : length (operand us 1) ≤ m
  pub some : 1 ≤ y_width c
  pub limit : y_width c ≤ m

pair_of : (us : List Word) (n k : ℕ) → map length us ≡ n ∷ k ∷ [] → us ≡ operand us 0 ∷ operand us 1 ∷ []
pair_of [] n k h = absurd (cc)
pair_of (u ∷ []) n k h = absurd (cc)
pair_of (u ∷ v ∷ []) n k h = refl
pair_of (u ∷ v ∷ w ∷ us) n k h = absurd (cc)

first_width : (us : List Word) (n : ℕ) (ns : List ℕ) → map length us ≡ n ∷ ns → length (operand us 0) ≡ n
first_width [] n ns h = absurd (cc)
first_width (u ∷ us) n ns h = ap (λ xs. get_or xs 0 0) h

second_width : (us : List Word) (n k : ℕ) (ns : List ℕ) → map length us ≡ n ∷ k ∷ ns → length (operand us 1) ≡ k
second_width [] n k ns h = absurd (cc)
second_width (u ∷ []) n k ns h = absurd (cc)
second_width (u ∷ v ∷ us) n k ns h = ap (λ xs. get_or xs 1 0) h

pub pair_fits : (m : ℕ) (c : Cell) (us : List Word) → IsPairKind m c.kind → IsFitted c → map length us ≡ operand_widths c → IsPair m c us
pair_fits m c us k f h =
    let widths : map length us ≡ number_of c AWidth ∷ number_of c BWidth ∷ [] = widths_are c us _ k.operands f h in
    let ins : AllWithin c (a_row ∷ b_row ∷ []) = operands_within c _ k.operands k.no_memory f in
    let outs : AllWithin c (y_row ∷ []) = outputs_within c _ k.outputs k.no_memory f in
    let a_some : 1 ≤ number_of c AWidth = ins.0.some in
    let b_some : 1 ≤ number_of c BWidth = ins.1.0.some in
    let y_some : 1 ≤ number_of c YWidth = outs.0.some in
    let a_limit : number_of c AWidth ≤ width_limit c.kind A = ins.0.limit in
    let b_limit : number_of c BWidth ≤ width_limit c.kind B = ins.1.0.limit in
    let y_limit : number_of c YWidth ≤ width_limit c.kind Y = outs.0.limit in
    let a_is : length (operand us 0) ≡ number_of c AWidth = first_width us _ _ widths in
    let b_is : length (operand us 1) ≡ number_of c BWidth = second_width us _ _ _ widths in
    record {
      is = pair_of us _ _ widths;
      two = ap length (pair_of us _ _ widths);
      a = omega arith;
      b = omega arith;
      a_limit = omega (arith, k.limit A);
      b_limit = omega (arith, k.limit B);
      some = y_some;
      limit = omega (arith, k.limit Y);
    }

-- ---- $neg

pub record IsNegFit (c : Cell) (us : List Word) : Type 0 where
  pub one : 1 ≤ length us
  pub a : 1 ≤ length (operand us 0)
  pub some : 1 ≤ y_width c
  pub limit : y_width c ≤ 128

-- the ports of $neg
pub record IsNegKind (k : Kind) : Type 0 where
  pub operands : operands_of k ≡ a_row ∷ []
  pub outputs : outputs_of k ≡ y_row ∷ []
  pub limit : width_limit k Y ≡ 128
  pub no_memory : k ≢ Mem

neg_kind : (k : Kind) → k ≡ Neg → IsNegKind k
unfolding operands_of outputs_of width_limit
neg_kind Neg h = record { operands = refl; outputs = refl; limit = refl; no_memory = λ e. cc }
neg_kind _ h = absurd (cc)

some_of : (us : List Word) (n : ℕ) (ns : List ℕ) → map length us ≡ n ∷ ns → 1 ≤ length us
some_of [] n ns h = absurd (cc)
some_of (u ∷ us) n ns h = omega arith

pub neg_fits : (c : Cell) (us : List Word) → c.kind ≡ Neg → IsFitted c → map length us ≡ operand_widths c → IsNegFit c us
neg_fits c us e f h =
    let k : IsNegKind c.kind = neg_kind c.kind e in
    let widths : map length us ≡ number_of c AWidth ∷ [] = widths_are c us _ k.operands f h in
    let ins : AllWithin c (a_row ∷ []) = operands_within c _ k.operands k.no_memory f in
    let outs : AllWithin c (y_row ∷ []) = outputs_within c _ k.outputs k.no_memory f in
    let a_some : 1 ≤ number_of c AWidth = ins.0.some in
    let y_limit : number_of c YWidth ≤ width_limit c.kind Y = outs.0.limit in
    let a_is : length (operand us 0) ≡ number_of c AWidth = first_width us _ _ widths in
    record { one = some_of us _ _ widths; a = omega arith; some = outs.0.some; limit = omega (arith, k.limit) }

-- ---- $alu

pub record IsAluFit (c : Cell) (us : List Word) : Type 0 where
  pub four : length us ≡ 4
  pub a : 1 ≤ length (operand us 0)
  pub b : 1 ≤ length (operand us 1)
  pub carry : length (operand us 2) ≡ 1
  pub invert : length (operand us 3) ≡ 1
  pub some : 1 ≤ y_width c
  pub limit : y_width c ≤ 128

-- the ports of $alu
pub record IsAluKind (k : Kind) : Type 0 where
  pub operands : operands_of k ≡ a_row ∷ b_row ∷ row Ci One ∷ row Bi One ∷ []
  pub outputs : outputs_of k ≡ row X (Of YWidth) ∷ row Y (Of YWidth) ∷ row Co (Of YWidth) ∷ []
  pub limit : width_limit k X ≡ 128
  pub no_memory : k ≢ Mem

alu_kind : (k : Kind) → k ≡ Alu → IsAluKind k
unfolding operands_of outputs_of width_limit
alu_kind Alu h = record { operands = refl; outputs = refl; limit = refl; no_memory = λ e. cc }
alu_kind _ h = absurd (cc)

pub alu_fits : (c : Cell) (us : List Word) → c.kind ≡ Alu → IsFitted c → map length us ≡ operand_widths c → IsAluFit c us
alu_fits c us e f h =
    let k : IsAluKind c.kind = alu_kind c.kind e in
    let widths : map length us ≡ number_of c AWidth ∷ number_of c BWidth ∷ 1 ∷ 1 ∷ [] = widths_are c us _ k.operands f h in
    let ins : AllWithin c (a_row ∷ b_row ∷ row Ci One ∷ row Bi One ∷ []) = operands_within c _ k.operands k.no_memory f in
    let outs : AllWithin c (row X (Of YWidth) ∷ row Y (Of YWidth) ∷ row Co (Of YWidth) ∷ []) = outputs_within c _ k.outputs k.no_memory f in
    let a_some : 1 ≤ number_of c AWidth = ins.0.some in
    let b_some : 1 ≤ number_of c BWidth = ins.1.0.some in
    let x_limit : number_of c YWidth ≤ width_limit c.kind X = outs.0.limit in
    let a_is : length (operand us 0) ≡ number_of c AWidth = sym (map_width us 0) ∙ ap (λ ns. get_or ns 0 0) widths in
    let b_is : length (operand us 1) ≡ number_of c BWidth = sym (map_width us 1) ∙ ap (λ ns. get_or ns 1 0) widths in
    record {
      four = sym (length-map us length) ∙ ap length widths;
      a = omega arith;
      b = omega arith;
      carry = sym (map_width us 2) ∙ ap (λ ns. get_or ns 2 0) widths;
      invert = sym (map_width us 3) ∙ ap (λ ns. get_or ns 3 0) widths;
      some = outs.0.some;
      limit = omega (arith, k.limit);
    }

-- ---- rows

-- the row of a kind with two operands
pub pair_row : {E : Type 0} (c : Cell) (k : Kind) (n : ℕ) (signed : Bool) (f : ℕ → Bool → Word → Word → Word) (a b : Word) (r : Result Word E)
    → k ≡ c.kind → n ≡ y_width c → signed ≡ both_signed c → words_by k c (a ∷ b ∷ []) ≡ f (y_width c) (both_signed c) a b ∷ []
    → IfOk r (λ w. w ≡ f n signed a b) → IfOk r (λ w. w ∷ [] ≡ meaning c (a ∷ b ∷ []))
pair_row c k n signed f a b r same width sign row made =
    IfOk-weaker r (λ w. w ≡ f n signed a b) (λ w. w ∷ [] ≡ meaning c (a ∷ b ∷ []))
    (λ w h. ap (λ (x : Word). x ∷ []) (h ∙ ap (λ m. f m signed a b) width ∙ ap (λ s. f (y_width c) s a b) sign) ∙ sym row ∙ ap (λ (x : Kind). words_by x c (a ∷ b ∷ [])) same)
    made

pub neg_row : (c : Cell) (us : List Word) (n : ℕ) (signed : Bool) (w : Word) → c.kind ≡ Neg → n ≡ y_width c → signed ≡ a_signed c → w ≡ neg_word n signed (operand us 0)
    → w ∷ [] ≡ meaning c us
unfolding words_by
neg_row c us n signed w e width sign h =
    ap (λ (x : Word). x ∷ []) (h ∙ ap (λ m. neg_word m signed (operand us 0)) width ∙ ap (λ s. neg_word (y_width c) s (operand us 0)) sign)
    ∙ sym (ap (λ (x : Kind). words_by x c us) e)

-- the three words of $alu
abbrev pub alu_list : ℕ → Bool → Bool → Bool → Word → Word → List Word
alu_list n signed carry invert a b = alu_xor_word n signed invert a b ∷ alu_sum_word n signed carry invert a b ∷ alu_carry_word n signed carry invert a b ∷ []

alu_words_by : (c : Cell) (us : List Word) → words_by Alu c us ≡ alu_list (y_width c) (both_signed c) (bit (operand us 2) 0) (bit (operand us 3) 0) (operand us 0) (operand us 1)
unfolding words_by
alu_words_by c us = refl

pub alu_row : (c : Cell) (us : List Word) (n : ℕ) (signed carry invert : Bool) (a b : Word) → c.kind ≡ Alu → n ≡ y_width c → signed ≡ both_signed c
    → carry ≡ bit (operand us 2) 0 → invert ≡ bit (operand us 3) 0 → a ≡ operand us 0 → b ≡ operand us 1 → alu_list n signed carry invert a b ≡ meaning c us
alu_row c us n signed carry invert a b e width sign ci bi first second =
    ap (λ m. alu_list m signed carry invert a b) width
    ∙ ap (λ s. alu_list (y_width c) s carry invert a b) sign
    ∙ ap (λ t. alu_list (y_width c) (both_signed c) t invert a b) ci
    ∙ ap (λ t. alu_list (y_width c) (both_signed c) (bit (operand us 2) 0) t a b) bi
    ∙ ap (λ u. alu_list (y_width c) (both_signed c) (bit (operand us 2) 0) (bit (operand us 3) 0) u b) first
    ∙ ap (λ v. alu_list (y_width c) (both_signed c) (bit (operand us 2) 0) (bit (operand us 3) 0) (operand us 0) v) second
    ∙ sym (alu_words_by c us) ∙ sym (ap (λ (k : Kind). words_by k c us) e)

pub list_of_two : {x y u v : Word} → x ≡ u → y ≡ v → x ∷ y ∷ [] ≡ u ∷ v ∷ []
list_of_two e f = cc

pub list_of_three : {x y z u v w : Word} → x ≡ u → y ≡ v → z ≡ w → x ∷ y ∷ z ∷ [] ≡ u ∷ v ∷ w ∷ []
list_of_three e f g = cc

-- what a last call gives, as a list in other words
pub gives_items : {E : Type 0} (r : Result (Vec Word Global) E) (u v : List Word) → IfOk r (λ ws. ws.items ≡ u) → u ≡ v → IfOk r (λ ws. ws.items ≡ v)
gives_items r u v made e = IfOk-weaker r (λ (ws : Vec Word Global). ws.items ≡ u) (λ (ws : Vec Word Global). ws.items ≡ v) (λ ws h. h ∙ e) made
