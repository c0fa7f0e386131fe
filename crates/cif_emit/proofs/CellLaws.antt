-- The cells that are appended: what they read, what they drive, and what they say of an assignment.
use Rattle.std.specs.Prelude.{ℕ, ◌≤◌, ◌<◌, ◌^◌, ◌≡◌, Bool, true, false, not, nat_lt, List, [], ◌∷◌, ◌++◌, length, None, if◌then◌else◌, IsTrue, refl}
use Rattle.std.specs.List.{AllByRecursion, list_all}
use Rattle.std.specs.List.Sorted.{IsStrictlySortedBy}
use Rattle.std.proofs.Common.{arith, ap, sym, ◌∙◌, subst, append-nil}
use Rattle.std.proofs.lemmas.List.{length-map}
use Rattle.std.proofs.lemmas.Bool.Decides.{nat_tests}
use Rattle.cif_defs.specs.Words.{Word, bit, word, operand}
use Rattle.cif_defs.specs.Meanings.{not_word, reduce_and_word, reduce_or_word, reduce_xor_word, and_word, or_word, xor_word, add_word, mul_word, div_word, lt_word, eq_word, mux_word}
use Rattle.cif_defs.specs.declared.kinds.Kind.{Kind}
use Rattle.cif_defs.specs.declared.kinds.Kind.TheVariants.{Mux}
use Rattle.cif_defs.specs.declared.kinds.Param.{Param}
use Rattle.cif_defs.specs.declared.kinds.Param.TheVariants.{ASigned, BSigned, AWidth, BWidth, YWidth, Width}
use Rattle.cif_defs.specs.declared.kinds.CellPort.{CellPort}
use Rattle.cif_defs.specs.declared.kinds.CellPort.TheVariants.{A, B, S, Y}
use Rattle.cif_defs.specs.declared.kinds.PortWidth.TheVariants.{One as OneBit, Of}
use Rattle.cif_defs.specs.declared.kinds.PortRow.{PortRow}
use Rattle.cif_defs.specs.declared.raw_module.RawParam.{RawParam}
use Rattle.cif_defs.specs.declared.raw_module.Connection.{Connection}
use Rattle.cif_defs.specs.declared.raw_module.RawBit.{RawBit}
use Rattle.cif_defs.specs.declared.raw_module.RawCell.{RawCell}
use Rattle.cif_defs.specs.Table.{parameters_of, operands_of, outputs_of, row, a_row, b_row, y_row}
use Rattle.cif_defs.specs.Cells.{words_by}
use Rattle.cif_defs.specs.Accepted.{cell_of}
use Rattle.cif_defs.specs.RawModule.{is_net, needed_number}
use Rattle.cif_checks.specs.Checks.{first_fault, fault_if, has_value, bad_parameter}
use Rattle.cif_defs.specs.Order.{IsCellInOrder}
use Rattle.cif_defs.proofs.WordLaws.{length-word}
use Rattle.cif_defs.proofs.WordNumbers.{extend-same}
use Rattle.cif_emit.specs.Makers.{Maker, name_in}
use Rattle.cif_emit.specs.Handed.{IsAdded}
use Rattle.cif_term.specs.declared.ops.Op1.{Op1}
use Rattle.cif_term.specs.declared.ops.Op1.TheVariants.{Not, ReduceAnd, ReduceOr, ReduceXor}
use Rattle.cif_term.specs.declared.ops.Op2.{Op2}
use Rattle.cif_term.specs.declared.ops.Op2.TheVariants.{And, Or, Xor, Add, Mul, Div, LessUnsigned, LessSigned, Equal}
use Rattle.cif_term.specs.Formulas.{is_on_numbers, one_width, two_width, one_word, two_word}
use Rattle.cif_emit.specs.CellForms.{one_kind, two_kind, is_signed, sign_number, number_param, unary_numbers, binary_numbers, connection, plain_cell, unary_cell, binary_cell, choice_cell}
use Rattle.cif_raw_runs.specs.Assigned.{raw_bit, raw_word, words_given}
use Rattle.cif_emit.specs.Emitted.{are_known, IsNumber, IsAtPort, IsEmitted}
use Rattle.cif_emit.proofs.Emissions.{cell_emitted, known_append, known_first, known_second}
use Rattle.cif_emit.proofs.Shapes.{PortFits, shaped_plain, shaped_output, shaped_operands, shaped_means, one_shape, two_shape, choice_shape, operand_limit, unary_params, binary_params}

-- ---- lists whose items are known

pub one_of : {T : Type 0} {xs : List T} {x a : T} → xs ≡ x ∷ [] → x ≡ a → xs ≡ a ∷ []
one_of {T} e f = e ∙ ap (λ (q : T). q ∷ []) f

pub two_of : {T : Type 0} {xs : List T} {x y a b : T} → xs ≡ x ∷ y ∷ [] → x ≡ a → y ≡ b → xs ≡ a ∷ b ∷ []
two_of {T} {y = y} {a = a} e f g = e ∙ ap (λ (q : T). q ∷ y ∷ []) f ∙ ap (λ (q : T). a ∷ q ∷ []) g

pub three_of : {T : Type 0} {xs : List T} {x y z a b c : T} → xs ≡ x ∷ y ∷ z ∷ [] → x ≡ a → y ≡ b → z ≡ c → xs ≡ a ∷ b ∷ c ∷ []
three_of {T} {y = y} {z = z} {a = a} {b = b} e f g h = e ∙ ap (λ (q : T). q ∷ y ∷ z ∷ []) f ∙ ap (λ (q : T). a ∷ q ∷ z ∷ []) g ∙ ap (λ (q : T). a ∷ b ∷ q ∷ []) h

-- ---- parameters and connections

number : (p : Param) (x : ℕ) → x < 2 ^ 32 → IsNumber (number_param p x)
number p x h = (p, (x, (h, refl)))

at_port : (port : CellPort) (bits : List RawBit) → IsAtPort (connection port bits)
at_port port bits = (port, refl)

-- ---- one operand

-- the row of an operation at a width
one_row : Op1 → ℕ → Word → Word
one_row Not n a = not_word n false a
one_row ReduceAnd n a = reduce_and_word n a
one_row ReduceOr n a = reduce_or_word n a
one_row ReduceXor n a = reduce_xor_word n a

below_limit_test : (n : ℕ) → n < 2 ^ 32 → nat_lt n (2 ^ 32) ≡ true
below_limit_test n h = grind (arith, nat_tests)

one_gives : (op : Op1) (v : ℕ → Bool) (name : List ℕ) (n width : ℕ) (a y : List RawBit) → n < 2 ^ 32 → width < 2 ^ 32
    → operand (words_given v (unary_cell name op n width a y) (one_kind op)) 0 ≡ one_row op width (raw_word v a)
unfolding parameters_of operands_of outputs_of words_by cell_of needed_number one_row
one_gives Not v name n width a y h k = let p = below_limit_test n h in let q = below_limit_test width k in rw (p, q) refl
one_gives ReduceAnd v name n width a y h k = let p = below_limit_test n h in let q = below_limit_test width k in rw (p, q) refl
one_gives ReduceOr v name n width a y h k = let p = below_limit_test n h in let q = below_limit_test width k in rw (p, q) refl
one_gives ReduceXor v name n width a y h k = let p = below_limit_test n h in let q = below_limit_test width k in rw (p, q) refl

one_row_long : (op : Op1) (n : ℕ) (a : Word) → length (one_row op n a) ≡ n
unfolding one_row
one_row_long Not n a = length-word n _
one_row_long ReduceAnd n a = length-word n _
one_row_long ReduceOr n a = length-word n _
one_row_long ReduceXor n a = length-word n _

one_row_is : (op : Op1) (n : ℕ) (a : Word) → length a ≡ n → one_row op (one_width op n) a ≡ one_word op a
unfolding one_row
one_row_is Not n a e = ap (λ k. not_word k false a) (sym e)
one_row_is ReduceAnd n a e = refl
one_row_is ReduceOr n a e = refl
one_row_is ReduceXor n a e = refl

one_width_range : (op : Op1) (n : ℕ) → 1 ≤ n → n ≤ 4096 → (1 ≤ one_width op n) × (one_width op n ≤ 4096)
one_width_range Not n a b = (a, b)
one_width_range ReduceAnd n a b = (omega arith, omega arith)
one_width_range ReduceOr n a b = (omega arith, omega arith)
one_width_range ReduceXor n a b = (omega arith, omega arith)

unary_in_order : (name : List ℕ) (op : Op1) (n width : ℕ) (a y : List RawBit) → IsCellInOrder (unary_cell name op n width a y)
unfolding IsStrictlySortedBy
unary_in_order name op n width a y = record { parameters = ((refl, (refl, tt)), ((refl, tt), (tt, tt))); attributes = tt; connections = ((refl, tt), (tt, tt)) }

unary_params_given : (name : List ℕ) (op : Op1) (n width : ℕ) (a y : List RawBit) → n < 2 ^ 32 → width < 2 ^ 32
    → first_fault (λ p. fault_if (not (has_value (unary_cell name op n width a y) p)) (bad_parameter (unary_cell name op n width a y) p)) unary_params ≡ None
unfolding needed_number
unary_params_given name op n width a y h k = let p = below_limit_test n h in let q = below_limit_test width k in rw (p, q) refl

unary_are_numbers : (n width : ℕ) → n < 2 ^ 32 → width < 2 ^ 32 → AllByRecursion IsNumber (unary_numbers n width)
unary_are_numbers n width h k = (number ASigned 0 (omega arith), (number AWidth n h, (number YWidth width k, tt)))

unary_ports : (name : List ℕ) (op : Op1) (n width : ℕ) (a y : List RawBit) → length a ≡ n → length y ≡ width → 1 ≤ n → n ≤ 4096 → 1 ≤ width → width ≤ 4096
    → AllByRecursion (PortFits (unary_cell name op n width a y) 4096) (a_row ∷ y_row ∷ [])
unfolding needed_number
unary_ports name op n width a y ea ey a1 a2 y1 y2 =
    let p = below_limit_test n (omega arith) in
    let q = below_limit_test width (omega arith) in (
      record { connected = refl; wide = rw p ea; some = rw p a1; few = rw p a2 },
      (record { connected = refl; wide = rw q ey; some = rw q y1; few = rw q y2 }, tt),
    )

-- the cell of an operation on one word
pub one_emitted : (m n : Maker) (old new : List RawCell) (op : Op1) (a y : List RawBit) → 1 ≤ length a → length a ≤ 4096
    → IsAdded m n old new (unary_cell (name_in m m.made) op (length a) (one_width op (length a)) a y) (one_width op (length a)) y
    → IsEmitted m n old new a (λ v w. w ≡ one_word op (raw_word v a)) 1 (one_width op (length a)) y
one_emitted m n old new op a y some few added =
    let name : List ℕ = name_in m m.made in
    let width : ℕ = one_width op (length a) in
    let c : RawCell = unary_cell name op (length a) width a y in
    let s = one_shape op in
    let range = one_width_range op (length a) some few in
    let nets : list_all is_net y ≡ true = added.nets.nets in
    let wide : length y ≡ width = added.nets.as_wide in
    cell_emitted m n old new c width a y (λ v w. w ≡ one_word op (raw_word v a)) added refl
    (shaped_plain c (one_kind op) unary_params (a_row ∷ []) y_row 4096 s refl refl refl (unary_are_numbers (length a) width (omega arith) (omega (arith, range.1))) (at_port A a, (at_port Y y, tt)) (unary_in_order name op (length a) width a y)
    (unary_params_given name op (length a) width a y (omega arith) (omega (arith, range.1)))
    (unary_ports name op (length a) width a y refl wide some few range.0 range.1) nets (omega (arith, range.1)))
    (shaped_output c (one_kind op) unary_params (a_row ∷ []) y_row 4096 s refl)
    (λ known h. subst (λ (l : List RawBit). are_known known l ≡ true) (sym (shaped_operands c (one_kind op) unary_params (a_row ∷ []) y_row 4096 s refl ∙ append-nil a)) h)
    (λ v met. shaped_means v c (one_kind op) unary_params (a_row ∷ []) y_row 4096 (one_row op width (raw_word v a)) s refl nets
    (wide ∙ sym (one_row_long op width (raw_word v a)))
    (one_gives op v name (length a) width a y (omega arith) (omega (arith, range.1))) met
    ∙ one_row_is op (length a) (raw_word v a) (length-map a (raw_bit v)))

same_cell : (name : List ℕ) (k l : Kind) (ps qs : List RawParam) (xs ys : List Connection) → k ≡ l → ps ≡ qs → xs ≡ ys → plain_cell name k ps xs ≡ plain_cell name l qs ys
same_cell name k l ps qs xs ys e f g = ap (λ (q : Kind). plain_cell name q ps xs) e ∙ ap (λ (q : List RawParam). plain_cell name l q xs) f ∙ ap (λ (q : List Connection). plain_cell name l qs q) g

-- the same, where its parts are found one by one
pub one_made : (m n : Maker) (old new : List RawCell) (op : Op1) (k : Kind) (ps : List RawParam) (xs : List Connection) (width : ℕ) (a y : List RawBit) → 1 ≤ length a → length a ≤ 4096
    → width ≡ one_width op (length a) → k ≡ one_kind op → ps ≡ unary_numbers (length a) width → xs ≡ connection A a ∷ []
    → IsAdded m n old new (plain_cell (name_in m m.made) k ps (xs ++ connection Y y ∷ [])) width y
    → IsEmitted m n old new a (λ v w. w ≡ one_word op (raw_word v a)) 1 (one_width op (length a)) y
one_made m n old new op k ps xs width a y some few wide kind params connections h =
    let same : plain_cell (name_in m m.made) k ps (xs ++ connection Y y ∷ []) ≡ unary_cell (name_in m m.made) op (length a) (one_width op (length a)) a y =
    same_cell _ _ _ _ _ _ _ kind (params ∙ ap (unary_numbers (length a)) wide) (ap (λ (l : List Connection). l ++ connection Y y ∷ []) connections) in
    one_emitted m n old new op a y some few (subst (λ w. IsAdded m n old new (unary_cell (name_in m m.made) op (length a) (one_width op (length a)) a y) w y) wide (subst (λ (c : RawCell). IsAdded m n old new c width y) same h))

-- ---- two operands

two_row : Op2 → ℕ → Word → Word → Word
two_row And n a b = and_word n false a b
two_row Or n a b = or_word n false a b
two_row Xor n a b = xor_word n false a b
two_row Add n a b = add_word n false a b
two_row Mul n a b = mul_word n false a b
two_row Div n a b = div_word n false a b
two_row LessUnsigned n a b = lt_word n false a b
two_row LessSigned n a b = lt_word n true a b
two_row Equal n a b = eq_word n false a b

two_gives : (op : Op2) (v : ℕ → Bool) (name : List ℕ) (n width : ℕ) (a b y : List RawBit) → n < 2 ^ 32 → width < 2 ^ 32
    → operand (words_given v (binary_cell name op n width a b y) (two_kind op)) 0 ≡ two_row op width (raw_word v a) (raw_word v b)
unfolding parameters_of operands_of outputs_of words_by cell_of needed_number two_row
two_gives And v name n width a b y h k = let p = below_limit_test n h in let q = below_limit_test width k in rw (p, q) refl
two_gives Or v name n width a b y h k = let p = below_limit_test n h in let q = below_limit_test width k in rw (p, q) refl
two_gives Xor v name n width a b y h k = let p = below_limit_test n h in let q = below_limit_test width k in rw (p, q) refl
two_gives Add v name n width a b y h k = let p = below_limit_test n h in let q = below_limit_test width k in rw (p, q) refl
two_gives Mul v name n width a b y h k = let p = below_limit_test n h in let q = below_limit_test width k in rw (p, q) refl
two_gives Div v name n width a b y h k = let p = below_limit_test n h in let q = below_limit_test width k in rw (p, q) refl
two_gives LessUnsigned v name n width a b y h k = let p = below_limit_test n h in let q = below_limit_test width k in rw (p, q) refl
two_gives LessSigned v name n width a b y h k = let p = below_limit_test n h in let q = below_limit_test width k in rw (p, q) refl
two_gives Equal v name n width a b y h k = let p = below_limit_test n h in let q = below_limit_test width k in rw (p, q) refl

two_row_long : (op : Op2) (n : ℕ) (a b : Word) → length (two_row op n a b) ≡ n
unfolding two_row
two_row_long And n a b = length-word n _
two_row_long Or n a b = length-word n _
two_row_long Xor n a b = length-word n _
two_row_long Add n a b = length-word n _
two_row_long Mul n a b = length-word n _
two_row_long Div n a b = length-word n _
two_row_long LessUnsigned n a b = length-word n _
two_row_long LessSigned n a b = length-word n _
two_row_long Equal n a b = length-word n _

two_row_is : (op : Op2) (n : ℕ) (a b : Word) → length a ≡ n → two_row op (two_width op n) a b ≡ two_word op a b
unfolding two_row
two_row_is And n a b e = ap (λ k. and_word k false a b) (sym e)
two_row_is Or n a b e = ap (λ k. or_word k false a b) (sym e)
two_row_is Xor n a b e = ap (λ k. xor_word k false a b) (sym e)
two_row_is Add n a b e = ap (λ k. add_word k false a b) (sym e)
two_row_is Mul n a b e = ap (λ k. mul_word k false a b) (sym e)
two_row_is Div n a b e = ap (λ k. div_word k false a b) (sym e)
two_row_is LessUnsigned n a b e = refl
two_row_is LessSigned n a b e = refl
two_row_is Equal n a b e = refl

two_width_range : (op : Op2) (n limit : ℕ) → 1 ≤ n → n ≤ limit → 1 ≤ limit → (1 ≤ two_width op n) × (two_width op n ≤ limit)
two_width_range And n limit a b c = (a, b)
two_width_range Or n limit a b c = (a, b)
two_width_range Xor n limit a b c = (a, b)
two_width_range Add n limit a b c = (a, b)
two_width_range Mul n limit a b c = (a, b)
two_width_range Div n limit a b c = (a, b)
two_width_range LessUnsigned n limit a b c = (omega arith, c)
two_width_range LessSigned n limit a b c = (omega arith, c)
two_width_range Equal n limit a b c = (omega arith, c)

binary_in_order : (name : List ℕ) (op : Op2) (n width : ℕ) (a b y : List RawBit) → IsCellInOrder (binary_cell name op n width a b y)
unfolding IsStrictlySortedBy
binary_in_order name op n width a b y = record {
  parameters = ((refl, (refl, (refl, (refl, tt)))), ((refl, (refl, (refl, tt))), ((refl, (refl, tt)), ((refl, tt), (tt, tt)))));
  attributes = tt;
  connections = ((refl, (refl, tt)), ((refl, tt), (tt, tt)));
}

sign_is_small : (b : Bool) → sign_number b < 2 ^ 32
sign_is_small true = omega arith
sign_is_small false = omega arith

binary_are_numbers : (signed : Bool) (n width : ℕ) → n < 2 ^ 32 → width < 2 ^ 32 → AllByRecursion IsNumber (binary_numbers signed n width)
binary_are_numbers signed n width h k =
    let sign = sign_is_small signed in
    (number ASigned (sign_number signed) sign, (number AWidth n h, (number BSigned (sign_number signed) sign, (number BWidth n h, (number YWidth width k, tt)))))

sign_small : (op : Op2) → nat_lt (sign_number (is_signed op)) (2 ^ 32) ≡ true
sign_small op = below_limit_test (sign_number (is_signed op)) (sign_is_small (is_signed op))

binary_params_given : (name : List ℕ) (op : Op2) (n width : ℕ) (a b y : List RawBit) → n < 2 ^ 32 → width < 2 ^ 32
    → first_fault (λ p. fault_if (not (has_value (binary_cell name op n width a b y) p)) (bad_parameter (binary_cell name op n width a b y) p)) binary_params ≡ None
unfolding needed_number
binary_params_given name op n width a b y h k = let p = below_limit_test n h in let q = below_limit_test width k in let r = sign_small op in rw (p, q, r) refl

binary_ports : (name : List ℕ) (op : Op2) (n width limit : ℕ) (a b y : List RawBit) → length a ≡ n → length b ≡ n → length y ≡ width → limit ≤ 4096 → 1 ≤ n → n ≤ limit → 1 ≤ width → width ≤ limit
    → AllByRecursion (PortFits (binary_cell name op n width a b y) limit) (a_row ∷ b_row ∷ y_row ∷ [])
unfolding needed_number
binary_ports name op n width limit a b y ea eb ey l a1 a2 y1 y2 =
    let p = below_limit_test n (omega arith) in
    let q = below_limit_test width (omega arith) in (
      record { connected = refl; wide = rw p ea; some = rw p a1; few = rw p a2 },
      (
        record { connected = refl; wide = rw p eb; some = rw p a1; few = rw p a2 },
        (record { connected = refl; wide = rw q ey; some = rw q y1; few = rw q y2 }, tt),
      ),
    )

limit_by : (b : Bool) (n : ℕ) → n ≤ 4096 → (b ≡ true → n ≤ 128) → (n ≤ (if b then 128 else 4096)) × ((if b then 128 else 4096) ≤ 4096) × (1 ≤ (if b then 128 else 4096))
limit_by true n h k = (k refl, omega arith, omega arith)
limit_by false n h k = (h, omega arith, omega arith)

-- the cell of an operation on two words
pub two_emitted : (m n : Maker) (old new : List RawCell) (op : Op2) (a b y : List RawBit) → length b ≡ length a → 1 ≤ length a → length a ≤ 4096 → (IsTrue (is_on_numbers op) → length a ≤ 128)
    → IsAdded m n old new (binary_cell (name_in m m.made) op (length a) (two_width op (length a)) a b y) (two_width op (length a)) y
    → IsEmitted m n old new (a ++ b) (λ v w. w ≡ two_word op (raw_word v a) (raw_word v b)) 1 (two_width op (length a)) y
two_emitted m n old new op a b y same some few numbers added =
    let name : List ℕ = name_in m m.made in
    let width : ℕ = two_width op (length a) in
    let c : RawCell = binary_cell name op (length a) width a b y in
    let s = two_shape op in
    let limit = limit_by (is_on_numbers op) (length a) few numbers in
    let range = two_width_range op (length a) (operand_limit op) some limit.0 limit.2 in
    let small : width ≤ 4096 = omega (arith, range.1, limit.1) in
    let nets : list_all is_net y ≡ true = added.nets.nets in
    let wide : length y ≡ width = added.nets.as_wide in
    cell_emitted m n old new c width (a ++ b) y (λ v w. w ≡ two_word op (raw_word v a) (raw_word v b)) added refl
    (shaped_plain c (two_kind op) binary_params (a_row ∷ b_row ∷ []) y_row (operand_limit op) s refl refl refl (binary_are_numbers (is_signed op) (length a) width (omega arith) (omega (arith, small))) (at_port A a, (at_port B b, (at_port Y y, tt))) (binary_in_order name op (length a) width a b y)
    (binary_params_given name op (length a) width a b y (omega arith) (omega (arith, small)))
    (binary_ports name op (length a) width (operand_limit op) a b y refl same wide limit.1 some limit.0 range.0 range.1) nets (omega (arith, small)))
    (shaped_output c (two_kind op) binary_params (a_row ∷ b_row ∷ []) y_row (operand_limit op) s refl)
    (λ known h. subst (λ (l : List RawBit). are_known known l ≡ true) (sym (shaped_operands c (two_kind op) binary_params (a_row ∷ b_row ∷ []) y_row (operand_limit op) s refl ∙ ap (λ (l : List RawBit). a ++ l) (append-nil b))) h)
    (λ v met. shaped_means v c (two_kind op) binary_params (a_row ∷ b_row ∷ []) y_row (operand_limit op) (two_row op width (raw_word v a) (raw_word v b)) s refl nets
    (wide ∙ sym (two_row_long op width (raw_word v a) (raw_word v b)))
    (two_gives op v name (length a) width a b y (omega arith) (omega (arith, small))) met
    ∙ two_row_is op (length a) (raw_word v a) (raw_word v b) (length-map a (raw_bit v)))

pub two_made : (m n : Maker) (old new : List RawCell) (op : Op2) (k : Kind) (ps : List RawParam) (xs : List Connection) (width : ℕ) (a b y : List RawBit)
    → length b ≡ length a → 1 ≤ length a → length a ≤ 4096 → (IsTrue (is_on_numbers op) → length a ≤ 128)
    → width ≡ two_width op (length a) → k ≡ two_kind op → ps ≡ binary_numbers (is_signed op) (length a) width → xs ≡ connection A a ∷ connection B b ∷ []
    → IsAdded m n old new (plain_cell (name_in m m.made) k ps (xs ++ connection Y y ∷ [])) width y
    → IsEmitted m n old new (a ++ b) (λ v w. w ≡ two_word op (raw_word v a) (raw_word v b)) 1 (two_width op (length a)) y
two_made m n old new op k ps xs width a b y equal some few numbers wide kind params connections h =
    let same : plain_cell (name_in m m.made) k ps (xs ++ connection Y y ∷ []) ≡ binary_cell (name_in m m.made) op (length a) (two_width op (length a)) a b y =
    same_cell _ _ _ _ _ _ _ kind (params ∙ ap (binary_numbers (is_signed op) (length a)) wide) (ap (λ (l : List Connection). l ++ connection Y y ∷ []) connections) in
    two_emitted m n old new op a b y equal some few numbers (subst (λ w. IsAdded m n old new (binary_cell (name_in m m.made) op (length a) (two_width op (length a)) a b y) w y) wide (subst (λ (c : RawCell). IsAdded m n old new c width y) same h))

-- ---- choices

abbrev choice_operands : List PortRow
choice_operands = row A (Of Width) ∷ row B (Of Width) ∷ row S OneBit ∷ []

abbrev choice_output : PortRow
choice_output = row Y (Of Width)

choice_gives : (v : ℕ → Bool) (name : List ℕ) (n : ℕ) (a b s y : List RawBit) → n < 2 ^ 32
    → operand (words_given v (choice_cell name n a b s y) Mux) 0 ≡ mux_word n (raw_word v a) (raw_word v b) (raw_word v s)
unfolding parameters_of operands_of outputs_of words_by cell_of needed_number
choice_gives v name n a b s y h = let p = below_limit_test n h in rw p refl

choice_in_order : (name : List ℕ) (n : ℕ) (a b s y : List RawBit) → IsCellInOrder (choice_cell name n a b s y)
unfolding IsStrictlySortedBy
choice_in_order name n a b s y = record {
  parameters = (tt, tt);
  attributes = tt;
  connections = ((refl, (refl, (refl, tt))), ((refl, (refl, tt)), ((refl, tt), (tt, tt))));
}

choice_params_given : (name : List ℕ) (n : ℕ) (a b s y : List RawBit) → n < 2 ^ 32
    → first_fault (λ p. fault_if (not (has_value (choice_cell name n a b s y) p)) (bad_parameter (choice_cell name n a b s y) p)) (Width ∷ []) ≡ None
unfolding needed_number
choice_params_given name n a b s y h = let p = below_limit_test n h in rw p refl

choice_ports : (name : List ℕ) (n : ℕ) (a b s y : List RawBit) → length a ≡ n → length b ≡ n → length s ≡ 1 → length y ≡ n → 1 ≤ n → n ≤ 4096
    → AllByRecursion (PortFits (choice_cell name n a b s y) 4096) (choice_operands ++ choice_output ∷ [])
unfolding needed_number
choice_ports name n a b s y ea eb es ey some few =
    let p = below_limit_test n (omega arith) in (
      record { connected = refl; wide = rw p ea; some = rw p some; few = rw p few },
      (
        record { connected = refl; wide = rw p eb; some = rw p some; few = rw p few },
        (
          record { connected = refl; wide = es; some = omega arith; few = omega arith },
          (record { connected = refl; wide = rw p ey; some = rw p some; few = rw p few }, tt),
        ),
      ),
    )

chosen_word : (n : ℕ) (a b : Word) (t : Bool) → length a ≡ n → length b ≡ n → word n (λ i. if t then bit b i else bit a i) ≡ (if t then b else a)
chosen_word n a b true ea eb = extend-same n false b eb
chosen_word n a b false ea eb = extend-same n false a ea

known_three : (known : List ℕ) (s a b : List RawBit) → are_known known (s ++ (a ++ b)) ≡ true → are_known known (a ++ (b ++ (s ++ []))) ≡ true
known_three known s a b h =
    let rest = known_second known s (a ++ b) h in
    known_append known a (b ++ (s ++ [])) (known_first known a b rest) (known_append known b (s ++ []) (known_second known a b rest)
    (subst (λ (l : List RawBit). are_known known l ≡ true) (sym (append-nil s)) (known_first known s (a ++ b) h)))

-- the cell of a choice
pub choice_emitted : (m n : Maker) (old new : List RawCell) (s a b y : List RawBit) → length s ≡ 1 → length b ≡ length a → 1 ≤ length a → length a ≤ 4096
    → IsAdded m n old new (choice_cell (name_in m m.made) (length a) a b s y) (length a) y
    → IsEmitted m n old new (s ++ (a ++ b)) (λ v w. w ≡ (if bit (raw_word v s) 0 then raw_word v b else raw_word v a)) 1 (length a) y
choice_emitted m n old new s a b y one same some few added =
    let name : List ℕ = name_in m m.made in
    let c : RawCell = choice_cell name (length a) a b s y in
    let nets : list_all is_net y ≡ true = added.nets.nets in
    let wide : length y ≡ length a = added.nets.as_wide in
    cell_emitted m n old new c (length a) (s ++ (a ++ b)) y (λ v w. w ≡ (if bit (raw_word v s) 0 then raw_word v b else raw_word v a)) added refl
    (shaped_plain c Mux (Width ∷ []) choice_operands choice_output 4096 choice_shape refl refl refl (number Width (length a) (omega arith), tt) (at_port A a, (at_port B b, (at_port S s, (at_port Y y, tt)))) (choice_in_order name (length a) a b s y)
    (choice_params_given name (length a) a b s y (omega arith))
    (choice_ports name (length a) a b s y refl same one wide some few) nets (omega arith))
    (shaped_output c Mux (Width ∷ []) choice_operands choice_output 4096 choice_shape refl)
    (λ known h. subst (λ (l : List RawBit). are_known known l ≡ true) (sym (shaped_operands c Mux (Width ∷ []) choice_operands choice_output 4096 choice_shape refl)) (known_three known s a b h))
    (λ v met. shaped_means v c Mux (Width ∷ []) choice_operands choice_output 4096 (mux_word (length a) (raw_word v a) (raw_word v b) (raw_word v s)) choice_shape refl nets
    (wide ∙ sym (length-word (length a) _))
    (choice_gives v name (length a) a b s y (omega arith)) met
    ∙ chosen_word (length a) (raw_word v a) (raw_word v b) (bit (raw_word v s) 0) (length-map a (raw_bit v)) (length-map b (raw_bit v) ∙ same))

pub choice_made : (m n : Maker) (old new : List RawCell) (ps : List RawParam) (xs : List Connection) (s a b y : List RawBit) → length s ≡ 1 → length b ≡ length a → 1 ≤ length a → length a ≤ 4096
    → ps ≡ number_param Width (length a) ∷ [] → xs ≡ connection A a ∷ connection B b ∷ connection S s ∷ []
    → IsAdded m n old new (plain_cell (name_in m m.made) Mux ps (xs ++ connection Y y ∷ [])) (length a) y
    → IsEmitted m n old new (s ++ (a ++ b)) (λ v w. w ≡ (if bit (raw_word v s) 0 then raw_word v b else raw_word v a)) 1 (length a) y
choice_made m n old new ps xs s a b y one equal some few params connections h =
    let same : plain_cell (name_in m m.made) Mux ps (xs ++ connection Y y ∷ []) ≡ choice_cell (name_in m m.made) (length a) a b s y =
    same_cell _ Mux Mux _ _ _ _ refl params (ap (λ (l : List Connection). l ++ connection Y y ∷ []) connections) in
    choice_emitted m n old new s a b y one equal some few (subst (λ (c : RawCell). IsAdded m n old new c (length a) y) same h)
