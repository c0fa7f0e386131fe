-- Wide words, piece by piece.
use Rattle.std.specs.Prelude.{ℕ, suc, ◌+◌, ◌-◌, ◌*◌, ◌≤◌, ◌<◌, ◌≡◌, min, Bool, true, false, not, ◌&&◌, ◌||◌, nat_lt, List, [], ◌∷◌, ◌++◌, map, length, take, drop, get_or, if◌then◌else◌, IsTrue, refl}
use Rattle.std.proofs.Common.{arith, ap, sym, ◌∙◌, subst, length-append, length-take, length-drop}
use Rattle.std.proofs.Math.Seq.{take-add}
use Rattle.std.proofs.lemmas.Bool.Decides.{nat_tests}
use Rattle.std.proofs.lemmas.List.{map-append, length-map, take_all, take_min, take-append-drop}
use Rattle.std.proofs.lemmas.List.Folds.{list_any-append, list_all-append}
use Rattle.cif_defs.specs.Words.{Word, bit, word, flag_word, xor, parity, has_one, is_all_ones}
use Rattle.cif_defs.proofs.Numbers.{word-suc}
use Rattle.cif_defs.specs.declared.raw_module.RawBit.{RawBit}
use Rattle.cif_defs.specs.declared.raw_module.RawCell.{RawCell}
use Rattle.cif_term.specs.declared.ops.Op1.{Op1}
use Rattle.cif_term.specs.declared.ops.Op1.TheVariants.{Not, ReduceAnd, ReduceOr, ReduceXor}
use Rattle.cif_term.specs.declared.ops.Op2.{Op2}
use Rattle.cif_term.specs.declared.ops.Op2.TheVariants.{And, Or, Xor, Add, Mul, Div, LessUnsigned, LessSigned, Equal}
use Rattle.cif_term.specs.Formulas.{is_on_numbers, pieces, joined_pieces, one_cost, one_width, one_word, two_cost, two_width, two_word}
use Rattle.cif_term.proofs.Widened.{compared-equal}
use Rattle.cif_raw_runs.specs.Assigned.{raw_bit, raw_word}
use Rattle.cif_emit.specs.Handed.{IsKept}
use Rattle.cif_emit.specs.Makers.{Maker}
use Rattle.cif_emit.specs.Emitted.{are_known, IsEmitted}
use Rattle.cif_emit.specs.Pieces.{are_same, is_bitwise, is_reduction, piece_at, reduced}
use Rattle.cif_emit.proofs.Emissions.{known_append, known_first, known_second, nothing_emitted, then_emitted, weaker}

-- ---- pieces of a list

-- the first i pieces
abbrev pub front : List RawBit → ℕ → List RawBit
front bits i = take (i * 4096) bits

pub front_more : (bits : List RawBit) (i : ℕ) → front bits (i + 1) ≡ front bits i ++ piece_at bits i
front_more bits i = ap (λ k. take k bits) (omega arith) ∙ take-add (i * 4096) 4096 bits

pub front_all : (bits : List RawBit) (n : ℕ) → n ≡ pieces (length bits) → front bits n ≡ bits
front_all bits n e = take_all (n * 4096) bits (omega arith)

pub front_none : (bits : List RawBit) → front bits 0 ≡ []
front_none bits = refl

pub length-front : (bits : List RawBit) (i : ℕ) → length (front bits (i + 1)) ≡ length (front bits i) + length (piece_at bits i)
length-front bits i = ap length (front_more bits i) ∙ length-append (front bits i) (piece_at bits i)

pub length-piece : (bits : List RawBit) (i : ℕ) → length (piece_at bits i) ≡ min 4096 (length bits - i * 4096)
length-piece bits i = length-take 4096 (drop (i * 4096) bits) ∙ ap (min 4096) (length-drop (i * 4096) bits)

pub some_piece : (bits : List RawBit) (i : ℕ) → i < pieces (length bits) → 1 ≤ length (piece_at bits i)
some_piece bits i h = omega (arith, length-piece bits i)

pub small_piece : (bits : List RawBit) (i : ℕ) → length (piece_at bits i) ≤ 4096
small_piece bits i = omega (arith, length-piece bits i)

pub same_pieces : (a b : List RawBit) (i : ℕ) → length b ≡ length a → length (piece_at b i) ≡ length (piece_at a i)
same_pieces a b i e = length-piece b i ∙ ap (λ k. min 4096 (k - i * 4096)) e ∙ sym (length-piece a i)

same_fronts : (a b : List RawBit) (i : ℕ) → length b ≡ length a → length (front b i) ≡ length (front a i)
same_fronts a b i e = length-take (i * 4096) b ∙ ap (min (i * 4096)) e ∙ sym (length-take (i * 4096) a)

-- the piece that a range gives
pub piece_is : (bits : List RawBit) (i stop : ℕ) → stop ≡ min (length bits) (i * 4096 + 4096) → take (stop - i * 4096) (drop (i * 4096) bits) ≡ piece_at bits i
piece_is bits i stop e =
    let count : stop - i * 4096 ≡ min 4096 (length (drop (i * 4096) bits)) = omega (arith, length-drop (i * 4096) bits) in
    ap (λ k. take k (drop (i * 4096) bits)) count ∙ take_min 4096 (drop (i * 4096) bits)

pub words_more : (v : ℕ → Bool) (bits : List RawBit) (i : ℕ) → raw_word v (front bits (i + 1)) ≡ raw_word v (front bits i) ++ raw_word v (piece_at bits i)
words_more v bits i = ap (raw_word v) (front_more bits i) ∙ map-append (raw_bit v) (front bits i) (piece_at bits i)

piece_known : (known : List ℕ) (bits : List RawBit) (i : ℕ) → are_known known bits ≡ true → are_known known (piece_at bits i) ≡ true
piece_known known bits i h =
    let after : are_known known (drop (i * 4096) bits) ≡ true = known_second known (take (i * 4096) bits) _ (subst (λ (l : List RawBit). are_known known l ≡ true) (sym (take-append-drop (i * 4096) bits)) h) in
    known_first known (take 4096 (drop (i * 4096) bits)) (drop 4096 (drop (i * 4096) bits)) (subst (λ (l : List RawBit). are_known known l ≡ true) (sym (take-append-drop 4096 (drop (i * 4096) bits))) after)

-- ---- operations at each place

-- bit by bit
both : (Bool → Bool → Bool) → Word → Word → Word
both op [] b = []
both op (x ∷ a) [] = []
both op (x ∷ a) (y ∷ b) = op x y ∷ both op a b

not_map : (a : Word) → word (length a) (λ i. not (get_or a i false)) ≡ map not a
not_map [] = refl
not_map (x ∷ a) = word-suc (length a) (λ i. not (get_or (x ∷ a) i false)) ∙ ap (λ (l : Word). not x ∷ l) (not_map a)

both_is : (op : Bool → Bool → Bool) (a b : Word) → length b ≡ length a → word (length a) (λ i. op (get_or a i false) (get_or b i false)) ≡ both op a b
unfolding both
both_is op [] b e = refl
both_is op (x ∷ a) [] e = absurd (let q : 0 ≡ suc (length a) = e in omega arith)
both_is op (x ∷ a) (y ∷ b) e =
    let rest : length b ≡ length a = (let q : suc (length b) ≡ suc (length a) = e in omega arith) in
    word-suc (length a) (λ i. op (get_or (x ∷ a) i false) (get_or (y ∷ b) i false)) ∙ ap (λ (l : Word). op x y ∷ l) (both_is op a b rest)

both_append : (op : Bool → Bool → Bool) (a b c d : Word) → length b ≡ length a → both op (a ++ c) (b ++ d) ≡ both op a b ++ both op c d
unfolding both
both_append op [] [] c d e = refl
both_append op [] (y ∷ b) c d e = absurd (let q : suc (length b) ≡ 0 = e in omega arith)
both_append op (x ∷ a) [] c d e = absurd (let q : 0 ≡ suc (length a) = e in omega arith)
both_append op (x ∷ a) (y ∷ b) c d e = ap (λ (l : Word). op x y ∷ l) (both_append op a b c d (let q : suc (length b) ≡ suc (length a) = e in omega arith))

joined_long : (a b c d : Word) → length b ≡ length a → length d ≡ length c → length (b ++ d) ≡ length (a ++ c)
joined_long a b c d e f = omega (arith, length-append a c, length-append b d)

placewise_append : (op : Bool → Bool → Bool) (a b c d : Word) → length b ≡ length a → length d ≡ length c
    → word (length (a ++ c)) (λ i. op (get_or (a ++ c) i false) (get_or (b ++ d) i false)) ≡ word (length a) (λ i. op (get_or a i false) (get_or b i false)) ++ word (length c) (λ i. op (get_or c i false) (get_or d i false))
placewise_append op a b c d e f =
    both_is op (a ++ c) (b ++ d) (joined_long a b c d e f) ∙ both_append op a b c d e
    ∙ sym (ap (λ (l : Word). l ++ word (length c) (λ i. op (get_or c i false) (get_or d i false))) (both_is op a b e) ∙ ap (λ (l : Word). both op a b ++ l) (both_is op c d f))

pub not_append : (a c : Word) → one_word Not (a ++ c) ≡ one_word Not a ++ one_word Not c
not_append a c = not_map (a ++ c) ∙ map-append not a c ∙ sym (ap (λ (l : Word). l ++ word (length c) (λ i. not (get_or c i false))) (not_map a) ∙ ap (λ (l : Word). map not a ++ l) (not_map c))

pub bitwise_append : (op : Op2) (a b c d : Word) → IsTrue (is_bitwise op) → length b ≡ length a → length d ≡ length c → two_word op (a ++ c) (b ++ d) ≡ two_word op a b ++ two_word op c d
bitwise_append And a b c d h e f = placewise_append (λ x y. x && y) a b c d e f
bitwise_append Or a b c d h e f = placewise_append (λ x y. x || y) a b c d e f
bitwise_append Xor a b c d h e f = placewise_append xor a b c d e f
bitwise_append Add a b c d h e f = absurd (cc)
bitwise_append Mul a b c d h e f = absurd (cc)
bitwise_append Div a b c d h e f = absurd (cc)
bitwise_append LessUnsigned a b c d h e f = absurd (cc)
bitwise_append LessSigned a b c d h e f = absurd (cc)
bitwise_append Equal a b c d h e f = absurd (cc)

pub chosen_append : (t : Bool) (a b c d : Word) → (if t then b ++ d else a ++ c) ≡ (if t then b else a) ++ (if t then d else c)
chosen_append true a b c d = refl
chosen_append false a b c d = refl

-- ---- reductions

xor_assoc : (a b c : Bool) → xor a (xor b c) ≡ xor (xor a b) c
xor_assoc true true true = refl
xor_assoc true true false = refl
xor_assoc true false true = refl
xor_assoc true false false = refl
xor_assoc false b c = refl

parity_append : (a c : Word) → parity (a ++ c) ≡ xor (parity a) (parity c)
parity_append [] c = refl
parity_append (x ∷ a) c = ap (xor x) (parity_append a c) ∙ xor_assoc x (parity a) (parity c)

pub reduced_append : (op : Op1) (a b c d : Word) → IsTrue (is_reduction op) → reduced op a ≡ reduced op b → reduced op c ≡ reduced op d → reduced op (a ++ c) ≡ reduced op (b ++ d)
reduced_append Not a b c d h e f = absurd (cc)
reduced_append ReduceAnd a b c d h e f = list_all-append (λ x. x) a c ∙ ap (λ x. x && is_all_ones c) e ∙ ap (λ x. is_all_ones b && x) f ∙ sym (list_all-append (λ x. x) b d)
reduced_append ReduceOr a b c d h e f = list_any-append (λ x. x) a c ∙ ap (λ x. x || has_one c) e ∙ ap (λ x. has_one b || x) f ∙ sym (list_any-append (λ x. x) b d)
reduced_append ReduceXor a b c d h e f = parity_append a c ∙ ap (λ x. xor x (parity c)) e ∙ ap (λ x. xor (parity b) x) f ∙ sym (parity_append b d)

and_true : (b : Bool) → (b && true) ≡ b
and_true true = refl
and_true false = refl

or_false : (b : Bool) → (b || false) ≡ b
or_false true = refl
or_false false = refl

xor_false : (b : Bool) → xor b false ≡ b
xor_false true = refl
xor_false false = refl

pub reduced_flag : (op : Op1) (a : Word) → IsTrue (is_reduction op) → reduced op (one_word op a) ≡ reduced op a
reduced_flag Not a h = absurd (cc)
reduced_flag ReduceAnd a h = and_true (is_all_ones a)
reduced_flag ReduceOr a h = or_false (has_one a)
reduced_flag ReduceXor a h = xor_false (parity a)

pub one_word_by : (op : Op1) (a b : Word) → IsTrue (is_reduction op) → reduced op a ≡ reduced op b → one_word op a ≡ one_word op b
one_word_by Not a b h e = absurd (cc)
one_word_by ReduceAnd a b h e = ap (flag_word 1) e
one_word_by ReduceOr a b h e = ap (flag_word 1) e
one_word_by ReduceXor a b h e = ap (flag_word 1) e

-- ---- comparisons

same_bits : Word → Word → Bool
same_bits [] [] = true
same_bits [] (y ∷ b) = false
same_bits (x ∷ a) [] = false
same_bits (x ∷ a) (y ∷ b) = not (xor x y) && same_bits a b

not_xor : (x y : Bool) → not (xor x y) ≡ true → x ≡ y
not_xor true true h = refl
not_xor true false h = absurd (cc)
not_xor false true h = absurd (cc)
not_xor false false h = refl

xor_self : (x : Bool) → not (xor x x) ≡ true
xor_self true = refl
xor_self false = refl

first_of : (a b : Bool) → (a && b) ≡ true → a ≡ true
first_of true b h = refl
first_of false b h = h

second_of : (a b : Bool) → (a && b) ≡ true → b ≡ true
second_of true b h = h
second_of false b h = absurd (cc)

same_from_bits : (a b : Word) → same_bits a b ≡ true → a ≡ b
unfolding same_bits
same_from_bits [] [] h = refl
same_from_bits [] (y ∷ b) h = absurd (cc)
same_from_bits (x ∷ a) [] h = absurd (cc)
same_from_bits (x ∷ a) (y ∷ b) h = let e = not_xor x y (first_of _ _ h) in let f = same_from_bits a b (second_of (not (xor x y)) _ h) in (cc)

bits_of_itself : (a : Word) → same_bits a a ≡ true
unfolding same_bits
bits_of_itself [] = refl
bits_of_itself (x ∷ a) = ap (λ t. t && same_bits a a) (xor_self x) ∙ bits_of_itself a

same_bits_append : (a b c d : Word) → length b ≡ length a → same_bits (a ++ c) (b ++ d) ≡ (same_bits a b && same_bits c d)
unfolding same_bits
same_bits_append [] [] c d e = refl
same_bits_append [] (y ∷ b) c d e = absurd (let q : suc (length b) ≡ 0 = e in omega arith)
same_bits_append (x ∷ a) [] c d e = absurd (let q : 0 ≡ suc (length a) = e in omega arith)
same_bits_append (x ∷ a) (y ∷ b) c d e =
    ap (λ t. not (xor x y) && t) (same_bits_append a b c d (let q : suc (length b) ≡ suc (length a) = e in omega arith)) ∙ and_assoc (not (xor x y)) (same_bits a b) (same_bits c d)
  where
    and_assoc : (p q r : Bool) → (p && (q && r)) ≡ ((p && q) && r)
    and_assoc true q r = refl
    and_assoc false q r = refl

same_bits_is : (a b : Word) → length b ≡ length a → same_bits a b ≡ are_same a b
same_bits_is a b e = compared-equal (same_bits a b) a b e (λ t. same_from_bits a b t, λ q. subst (λ (w : Word). same_bits a w ≡ true) q (bits_of_itself a))

pub same_append : (a b c d : Word) → length b ≡ length a → length d ≡ length c → are_same (a ++ c) (b ++ d) ≡ (are_same a b && are_same c d)
same_append a b c d e f =
    sym (same_bits_is (a ++ c) (b ++ d) (joined_long a b c d e f)) ∙ same_bits_append a b c d e
    ∙ ap (λ t. t && same_bits c d) (same_bits_is a b e) ∙ ap (λ t. are_same a b && t) (same_bits_is c d f)

all_ones_flag : (w x : Word) (s t : Bool) → is_all_ones w ≡ s → x ≡ flag_word 1 t → is_all_ones (w ++ x) ≡ (s && t)
all_ones_flag w x s t e f = list_all-append (λ b. b) w x ∙ ap (λ b. b && is_all_ones x) e ∙ ap (λ (u : Word). s && is_all_ones u) f ∙ ap (λ b. s && b) (and_true t)

-- ---- widths and costs

reduced_width : (op : Op1) (n : ℕ) → IsTrue (is_reduction op) → one_width op n ≡ 1
reduced_width Not n h = absurd (cc)
reduced_width ReduceAnd n h = refl
reduced_width ReduceOr n h = refl
reduced_width ReduceXor n h = refl

joined_count : (p : ℕ) → 1 < p → p + 1 ≤ joined_pieces p
joined_count p h = let t : nat_lt 1 p ≡ true = grind (arith, nat_tests) in rw t (omega arith)

reduced_cost : (op : Op1) (n : ℕ) → IsTrue (is_reduction op) → 1 < pieces n → pieces n + 1 ≤ one_cost op n
reduced_cost Not n h k = absurd (cc)
reduced_cost ReduceAnd n h k = joined_count (pieces n) k
reduced_cost ReduceOr n h k = joined_count (pieces n) k
reduced_cost ReduceXor n h k = joined_count (pieces n) k

joined_some : (p : ℕ) → 1 ≤ p → 1 ≤ joined_pieces p
joined_some p h = by_test (nat_lt 1 p)
  where
    by_test : (t : Bool) → 1 ≤ (if t then p + 1 else p)
    by_test true = omega arith
    by_test false = h

cost_some : (op : Op1) (n : ℕ) → IsTrue (is_reduction op) → 1 ≤ n → 1 ≤ one_cost op n
cost_some Not n h k = absurd (cc)
cost_some ReduceAnd n h k = joined_some (pieces n) (omega arith)
cost_some ReduceOr n h k = joined_some (pieces n) (omega arith)
cost_some ReduceXor n h k = joined_some (pieces n) (omega arith)

-- ---- one piece

-- a reduction of a word of one piece
pub reduction_of_one : {m n : Maker} {old new : List RawCell} {y : List RawBit} (op : Op1) (a : List RawBit) → IsTrue (is_reduction op) → 1 ≤ length a → length a ≤ 4096
    → IsEmitted m n old new a (λ v w. w ≡ one_word op (raw_word v a)) 1 (one_width op (length a)) y
    → IsEmitted m n old new a (λ v w. w ≡ one_word op (raw_word v a)) (one_cost op (length a)) 1 y
reduction_of_one op a reduction some few h =
    weaker a a (λ v w. w ≡ one_word op (raw_word v a)) (λ v w. w ≡ one_word op (raw_word v a)) 1 (one_cost op (length a)) (one_width op (length a)) 1 h (λ q k. k) (λ v w e. e)
    (cost_some op (length a) reduction some) (reduced_width op (length a) reduction)

-- ---- loops over pieces

-- the word of a part after that of what stands before it
pub word_step : {l m n : Maker} {one two three : List RawCell} {bits part zs : List RawBit} (inputs part_inputs : List RawBit) (G H K : (ℕ → Bool) → Word) (i width part_width total : ℕ)
    → IsEmitted l m one two inputs (λ v w. w ≡ G v) i width bits
    → IsEmitted m n two three part_inputs (λ v w. w ≡ H v) 1 part_width part
    → ((known : List ℕ) → are_known known inputs ≡ true → are_known known part_inputs ≡ true)
    → ((v : ℕ → Bool) → G v ++ H v ≡ K v)
    → zs ≡ bits ++ part → width + part_width ≡ total
    → IsEmitted l n one three inputs (λ v w. w ≡ K v) (i + 1) total zs
word_step {l} {m} {n} {one} {two} {three} {bits} {part} {zs} inputs part_inputs G H K i width part_width total a b known law e long =
    subst (λ (q : List RawBit). IsEmitted l n one three inputs (λ v w. w ≡ K v) (i + 1) total q) (sym e)
    (then_emitted (λ v w. w ≡ G v) (λ v w. w ≡ H v) (λ v w. w ≡ K v) (bits ++ part) total a b (λ q h k. known q h) (λ q h k. known_append q bits part h k)
    (λ v g h. map-append (raw_bit v) bits part ∙ ap (λ (w : Word). w ++ raw_word v part) g ∙ ap (λ (w : Word). G v ++ w) h ∙ law v)
    (let x : length bits ≡ width = a.as_wide in let y : length part ≡ part_width = b.as_wide in omega (arith, length-append bits part)))

-- one bit for a part after those for what stands before it
pub flag_step : {l m n : Maker} {one two three : List RawCell} {bits part zs : List RawBit} (inputs part_inputs : List RawBit) (Before Part After : (ℕ → Bool) → Word → Type 0) (i : ℕ)
    → IsEmitted l m one two inputs Before i i bits
    → IsEmitted m n two three part_inputs Part 1 1 part
    → ((known : List ℕ) → are_known known inputs ≡ true → are_known known part_inputs ≡ true)
    → ((v : ℕ → Bool) (w x : Word) → Before v w → Part v x → After v (w ++ x))
    → zs ≡ bits ++ part
    → IsEmitted l n one three inputs After (i + 1) (i + 1) zs
flag_step {l} {m} {n} {one} {two} {three} {bits} {part} {zs} inputs part_inputs Before Part After i a b known law e =
    subst (λ (q : List RawBit). IsEmitted l n one three inputs After (i + 1) (i + 1) q) (sym e)
    (then_emitted Before Part After (bits ++ part) (i + 1) a b (λ q h k. known q h) (λ q h k. known_append q bits part h k)
    (λ v g h. subst (After v) (sym (map-append (raw_bit v) bits part)) (law v _ _ g h))
    (let x : length bits ≡ i = a.as_wide in let y : length part ≡ 1 = b.as_wide in omega (arith, length-append bits part)))

-- no piece yet
pub begun : (m : Maker) (old : List RawCell) (inputs bits : List RawBit) (Meant : (ℕ → Bool) → Word → Type 0) → bits ≡ [] → ((v : ℕ → Bool) → Meant v []) → IsEmitted m m old old inputs Meant 0 0 bits
begun m old inputs bits Meant e means = subst (λ (q : List RawBit). IsEmitted m m old old inputs Meant 0 0 q) (sym e) (nothing_emitted m old inputs [] Meant 0 (λ known h. refl) means refl)

-- ---- the loops

pub complement_step : {l m n : Maker} {one two three : List RawCell} {bits part zs : List RawBit} (a : List RawBit) (i : ℕ)
    → IsEmitted l m one two a (λ v w. w ≡ one_word Not (raw_word v (front a i))) i (length (front a i)) bits
    → IsEmitted m n two three (piece_at a i) (λ v w. w ≡ one_word Not (raw_word v (piece_at a i))) 1 (length (piece_at a i)) part
    → zs ≡ bits ++ part
    → IsEmitted l n one three a (λ v w. w ≡ one_word Not (raw_word v (front a (i + 1)))) (i + 1) (length (front a (i + 1))) zs
complement_step a i before part e =
    word_step a (piece_at a i) (λ v. one_word Not (raw_word v (front a i))) (λ v. one_word Not (raw_word v (piece_at a i))) (λ v. one_word Not (raw_word v (front a (i + 1)))) i _ _ _ before part
    (λ known h. piece_known known a i h)
    (λ v. sym (ap (one_word Not) (words_more v a i) ∙ not_append (raw_word v (front a i)) (raw_word v (piece_at a i)))) e (sym (length-front a i))

two_known : (known : List ℕ) (a b : List RawBit) (i : ℕ) → are_known known (a ++ b) ≡ true → are_known known (piece_at a i ++ piece_at b i) ≡ true
two_known known a b i h = known_append known (piece_at a i) (piece_at b i) (piece_known known a i (known_first known a b h)) (piece_known known b i (known_second known a b h))

words_long : (v : ℕ → Bool) (a b : List RawBit) → length b ≡ length a → length (raw_word v b) ≡ length (raw_word v a)
words_long v a b e = length-map b (raw_bit v) ∙ e ∙ sym (length-map a (raw_bit v))

pub bitwise_step : {l m n : Maker} {one two three : List RawCell} {bits part zs : List RawBit} (op : Op2) (a b : List RawBit) (i : ℕ) → IsTrue (is_bitwise op) → length b ≡ length a
    → IsEmitted l m one two (a ++ b) (λ v w. w ≡ two_word op (raw_word v (front a i)) (raw_word v (front b i))) i (length (front a i)) bits
    → IsEmitted m n two three (piece_at a i ++ piece_at b i) (λ v w. w ≡ two_word op (raw_word v (piece_at a i)) (raw_word v (piece_at b i))) 1 (length (piece_at a i)) part
    → zs ≡ bits ++ part
    → IsEmitted l n one three (a ++ b) (λ v w. w ≡ two_word op (raw_word v (front a (i + 1))) (raw_word v (front b (i + 1)))) (i + 1) (length (front a (i + 1))) zs
bitwise_step op a b i bitwise same before part e =
    word_step (a ++ b) (piece_at a i ++ piece_at b i) (λ v. two_word op (raw_word v (front a i)) (raw_word v (front b i))) (λ v. two_word op (raw_word v (piece_at a i)) (raw_word v (piece_at b i)))
    (λ v. two_word op (raw_word v (front a (i + 1))) (raw_word v (front b (i + 1)))) i _ _ _ before part
    (λ known h. two_known known a b i h)
    (λ v. sym (ap (λ (x : Word). two_word op x (raw_word v (front b (i + 1)))) (words_more v a i) ∙ ap (λ (y : Word). two_word op (raw_word v (front a i) ++ raw_word v (piece_at a i)) y) (words_more v b i)
    ∙ bitwise_append op _ _ _ _ bitwise (words_long v (front a i) (front b i) (same_fronts a b i same)) (words_long v (piece_at a i) (piece_at b i) (same_pieces a b i same)))) e (sym (length-front a i))

pub reduced_step : {l m n : Maker} {one two three : List RawCell} {bits part zs : List RawBit} (op : Op1) (a : List RawBit) (i : ℕ) → IsTrue (is_reduction op)
    → IsEmitted l m one two a (λ v w. reduced op w ≡ reduced op (raw_word v (front a i))) i i bits
    → IsEmitted m n two three (piece_at a i) (λ v w. w ≡ one_word op (raw_word v (piece_at a i))) 1 1 part
    → zs ≡ bits ++ part
    → IsEmitted l n one three a (λ v w. reduced op w ≡ reduced op (raw_word v (front a (i + 1)))) (i + 1) (i + 1) zs
reduced_step op a i reduction before part e =
    flag_step a (piece_at a i) (λ v w. reduced op w ≡ reduced op (raw_word v (front a i))) (λ v w. w ≡ one_word op (raw_word v (piece_at a i))) (λ v w. reduced op w ≡ reduced op (raw_word v (front a (i + 1)))) i before part
    (λ known h. piece_known known a i h)
    (λ v w x g h. reduced_append op w (raw_word v (front a i)) x (raw_word v (piece_at a i)) reduction g (ap (reduced op) h ∙ reduced_flag op (raw_word v (piece_at a i)) reduction) ∙ sym (ap (reduced op) (words_more v a i))) e

pub compared_step : {l m n : Maker} {one two three : List RawCell} {bits part zs : List RawBit} (a b : List RawBit) (i : ℕ) → length b ≡ length a
    → IsEmitted l m one two (a ++ b) (λ v w. reduced ReduceAnd w ≡ are_same (raw_word v (front a i)) (raw_word v (front b i))) i i bits
    → IsEmitted m n two three (piece_at a i ++ piece_at b i) (λ v w. w ≡ two_word Equal (raw_word v (piece_at a i)) (raw_word v (piece_at b i))) 1 1 part
    → zs ≡ bits ++ part
    → IsEmitted l n one three (a ++ b) (λ v w. reduced ReduceAnd w ≡ are_same (raw_word v (front a (i + 1))) (raw_word v (front b (i + 1)))) (i + 1) (i + 1) zs
compared_step a b i same before part e =
    flag_step (a ++ b) (piece_at a i ++ piece_at b i) (λ v w. reduced ReduceAnd w ≡ are_same (raw_word v (front a i)) (raw_word v (front b i))) (λ v w. w ≡ two_word Equal (raw_word v (piece_at a i)) (raw_word v (piece_at b i)))
    (λ v w. reduced ReduceAnd w ≡ are_same (raw_word v (front a (i + 1))) (raw_word v (front b (i + 1)))) i before part
    (λ known h. two_known known a b i h)
    (λ v w x g h. all_ones_flag w x _ _ g h
    ∙ sym (ap (λ (q : Word). are_same q (raw_word v (front b (i + 1)))) (words_more v a i) ∙ ap (λ (q : Word). are_same (raw_word v (front a i) ++ raw_word v (piece_at a i)) q) (words_more v b i)
    ∙ same_append _ _ _ _ (words_long v (front a i) (front b i) (same_fronts a b i same)) (words_long v (piece_at a i) (piece_at b i) (same_pieces a b i same)))) e

pub choice_step : {l m n : Maker} {one two three : List RawCell} {bits part zs : List RawBit} (s a b : List RawBit) (i : ℕ)
    → IsEmitted l m one two (s ++ (a ++ b)) (λ v w. w ≡ (if bit (raw_word v s) 0 then raw_word v (front b i) else raw_word v (front a i))) i (length (front a i)) bits
    → IsEmitted m n two three (s ++ (piece_at a i ++ piece_at b i)) (λ v w. w ≡ (if bit (raw_word v s) 0 then raw_word v (piece_at b i) else raw_word v (piece_at a i))) 1 (length (piece_at a i)) part
    → zs ≡ bits ++ part
    → IsEmitted l n one three (s ++ (a ++ b)) (λ v w. w ≡ (if bit (raw_word v s) 0 then raw_word v (front b (i + 1)) else raw_word v (front a (i + 1)))) (i + 1) (length (front a (i + 1))) zs
choice_step s a b i before part e =
    word_step (s ++ (a ++ b)) (s ++ (piece_at a i ++ piece_at b i)) (λ v. if bit (raw_word v s) 0 then raw_word v (front b i) else raw_word v (front a i)) (λ v. if bit (raw_word v s) 0 then raw_word v (piece_at b i) else raw_word v (piece_at a i))
    (λ v. if bit (raw_word v s) 0 then raw_word v (front b (i + 1)) else raw_word v (front a (i + 1))) i _ _ _ before part
    (λ known h. known_append known s (piece_at a i ++ piece_at b i) (known_first known s (a ++ b) h) (two_known known a b i (known_second known s (a ++ b) h)))
    (λ v. sym (ap (λ (x : Word). if bit (raw_word v s) 0 then raw_word v (front b (i + 1)) else x) (words_more v a i) ∙ ap (λ (y : Word). if bit (raw_word v s) 0 then y else raw_word v (front a i) ++ raw_word v (piece_at a i)) (words_more v b i)
    ∙ chosen_append (bit (raw_word v s) 0) _ _ _ _)) e (sym (length-front a i))

-- ---- the same, for pieces as code finds them

pub complement_more : {l m n : Maker} {one two three : List RawCell} {bits part zs : List RawBit} (a p : List RawBit) (i : ℕ) → p ≡ piece_at a i
    → IsEmitted l m one two a (λ v w. w ≡ one_word Not (raw_word v (front a i))) i (length (front a i)) bits
    → IsEmitted m n two three p (λ v w. w ≡ one_word Not (raw_word v p)) 1 (length p) part
    → zs ≡ bits ++ part
    → IsEmitted l n one three a (λ v w. w ≡ one_word Not (raw_word v (front a (i + 1)))) (i + 1) (length (front a (i + 1))) zs
complement_more {m = m} {n = n} {two = two} {three = three} {part = part} a p i e before h more =
    complement_step a i before (subst (λ (q : List RawBit). IsEmitted m n two three q (λ v w. w ≡ one_word Not (raw_word v q)) 1 (length q) part) e h) more

pub bitwise_more : {l m n : Maker} {one two three : List RawCell} {bits part zs : List RawBit} (op : Op2) (a b p q : List RawBit) (i : ℕ) → IsTrue (is_bitwise op) → length b ≡ length a → p ≡ piece_at a i → q ≡ piece_at b i
    → IsEmitted l m one two (a ++ b) (λ v w. w ≡ two_word op (raw_word v (front a i)) (raw_word v (front b i))) i (length (front a i)) bits
    → IsEmitted m n two three (p ++ q) (λ v w. w ≡ two_word op (raw_word v p) (raw_word v q)) 1 (two_width op (length p)) part
    → zs ≡ bits ++ part
    → IsEmitted l n one three (a ++ b) (λ v w. w ≡ two_word op (raw_word v (front a (i + 1))) (raw_word v (front b (i + 1)))) (i + 1) (length (front a (i + 1))) zs
bitwise_more {m = m} {n = n} {two = two} {three = three} {part = part} op a b p q i bitwise same e f before h more =
    bitwise_step op a b i bitwise same before
    (subst (λ (x : List RawBit). IsEmitted m n two three (x ++ piece_at b i) (λ v w. w ≡ two_word op (raw_word v x) (raw_word v (piece_at b i))) 1 (length x) part) e
    (subst (λ (y : List RawBit). IsEmitted m n two three (p ++ y) (λ v w. w ≡ two_word op (raw_word v p) (raw_word v y)) 1 (length p) part) f
    (subst (λ k. IsEmitted m n two three (p ++ q) (λ v w. w ≡ two_word op (raw_word v p) (raw_word v q)) 1 k part) (bitwise_width op (length p) bitwise) h))) more
  where
    bitwise_width : (op : Op2) (n : ℕ) → IsTrue (is_bitwise op) → two_width op n ≡ n
    bitwise_width And n h = refl
    bitwise_width Or n h = refl
    bitwise_width Xor n h = refl
    bitwise_width Add n h = refl
    bitwise_width Mul n h = refl
    bitwise_width Div n h = refl
    bitwise_width LessUnsigned n h = absurd (cc)
    bitwise_width LessSigned n h = absurd (cc)
    bitwise_width Equal n h = absurd (cc)

pub reduced_more : {l m n : Maker} {one two three : List RawCell} {bits part zs : List RawBit} (op : Op1) (a p : List RawBit) (i : ℕ) → IsTrue (is_reduction op) → p ≡ piece_at a i
    → IsEmitted l m one two a (λ v w. reduced op w ≡ reduced op (raw_word v (front a i))) i i bits
    → IsEmitted m n two three p (λ v w. w ≡ one_word op (raw_word v p)) 1 (one_width op (length p)) part
    → zs ≡ bits ++ part
    → IsEmitted l n one three a (λ v w. reduced op w ≡ reduced op (raw_word v (front a (i + 1)))) (i + 1) (i + 1) zs
reduced_more {m = m} {n = n} {two = two} {three = three} {part = part} op a p i reduction e before h more =
    reduced_step op a i reduction before
    (subst (λ (q : List RawBit). IsEmitted m n two three q (λ v w. w ≡ one_word op (raw_word v q)) 1 1 part) e
    (subst (λ k. IsEmitted m n two three p (λ v w. w ≡ one_word op (raw_word v p)) 1 k part) (reduced_width op (length p) reduction) h)) more

pub compared_more : {l m n : Maker} {one two three : List RawCell} {bits part zs : List RawBit} (a b p q : List RawBit) (i : ℕ) → length b ≡ length a → p ≡ piece_at a i → q ≡ piece_at b i
    → IsEmitted l m one two (a ++ b) (λ v w. reduced ReduceAnd w ≡ are_same (raw_word v (front a i)) (raw_word v (front b i))) i i bits
    → IsEmitted m n two three (p ++ q) (λ v w. w ≡ two_word Equal (raw_word v p) (raw_word v q)) 1 1 part
    → zs ≡ bits ++ part
    → IsEmitted l n one three (a ++ b) (λ v w. reduced ReduceAnd w ≡ are_same (raw_word v (front a (i + 1))) (raw_word v (front b (i + 1)))) (i + 1) (i + 1) zs
compared_more {m = m} {n = n} {two = two} {three = three} {part = part} a b p q i same e f before h more =
    compared_step a b i same before
    (subst (λ (x : List RawBit). IsEmitted m n two three (x ++ piece_at b i) (λ v w. w ≡ two_word Equal (raw_word v x) (raw_word v (piece_at b i))) 1 1 part) e
    (subst (λ (y : List RawBit). IsEmitted m n two three (p ++ y) (λ v w. w ≡ two_word Equal (raw_word v p) (raw_word v y)) 1 1 part) f h)) more

pub choice_more : {l m n : Maker} {one two three : List RawCell} {bits part zs : List RawBit} (s a b p q : List RawBit) (i : ℕ) → p ≡ piece_at a i → q ≡ piece_at b i
    → IsEmitted l m one two (s ++ (a ++ b)) (λ v w. w ≡ (if bit (raw_word v s) 0 then raw_word v (front b i) else raw_word v (front a i))) i (length (front a i)) bits
    → IsEmitted m n two three (s ++ (p ++ q)) (λ v w. w ≡ (if bit (raw_word v s) 0 then raw_word v q else raw_word v p)) 1 (length p) part
    → zs ≡ bits ++ part
    → IsEmitted l n one three (s ++ (a ++ b)) (λ v w. w ≡ (if bit (raw_word v s) 0 then raw_word v (front b (i + 1)) else raw_word v (front a (i + 1)))) (i + 1) (length (front a (i + 1))) zs
choice_more {m = m} {n = n} {two = two} {three = three} {part = part} s a b p q i e f before h more =
    choice_step s a b i before
    (subst (λ (x : List RawBit). IsEmitted m n two three (s ++ (x ++ piece_at b i)) (λ v w. w ≡ (if bit (raw_word v s) 0 then raw_word v (piece_at b i) else raw_word v x)) 1 (length x) part) e
    (subst (λ (y : List RawBit). IsEmitted m n two three (s ++ (p ++ y)) (λ v w. w ≡ (if bit (raw_word v s) 0 then raw_word v y else raw_word v p)) 1 (length p) part) f h)) more

-- ---- all pieces

pub complement_done : {m n : Maker} {old new : List RawCell} {bits : List RawBit} (a : List RawBit) (i : ℕ) → i ≡ pieces (length a)
    → IsEmitted m n old new a (λ v w. w ≡ one_word Not (raw_word v (front a i))) i (length (front a i)) bits
    → IsEmitted m n old new a (λ v w. w ≡ one_word Not (raw_word v a)) (pieces (length a)) (length a) bits
complement_done a i h all =
    weaker a a (λ v w. w ≡ one_word Not (raw_word v (front a i))) (λ v w. w ≡ one_word Not (raw_word v a)) i (pieces (length a)) (length (front a i)) (length a) all (λ q k. k)
    (λ v w e. e ∙ ap (λ (l : List RawBit). one_word Not (raw_word v l)) (front_all a i h)) (omega arith) (ap length (front_all a i h))

pub bitwise_done : {m n : Maker} {old new : List RawCell} {bits : List RawBit} (op : Op2) (a b : List RawBit) (i : ℕ) → i ≡ pieces (length a) → length b ≡ length a
    → IsEmitted m n old new (a ++ b) (λ v w. w ≡ two_word op (raw_word v (front a i)) (raw_word v (front b i))) i (length (front a i)) bits
    → IsEmitted m n old new (a ++ b) (λ v w. w ≡ two_word op (raw_word v a) (raw_word v b)) (pieces (length a)) (length a) bits
bitwise_done op a b i h same all =
    weaker (a ++ b) (a ++ b) (λ v w. w ≡ two_word op (raw_word v (front a i)) (raw_word v (front b i))) (λ v w. w ≡ two_word op (raw_word v a) (raw_word v b)) i (pieces (length a)) (length (front a i)) (length a) all (λ q k. k)
    (λ v w e. e ∙ ap (λ (l : List RawBit). two_word op (raw_word v l) (raw_word v (front b i))) (front_all a i h) ∙ ap (λ (l : List RawBit). two_word op (raw_word v a) (raw_word v l)) (front_all b i (h ∙ ap pieces (sym same)))) (omega arith) (ap length (front_all a i h))

pub reduced_done : {m n : Maker} {old new : List RawCell} {bits : List RawBit} (op : Op1) (a : List RawBit) (i : ℕ) → i ≡ pieces (length a)
    → IsEmitted m n old new a (λ v w. reduced op w ≡ reduced op (raw_word v (front a i))) i i bits
    → IsEmitted m n old new a (λ v w. reduced op w ≡ reduced op (raw_word v a)) (pieces (length a)) (pieces (length a)) bits
reduced_done op a i h all =
    weaker a a (λ v w. reduced op w ≡ reduced op (raw_word v (front a i))) (λ v w. reduced op w ≡ reduced op (raw_word v a)) i (pieces (length a)) i (pieces (length a)) all (λ q k. k)
    (λ v w e. e ∙ ap (λ (l : List RawBit). reduced op (raw_word v l)) (front_all a i h)) (omega arith) h

pub compared_done : {m n : Maker} {old new : List RawCell} {bits : List RawBit} (a b : List RawBit) (i : ℕ) → i ≡ pieces (length a) → length b ≡ length a
    → IsEmitted m n old new (a ++ b) (λ v w. reduced ReduceAnd w ≡ are_same (raw_word v (front a i)) (raw_word v (front b i))) i i bits
    → IsEmitted m n old new (a ++ b) (λ v w. reduced ReduceAnd w ≡ are_same (raw_word v a) (raw_word v b)) (pieces (length a)) (pieces (length a)) bits
compared_done a b i h same all =
    weaker (a ++ b) (a ++ b) (λ v w. reduced ReduceAnd w ≡ are_same (raw_word v (front a i)) (raw_word v (front b i))) (λ v w. reduced ReduceAnd w ≡ are_same (raw_word v a) (raw_word v b)) i (pieces (length a)) i (pieces (length a)) all (λ q k. k)
    (λ v w e. e ∙ ap (λ (l : List RawBit). are_same (raw_word v l) (raw_word v (front b i))) (front_all a i h) ∙ ap (λ (l : List RawBit). are_same (raw_word v a) (raw_word v l)) (front_all b i (h ∙ ap pieces (sym same)))) (omega arith) h

pub choice_done : {m n : Maker} {old new : List RawCell} {bits : List RawBit} (s a b : List RawBit) (i : ℕ) → i ≡ pieces (length a) → length b ≡ length a
    → IsEmitted m n old new (s ++ (a ++ b)) (λ v w. w ≡ (if bit (raw_word v s) 0 then raw_word v (front b i) else raw_word v (front a i))) i (length (front a i)) bits
    → IsEmitted m n old new (s ++ (a ++ b)) (λ v w. w ≡ (if bit (raw_word v s) 0 then raw_word v b else raw_word v a)) (pieces (length a)) (length a) bits
choice_done s a b i h same all =
    weaker (s ++ (a ++ b)) (s ++ (a ++ b)) (λ v w. w ≡ (if bit (raw_word v s) 0 then raw_word v (front b i) else raw_word v (front a i))) (λ v w. w ≡ (if bit (raw_word v s) 0 then raw_word v b else raw_word v a))
    i (pieces (length a)) (length (front a i)) (length a) all (λ q k. k)
    (λ v w e. e ∙ ap (λ (l : List RawBit). if bit (raw_word v s) 0 then raw_word v (front b i) else raw_word v l) (front_all a i h) ∙ ap (λ (l : List RawBit). if bit (raw_word v s) 0 then raw_word v l else raw_word v a) (front_all b i (h ∙ ap pieces (sym same)))) (omega arith) (ap length (front_all a i h))

-- one more cell joins the bits of several pieces
pub reduction_joined : {l m n : Maker} {one two three : List RawCell} {bits y : List RawBit} (op : Op1) (a : List RawBit) → IsTrue (is_reduction op) → 1 < pieces (length a)
    → IsEmitted l m one two a (λ v w. reduced op w ≡ reduced op (raw_word v a)) (pieces (length a)) (pieces (length a)) bits
    → (p : List RawBit) → p ≡ bits
    → IsEmitted m n two three p (λ v w. w ≡ one_word op (raw_word v p)) 1 (one_width op (length p)) y
    → IsEmitted l n one three a (λ v w. w ≡ one_word op (raw_word v a)) (one_cost op (length a)) 1 y
reduction_joined {m = m} {n = n} {two = two} {three = three} {bits = bits} {y = y} op a reduction several before p e joining =
    let last = subst (λ (q : List RawBit). IsEmitted m n two three q (λ v w. w ≡ one_word op (raw_word v q)) 1 (one_width op (length q)) y) e joining in
    weaker a a (λ v w. w ≡ one_word op (raw_word v a)) (λ v w. w ≡ one_word op (raw_word v a)) (pieces (length a) + 1) (one_cost op (length a)) 1 1
    (then_emitted (λ v w. reduced op w ≡ reduced op (raw_word v a)) (λ v w. w ≡ one_word op (raw_word v bits)) (λ v w. w ≡ one_word op (raw_word v a)) y 1 before last (λ q h k. k) (λ q h k. k)
    (λ v g h. h ∙ one_word_by op (raw_word v bits) (raw_word v a) reduction g) (last.as_wide ∙ reduced_width op (length bits) reduction))
    (λ q k. k) (λ v w e. e) (reduced_cost op (length a) reduction several) refl

pub equality_joined : {l m n : Maker} {one two three : List RawCell} {bits y : List RawBit} (a b : List RawBit) → 1 < pieces (length a)
    → IsEmitted l m one two (a ++ b) (λ v w. reduced ReduceAnd w ≡ are_same (raw_word v a) (raw_word v b)) (pieces (length a)) (pieces (length a)) bits
    → (p : List RawBit) → p ≡ bits
    → IsEmitted m n two three p (λ v w. w ≡ one_word ReduceAnd (raw_word v p)) 1 1 y
    → IsEmitted l n one three (a ++ b) (λ v w. w ≡ two_word Equal (raw_word v a) (raw_word v b)) (two_cost Equal (length a)) 1 y
equality_joined {m = m} {n = n} {two = two} {three = three} {bits = bits} {y = y} a b several before p e joining =
    let last = subst (λ (q : List RawBit). IsEmitted m n two three q (λ v w. w ≡ one_word ReduceAnd (raw_word v q)) 1 1 y) e joining in
    weaker (a ++ b) (a ++ b) (λ v w. w ≡ two_word Equal (raw_word v a) (raw_word v b)) (λ v w. w ≡ two_word Equal (raw_word v a) (raw_word v b)) (pieces (length a) + 1) (two_cost Equal (length a)) 1 1
    (then_emitted (λ v w. reduced ReduceAnd w ≡ are_same (raw_word v a) (raw_word v b)) (λ v w. w ≡ one_word ReduceAnd (raw_word v bits)) (λ v w. w ≡ two_word Equal (raw_word v a) (raw_word v b)) y 1 before last (λ q h k. k) (λ q h k. k)
    (λ v g h. h ∙ ap (flag_word 1) g) last.as_wide)
    (λ q k. k) (λ v w e. e) (joined_count (pieces (length a)) several) refl

-- ---- where a loop begins

pub no_bits : (op : Op2) → IsTrue (is_bitwise op) → [] ≡ two_word op [] []
no_bits And h = refl
no_bits Or h = refl
no_bits Xor h = refl
no_bits Add h = absurd (cc)
no_bits Mul h = absurd (cc)
no_bits Div h = absurd (cc)
no_bits LessUnsigned h = absurd (cc)
no_bits LessSigned h = absurd (cc)
no_bits Equal h = absurd (cc)

pub no_numbers : (op : Op2) → IsTrue (is_bitwise op) → IsTrue (is_on_numbers op) → ⊥
no_numbers And h k = (cc)
no_numbers Or h k = (cc)
no_numbers Xor h k = (cc)
no_numbers Add h k = (cc)
no_numbers Mul h k = (cc)
no_numbers Div h k = (cc)
no_numbers LessUnsigned h k = (cc)
no_numbers LessSigned h k = (cc)
no_numbers Equal h k = (cc)

pub none_chosen : (t : Bool) → ◌≡◌ {A = Word} [] (if t then [] else [])
none_chosen true = refl
none_chosen false = refl

-- ---- what a function leaves

pub kept_of : {m n o : Maker} {old new : List RawCell} {inputs bits : List RawBit} {Meant : (ℕ → Bool) → Word → Type 0} {k width : ℕ} → IsEmitted m n old new inputs Meant k width bits → IsKept n o → IsKept m o
kept_of h k = record { used = k.used ∙ h.made.used; cell = k.cell ∙ h.made.cell }
