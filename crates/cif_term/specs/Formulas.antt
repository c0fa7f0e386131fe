-- Formulas: terms as contracts see them. What they stand for, how wide they are, and what they cost.
use Rattle.std.specs.Prelude.{ℕ, ◌+◌, ◌/◌, ◌==◌, ◌≡◌, ◌≤◌, nat_le, nat_lt, max, Bool, true, false, not, ◌&&◌, List, [], ◌∷◌, ◌++◌, map, length, slice_get, Option, Some, None, option_and_then, if◌then◌else◌, unwrap_or}
use Rattle.std.specs.List.{list_all}
use Rattle.cif_defs.specs.Words.{Word, bit, operand}
use Rattle.cif_defs.specs.Meanings.{not_word, reduce_and_word, reduce_or_word, reduce_xor_word, and_word, or_word, xor_word, add_word, mul_word, div_word, lt_word, eq_word}
use Rattle.cif_term.specs.declared.ops.Op1.{Op1}
use Rattle.cif_term.specs.declared.ops.Op1.TheVariants.{Not, ReduceAnd, ReduceOr, ReduceXor}
use Rattle.cif_term.specs.declared.ops.Op2.{Op2}
use Rattle.cif_term.specs.declared.ops.Op2.TheVariants.{And, Or, Xor, Add, Mul, Div, LessUnsigned, LessSigned, Equal}

pub data Formula : Type 0 where
  -- the word of an operand, and its taint
  Value : ℕ → Formula
  Taint : ℕ → Formula
  Const : Word → Formula
  -- what an enclosing Let names, the nearest first
  Bound : ℕ → Formula
  -- the bits at these places
  Pick : Formula → List ℕ → Formula
  -- the first part low, the second high
  Join : Formula → Formula → Formula
  One : Op1 → Formula → Formula
  Two : Op2 → Formula → Formula → Formula
  -- select, the part for 0, the part for 1
  Choose : Formula → Formula → Formula → Formula
  -- names its first part inside the second
  Let : Formula → Formula → Formula

-- ---- what a formula stands for

-- each operation is that of the cell of its name, at the width of its first part, or with one bit
abbrev pub one_word : Op1 → Word → Word
one_word Not a = not_word (length a) false a
one_word ReduceAnd a = reduce_and_word 1 a
one_word ReduceOr a = reduce_or_word 1 a
one_word ReduceXor a = reduce_xor_word 1 a

abbrev pub two_word : Op2 → Word → Word → Word
two_word And a b = and_word (length a) false a b
two_word Or a b = or_word (length a) false a b
two_word Xor a b = xor_word (length a) false a b
two_word Add a b = add_word (length a) false a b
two_word Mul a b = mul_word (length a) false a b
two_word Div a b = div_word (length a) false a b
two_word LessUnsigned a b = lt_word 1 false a b
two_word LessSigned a b = lt_word 1 true a b
two_word Equal a b = eq_word 1 false a b

abbrev pub picked : List ℕ → Word → Word
picked places w = map (λ i. bit w i) places

-- the value over the words vs and the taints ts of operands, and over the words that enclosing Lets name
abbrev pub value_of : Formula → List Word → List Word → List Word → Word
value_of (Value p) vs ts named = operand vs p
value_of (Taint p) vs ts named = operand ts p
value_of (Const w) vs ts named = w
value_of (Bound i) vs ts named = operand named i
value_of (Pick f places) vs ts named = picked places (value_of f vs ts named)
value_of (Join f g) vs ts named = value_of f vs ts named ++ value_of g vs ts named
value_of (One op f) vs ts named = one_word op (value_of f vs ts named)
value_of (Two op f g) vs ts named = two_word op (value_of f vs ts named) (value_of g vs ts named)
value_of (Choose s f g) vs ts named = if bit (value_of s vs ts named) 0 then value_of g vs ts named else value_of f vs ts named
value_of (Let f g) vs ts named = value_of g vs ts (value_of f vs ts named ∷ named)

-- the values of formulas, one by one
abbrev pub values_of : List Formula → List Word → List Word → List Word
values_of fs vs ts = map (λ f. value_of f vs ts []) fs

-- ---- the width of a formula, which is none where it isn't well formed

-- a part has 1 to 65,536 bits
abbrev pub sized : ℕ → Option ℕ
sized n = if nat_le 1 n && nat_le n 65536 then Some n else None

abbrev pub sized_option : Option ℕ → Option ℕ
sized_option None = None
sized_option (Some n) = sized n

-- whether an operation works on numbers, which have at most 128 bits
abbrev pub is_on_numbers : Op2 → Bool
is_on_numbers And = false
is_on_numbers Or = false
is_on_numbers Xor = false
is_on_numbers Equal = false
is_on_numbers Add = true
is_on_numbers Mul = true
is_on_numbers Div = true
is_on_numbers LessUnsigned = true
is_on_numbers LessSigned = true

abbrev pub one_width : Op1 → ℕ → ℕ
one_width Not n = n
one_width ReduceAnd n = 1
one_width ReduceOr n = 1
one_width ReduceXor n = 1

abbrev pub two_width : Op2 → ℕ → ℕ
two_width LessUnsigned n = 1
two_width LessSigned n = 1
two_width Equal n = 1
two_width _ n = n

abbrev pub pick_width : List ℕ → Option ℕ → Option ℕ
pick_width places None = None
pick_width places (Some n) = if list_all (λ i. nat_lt i n) places then sized (length places) else None

abbrev pub join_width : Option ℕ → Option ℕ → Option ℕ
join_width None n = None
join_width (Some m) None = None
join_width (Some m) (Some n) = sized (m + n)

abbrev pub one_width_option : Op1 → Option ℕ → Option ℕ
one_width_option op None = None
one_width_option op (Some n) = Some (one_width op n)

-- both parts have the same width
abbrev pub same_width : Option ℕ → Option ℕ → Option ℕ
same_width None n = None
same_width (Some m) None = None
same_width (Some m) (Some n) = if m == n then Some m else None

abbrev pub two_width_option : Op2 → Option ℕ → Option ℕ
two_width_option op None = None
two_width_option op (Some n) = if is_on_numbers op && not (nat_le n 128) then None else Some (two_width op n)

-- the select has one bit
abbrev pub choose_width : Option ℕ → Option ℕ → Option ℕ
choose_width None n = None
choose_width (Some m) n = if m == 1 then n else None

-- over the widths ws of operands and the widths of what enclosing Lets name
abbrev pub width_of : Formula → List ℕ → List ℕ → Option ℕ
width_of (Value p) ws named = sized_option (slice_get ws p)
width_of (Taint p) ws named = sized_option (slice_get ws p)
width_of (Const w) ws named = sized (length w)
width_of (Bound i) ws named = sized_option (slice_get named i)
width_of (Pick f places) ws named = pick_width places (width_of f ws named)
width_of (Join f g) ws named = join_width (width_of f ws named) (width_of g ws named)
width_of (One op f) ws named = one_width_option op (width_of f ws named)
width_of (Two op f g) ws named = two_width_option op (same_width (width_of f ws named) (width_of g ws named))
width_of (Choose s f g) ws named = choose_width (width_of s ws named) (same_width (width_of f ws named) (width_of g ws named))
width_of (Let f g) ws named = option_and_then (λ n. width_of g ws (n ∷ named)) (width_of f ws named)

-- ---- the cost of a formula, in cells of an augmented netlist

abbrev pub plain_width : Formula → List ℕ → List ℕ → ℕ
plain_width f ws named = unwrap_or (width_of f ws named) 0

-- how many pieces of 4,096 bits a word has
abbrev pub pieces : ℕ → ℕ
pieces n = (n + 4095) / 4096

-- one more cell joins the bits of several pieces
abbrev pub joined_pieces : ℕ → ℕ
joined_pieces p = if nat_lt 1 p then p + 1 else p

abbrev pub one_cost : Op1 → ℕ → ℕ
one_cost Not n = pieces n
one_cost ReduceAnd n = joined_pieces (pieces n)
one_cost ReduceOr n = joined_pieces (pieces n)
one_cost ReduceXor n = joined_pieces (pieces n)

abbrev pub two_cost : Op2 → ℕ → ℕ
two_cost Equal n = joined_pieces (pieces n)
two_cost _ n = pieces n

-- the costs of the parts, and what the form adds: by the widest part for One, Two and Choose, else nothing
abbrev pub cost_of : Formula → List ℕ → List ℕ → ℕ
cost_of (Value p) ws named = 0
cost_of (Taint p) ws named = 0
cost_of (Const w) ws named = 0
cost_of (Bound i) ws named = 0
cost_of (Pick f places) ws named = cost_of f ws named
cost_of (Join f g) ws named = cost_of f ws named + cost_of g ws named
cost_of (One op f) ws named = cost_of f ws named + one_cost op (plain_width f ws named)
cost_of (Two op f g) ws named = cost_of f ws named + cost_of g ws named + two_cost op (max (plain_width f ws named) (plain_width g ws named))
cost_of (Choose s f g) ws named = cost_of s ws named + cost_of f ws named + cost_of g ws named + pieces (max (plain_width s ws named) (max (plain_width f ws named) (plain_width g ws named)))
cost_of (Let f g) ws named = cost_of f ws named + cost_of g ws (plain_width f ws named ∷ named)

-- ---- a formula of n bits that costs at most k

pub record IsFormed (f : Formula) (ws named : List ℕ) (n k : ℕ) : Type 0 where
  pub width : width_of f ws named ≡ Some n
  pub cost : cost_of f ws named ≤ k
