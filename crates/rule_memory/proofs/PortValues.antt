-- What the formulas of a memory stand for at one port, bit by bit.
use Rattle.std.specs.Prelude.{ℕ, ◌+◌, ◌*◌, ◌≡◌, Bool, true, false, ◌&&◌, ◌||◌, List, [], ◌∷◌, ◌++◌, length, refl, if◌then◌else◌}
use Rattle.std.proofs.Common.{ap, ◌∙◌}
use Rattle.cif_defs.specs.Memory.{MemoryShape, is_inside, is_on_or_tainted, read_taint, read_word, row_at, sets_flag, write_address}
use Rattle.cif_defs.specs.Words.{Word, bit, flag_word, has_one, operand, word}
use Rattle.cif_defs.proofs.Numbers.{word-same}
use Rattle.cif_term.specs.declared.ops.Op1.TheVariants.{ReduceOr}
use Rattle.cif_term.specs.declared.ops.Op2.TheVariants.{And, Or}
use Rattle.cif_term.specs.Formulas.{Value, Taint, Const, One, Two, value_of}
use Rattle.cif_term.proofs.Values.{value-and, value-choose, value-or}
use Rattle.rule_memory.specs.MemoryFormulas.{word_formula, enable_formula, flag_formula, is_tainted, possible_enables, read_formula}
use Rattle.rule_memory.specs.MemoryTaints.{port_words}

-- ---- a read

ones_where : (tainted flag b : Bool) → (if tainted || flag then true else b) ≡ (tainted || flag || b)
ones_where true flag b = refl
ones_where false true b = refl
ones_where false false b = refl

pub read_value : (m : MemoryShape) (address address_taint flag flag_taint taint read_taints : Word)
    → value_of (read_formula m.width) (address ∷ flag ∷ read_word m address taint ∷ []) (address_taint ∷ flag_taint ∷ read_taints ∷ []) [] ≡ read_taint m address address_taint (bit flag 0) taint
unfolding read_word read_taint
read_value m address address_taint flag flag_taint taint read_taints =
    let vs : List Word = address ∷ flag ∷ read_word m address taint ∷ [] in
    let ts : List Word = address_taint ∷ flag_taint ∷ read_taints ∷ [] in
    let stored : ℕ → Bool = λ i. is_inside m address && bit taint (row_at m address * m.width + i) in
    value-choose m.width (has_one address_taint || bit flag 0) stored (λ i. true) (Two Or (is_tainted 0) (Value 1)) (Value 2) (Const (word m.width (λ i. true))) vs ts [] refl refl refl
    ∙ word-same m.width _ _ (λ i l. ones_where (has_one address_taint) (bit flag 0) (stored i))

-- ---- a write port

pub enable_value : (m : MemoryShape) (vs ts : List Word) (p : ℕ)
    → value_of (enable_formula m.width) (port_words m vs p) (port_words m ts p) [] ≡ word m.width (λ i. if has_one (write_address m ts p) then false else is_on_or_tainted vs ts (p * m.width + i))
enable_value m vs ts p =
    value-choose m.width (has_one (write_address m ts p)) (λ i. is_on_or_tainted vs ts (p * m.width + i)) (λ i. false) (is_tainted 1) possible_enables (Const (word m.width (λ i. false))) (port_words m vs p) (port_words m ts p) [] refl
    (value-or m.width (λ i. bit (operand vs 1) (p * m.width + i)) (λ i. bit (operand ts 1) (p * m.width + i)) (Value 0) (Taint 0) (port_words m vs p) (port_words m ts p) [] refl refl)
    refl

pub word_value : (m : MemoryShape) (vs ts : List Word) (p : ℕ)
    → value_of word_formula (port_words m vs p) (port_words m ts p) [] ≡ word m.width (λ i. bit (operand ts 3) (p * m.width + i) || bit (operand ts 1) (p * m.width + i))
word_value m vs ts p =
    value-or m.width (λ i. bit (operand ts 3) (p * m.width + i)) (λ i. bit (operand ts 1) (p * m.width + i)) (Taint 2) (Taint 0) (port_words m vs p) (port_words m ts p) [] refl refl

-- ---- the flag

pub one_bit : (w : Word) → length w ≡ 1 → w ≡ word 1 (λ i. bit w 0)
one_bit [] h = absurd (cc)
one_bit (b ∷ []) h = refl
one_bit (b ∷ c ∷ w) h = absurd (cc)

pub flag_value : (m : MemoryShape) (vs ts : List Word) (p : ℕ) (flag flag_taint : Word) → length flag ≡ 1
    → value_of flag_formula (port_words m vs p ++ flag ∷ []) (port_words m ts p ++ flag_taint ∷ []) [] ≡ flag_word 1 (bit flag 0 || sets_flag m vs ts p)
flag_value m vs ts p flag flag_taint h =
    let us : List Word = port_words m vs p ++ flag ∷ [] in
    let xs : List Word = port_words m ts p ++ flag_taint ∷ [] in
    let on : ℕ → Bool = λ i. is_on_or_tainted vs ts (p * m.width + i) in
    let enables : value_of possible_enables us xs [] ≡ word m.width on =
    value-or m.width (λ i. bit (operand vs 1) (p * m.width + i)) (λ i. bit (operand ts 1) (p * m.width + i)) (Value 0) (Taint 0) us xs [] refl refl in
    value-or 1 (λ i. bit flag 0) (λ i. has_one (write_address m ts p) && has_one (word m.width on)) (Value 3) (Two And (is_tainted 1) (One ReduceOr possible_enables)) us xs [] (one_bit flag h)
    (value-and 1 (λ i. has_one (write_address m ts p)) (λ i. has_one (word m.width on)) (is_tainted 1) (One ReduceOr possible_enables) us xs [] refl
    (ap (λ (w : Word). flag_word 1 (has_one w)) enables))
