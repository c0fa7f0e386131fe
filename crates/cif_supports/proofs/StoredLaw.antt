-- A tainted stored bit, or a flag that is set, has a tainted place in its support a cycle before.
use Rattle.std.specs.Prelude.{ℕ, suc, ◌<◌, ◌≤◌, ◌≡◌, Bool, true, false, ◌&&◌, ◌||◌, List, [], ◌∷◌, ◌++◌, map, length, get_or, refl}
use Rattle.std.specs.List.{list_any, range_with_len}
use Rattle.std.proofs.Common.{arith, sym, ap, ◌∙◌, inl, inr}
use Rattle.std.proofs.lemmas.List.{get_or_past}
use Rattle.std.proofs.lemmas.List.FromFn.{get_or-map-range_with_len, length-map-range_with_len}
use Rattle.cif_defs.specs.Cells.{Cell, shape_of}
use Rattle.cif_defs.specs.Kinds.{is_memory, is_register}
use Rattle.cif_defs.specs.Memory.{MemoryShape, next_flag, next_memory_taint}
use Rattle.cif_defs.specs.Netlist.{Netlist, cell_at, role_at}
use Rattle.cif_defs.specs.Run.{operand_words, state, value}
use Rattle.cif_defs.specs.Stimulus.{Stimulus}
use Rattle.cif_defs.specs.Taint.{next_register_taint}
use Rattle.cif_defs.specs.TaintRun.{flag_by, operand_taints, taint, taint_state, taint_stored_by}
use Rattle.cif_defs.specs.Words.{Word, bit}
use Rattle.cif_defs.specs.declared.kinds.Role.{Role}
use Rattle.cif_defs.specs.declared.kinds.Role.TheVariants.{CarriedOver, Combinational, MemoryBlock, PlainRegister, ResetRegister}
use Rattle.cif_defs.proofs.WordLaws.{le_or_lt}
use Rattle.cif_defs.proofs.Exact.{and_true, or_left, or_true}
use Rattle.cif_supports.specs.declared.places.Place.{Place}
use Rattle.cif_supports.specs.declared.places.Place.TheVariants.{Input, State, Flag, Out}
use Rattle.cif_supports.specs.declared.places.Place.TheVariants.{Word as WordBit}
use Rattle.cif_supports.specs.Places.{holds_bit, is_tainted, memory_place, stored_taint}
use Rattle.cif_supports.specs.Supports.{OperandBit, for_ports, places_read, port_bits, register_bits, stored_support, written_bits}
use Rattle.cif_supports.specs.Chains.{IsRunnable}
use Rattle.cif_supports.proofs.Lists.{any_left, any_right}
use Rattle.cif_supports.proofs.TaintedBits.{bit_taint}
use Rattle.cif_supports.proofs.TaintedStores.{register_reads}
use Rattle.cif_supports.proofs.TaintedMemory.{flag_reads, word_reads}
use Rattle.cif_supports.proofs.TaintedPlaces.{places_tainted, taints_many, words_many}

-- ---- what a cell stores next

at_cell : {X : Type 0} (f : ℕ → X) (n c : ℕ) (d : X) → c < n → get_or (map f (range_with_len 0 n)) c d ≡ f c
at_cell f n c d h = get_or-map-range_with_len f 0 n c c d h (omega arith)

past_cells : {X : Type 0} (f : ℕ → X) (n c : ℕ) (d : X) → n ≤ c → get_or (map f (range_with_len 0 n)) c d ≡ d
past_cells f n c d h = get_or_past (map f (range_with_len 0 n)) c d (omega (arith, length-map-range_with_len f 0 n))

taint_next : (n : Netlist) (s : Stimulus) (k c : ℕ) → c < length n.cells
    → stored_taint n s (suc k) c ≡ taint_stored_by (role_at n c) (cell_at n c) (value n s k) (taint n s k) (get_or (state n s k) c []) (stored_taint n s k c)
unfolding taint_state
taint_next n s k c l = at_cell (λ x. taint_stored_by (role_at n x) (cell_at n x) (value n s k) (taint n s k) (get_or (state n s k) x []) (stored_taint n s k x)) (length n.cells) c [] l

no_taint_next : (n : Netlist) (s : Stimulus) (k c : ℕ) → length n.cells ≤ c → stored_taint n s (suc k) c ≡ []
unfolding taint_state
no_taint_next n s k c l = past_cells (λ x. taint_stored_by (role_at n x) (cell_at n x) (value n s k) (taint n s k) (get_or (state n s k) x []) (stored_taint n s k x)) (length n.cells) c [] l

flag_next : (n : Netlist) (s : Stimulus) (k c : ℕ) → c < length n.cells
    → get_or (taint_state n s (suc k)).flags c false ≡ flag_by (role_at n c) (cell_at n c) (value n s k) (taint n s k) (get_or (taint_state n s k).flags c false)
unfolding taint_state
flag_next n s k c l = at_cell (λ x. flag_by (role_at n x) (cell_at n x) (value n s k) (taint n s k) (get_or (taint_state n s k).flags x false)) (length n.cells) c false l

no_flag_next : (n : Netlist) (s : Stimulus) (k c : ℕ) → length n.cells ≤ c → get_or (taint_state n s (suc k)).flags c false ≡ false
unfolding taint_state
no_flag_next n s k c l = past_cells (λ x. flag_by (role_at n x) (cell_at n x) (value n s k) (taint n s k) (get_or (taint_state n s k).flags x false)) (length n.cells) c false l

-- a bit that is tainted is one of a cell
inside_by_bit : (n : Netlist) (s : Stimulus) (k c i : ℕ) → bit (stored_taint n s (suc k) c) i ≡ true → c < length n.cells
inside_by_bit n s k c i h = elim (le_or_lt c (length n.cells)) [
  | inl l ↦ l
  | inr l ↦ absurd (let none : bit (stored_taint n s (suc k) c) i ≡ false = ap (λ (w : Word). bit w i) (no_taint_next n s k c l) in cc)
]

inside_by_flag : (n : Netlist) (s : Stimulus) (k c : ℕ) → get_or (taint_state n s (suc k)).flags c false ≡ true → c < length n.cells
inside_by_flag n s k c h = elim (le_or_lt c (length n.cells)) [
  | inl l ↦ l
  | inr l ↦ absurd (let none : get_or (taint_state n s (suc k)).flags c false ≡ false = no_flag_next n s k c l in cc)
]

-- ---- operand bits, then the place itself

follows_one : (n : Netlist) (order : List ℕ) (s : Stimulus) (k c : ℕ) (bits : List OperandBit) (own : Place) (b : Bool) → IsRunnable n order → (b ≡ true → is_tainted n s k own ≡ true)
    → (list_any (bit_taint (operand_taints (taint n s k) (cell_at n c))) bits || b) ≡ true
    → list_any (is_tainted n s k) (places_read n (cell_at n c) bits ++ own ∷ []) ≡ true
follows_one n order s k c bits own b r same h = elim (or_true (list_any (bit_taint (operand_taints (taint n s k) (cell_at n c))) bits) b h) [
  | inl some ↦ any_left (is_tainted n s k) (places_read n (cell_at n c) bits) (own ∷ []) (places_tainted n order s k (cell_at n c) bits r some)
  | inr e ↦ any_right (is_tainted n s k) (places_read n (cell_at n c) bits) (own ∷ []) (or_left (is_tainted n s k own) false (same e))
]

-- ---- registers

register_next : (role : Role) (c : Cell) (v t : ℕ → Bool) (stored st : Word) → is_register role ≡ true → taint_stored_by role c v t stored st ≡ next_register_taint c (operand_words v c) (operand_taints t c) stored st
register_next PlainRegister c v t stored st h = refl
register_next ResetRegister c v t stored st h = refl
register_next MemoryBlock c v t stored st h = absurd (cc)
register_next Combinational c v t stored st h = absurd (cc)
register_next CarriedOver c v t stored st h = absurd (cc)

state_law : (n : Netlist) (order : List ℕ) (s : Stimulus) (k c i : ℕ) → IsRunnable n order → is_tainted n s (suc k) (State c i) ≡ true → list_any (is_tainted n s k) (stored_support n (value n s k) (taint n s k) (State c i)) ≡ true
unfolding is_tainted stored_support
state_law n order s k c i r h =
    let x : Cell = cell_at n c in
    let v : ℕ → Bool = value n s k in
    let t : ℕ → Bool = taint n s k in
    let parts = and_true (is_register (role_at n c)) (bit (stored_taint n s (suc k) c) i) h in
    let inside = inside_by_bit n s k c i parts.1 in
    let next = taint_next n s k c inside ∙ register_next (role_at n c) x v t (get_or (state n s k) c []) (stored_taint n s k c) parts.0 in
    follows_one n order s k c (register_bits x i) (State c i) (bit (stored_taint n s k c) i) r (λ own. let e = parts.0 in rw (e, own) refl)
    (register_reads x i (operand_words v x) (operand_taints t x) (get_or (state n s k) c []) (stored_taint n s k c) (words_many v x.operands) (taints_many t x.operands)
    (ap (λ (w : Word). bit w i) (sym next) ∙ parts.1))

-- ---- memories

memory_next : (role : Role) (c : Cell) (v t : ℕ → Bool) (stored st : Word) → is_memory role ≡ true → taint_stored_by role c v t stored st ≡ next_memory_taint (shape_of c) (operand_words v c) (operand_taints t c) st
memory_next MemoryBlock c v t stored st h = refl
memory_next PlainRegister c v t stored st h = absurd (cc)
memory_next ResetRegister c v t stored st h = absurd (cc)
memory_next Combinational c v t stored st h = absurd (cc)
memory_next CarriedOver c v t stored st h = absurd (cc)

memory_flag : (role : Role) (c : Cell) (v t : ℕ → Bool) (flag : Bool) → is_memory role ≡ true → flag_by role c v t flag ≡ next_flag (shape_of c) (operand_words v c) (operand_taints t c) flag
memory_flag MemoryBlock c v t flag h = refl
memory_flag PlainRegister c v t flag h = absurd (cc)
memory_flag ResetRegister c v t flag h = absurd (cc)
memory_flag Combinational c v t flag h = absurd (cc)
memory_flag CarriedOver c v t flag h = absurd (cc)

word_law : (n : Netlist) (order : List ℕ) (s : Stimulus) (k c address i : ℕ) → IsRunnable n order → is_tainted n s (suc k) (WordBit c address i) ≡ true → list_any (is_tainted n s k) (stored_support n (value n s k) (taint n s k) (WordBit c address i)) ≡ true
unfolding is_tainted stored_support
word_law n order s k c address i r h =
    let x : Cell = cell_at n c in
    let v : ℕ → Bool = value n s k in
    let t : ℕ → Bool = taint n s k in
    let m : MemoryShape = shape_of x in
    let place : ℕ = memory_place m address i in
    let outer = and_true (is_memory (role_at n c) && holds_bit m address i) (bit (stored_taint n s (suc k) c) place) h in
    let parts = and_true (is_memory (role_at n c)) (holds_bit m address i) outer.0 in
    let inside = inside_by_bit n s k c place outer.1 in
    let next = taint_next n s k c inside ∙ memory_next (role_at n c) x v t (get_or (state n s k) c []) (stored_taint n s k c) parts.0 in
    follows_one n order s k c (for_ports x (written_bits x v t address i)) (WordBit c address i) (bit (stored_taint n s k c) place) r (λ own. let e = parts.0 in let f = parts.1 in rw (e, f, own) refl)
    (word_reads x v t address i (stored_taint n s k c) parts.1 (ap (λ (w : Word). bit w place) (sym next) ∙ outer.1))

flag_law : (n : Netlist) (order : List ℕ) (s : Stimulus) (k c : ℕ) → IsRunnable n order → is_tainted n s (suc k) (Flag c) ≡ true → list_any (is_tainted n s k) (stored_support n (value n s k) (taint n s k) (Flag c)) ≡ true
unfolding is_tainted stored_support
flag_law n order s k c r h =
    let x : Cell = cell_at n c in
    let v : ℕ → Bool = value n s k in
    let t : ℕ → Bool = taint n s k in
    let flag : Bool = get_or (taint_state n s k).flags c false in
    let parts = and_true (is_memory (role_at n c)) (get_or (taint_state n s (suc k)).flags c false) h in
    let inside = inside_by_flag n s k c parts.1 in
    let next = flag_next n s k c inside ∙ memory_flag (role_at n c) x v t flag parts.0 in
    follows_one n order s k c (for_ports x (port_bits x)) (Flag c) flag r (λ own. let e = parts.0 in rw (e, own) refl)
    (flag_reads x (operand_words v x) (operand_taints t x) flag (sym next ∙ parts.1))

-- whether a place keeps a bit from a cycle to the next
abbrev pub is_kept : Place → Bool
is_kept (State c i) = true
is_kept (WordBit c address i) = true
is_kept (Flag c) = true
is_kept (Input p i) = false
is_kept (Out c p i) = false

pub stored_law : (n : Netlist) (order : List ℕ) (s : Stimulus) (k : ℕ) (place : Place) → IsRunnable n order → is_kept place ≡ true → is_tainted n s (suc k) place ≡ true
    → list_any (is_tainted n s k) (stored_support n (value n s k) (taint n s k) place) ≡ true
stored_law n order s k (State c i) r e h = state_law n order s k c i r h
stored_law n order s k (WordBit c address i) r e h = word_law n order s k c address i r h
stored_law n order s k (Flag c) r e h = flag_law n order s k c r h
stored_law n order s k (Input p i) r e h = absurd (cc)
stored_law n order s k (Out c p i) r e h = absurd (cc)
