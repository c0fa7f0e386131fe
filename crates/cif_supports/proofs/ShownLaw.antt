-- A tainted output bit has a tainted place in its support.
use Rattle.std.specs.Prelude.{ℕ, zero, suc, ◌+◌, ◌*◌, ◌/◌, ◌%◌, ◌<◌, ◌≤◌, ◌≡◌, Bool, true, false, List, [], ◌∷◌, map, length, get_or, Option, Some, None, refl}
use Rattle.std.specs.List.{list_any}
use Rattle.std.proofs.Common.{arith, sym, ap, ◌∙◌, cond, inl, inr}
use Rattle.std.proofs.lemmas.List.{get_or_past, length-map}
use Rattle.std.proofs.lemmas.Nat.{div-add-mod'}
use Rattle.cif_defs.specs.Cells.{Cell, number_of, reset_operand, shape_of, width}
use Rattle.cif_defs.specs.Fitted.{IsFitted, row_width}
use Rattle.cif_defs.specs.Kinds.{is_memory, is_register, role_of}
use Rattle.cif_defs.specs.Memory.{read_address}
use Rattle.cif_defs.specs.Netlist.{Netlist, cell_at, driver_of, no_cell, output_at, role_at}
use Rattle.cif_defs.specs.Run.{operand_words, state, value}
use Rattle.cif_defs.specs.Stimulus.{Stimulus}
use Rattle.cif_defs.specs.Table.{outputs_of}
use Rattle.cif_defs.specs.TaintRun.{driver_taint, input_taint, operand_taints, register_taint, taint, taint_state}
use Rattle.cif_defs.specs.Words.{Word, bit, has_one, number, operand}
use Rattle.cif_defs.specs.declared.kinds.Kind.{Kind}
use Rattle.cif_defs.specs.declared.kinds.Kind.TheVariants.{Dff, Dffe, Sdff, Sdffe, Sdffce, Adff, Adffe, Mem, ScopeInfo}
use Rattle.cif_defs.specs.declared.kinds.Param.TheVariants.{Abits, RdPorts}
use Rattle.cif_defs.specs.declared.kinds.Role.{Role}
use Rattle.cif_defs.specs.declared.kinds.Role.TheVariants.{CarriedOver, Combinational, MemoryBlock, PlainRegister, ResetRegister}
use Rattle.cif_defs.specs.declared.nets.Driver.{Driver}
use Rattle.cif_defs.specs.declared.nets.Driver.TheVariants.{Output, Register, Read}
use Rattle.cif_defs.proofs.WordLaws.{le_or_lt}
use Rattle.cif_defs.proofs.Exact.{or_left, or_right, or_true}
use Rattle.cif_supports.specs.declared.places.Place.{Place}
use Rattle.cif_supports.specs.declared.places.Place.TheVariants.{State, Flag}
use Rattle.cif_supports.specs.declared.places.Place.TheVariants.{Word as WordBit}
use Rattle.cif_supports.specs.Places.{is_tainted, stored_taint}
use Rattle.cif_supports.specs.Supports.{bits_from, bits_read, places_read, shown_support, word_read}
use Rattle.cif_supports.specs.Chains.{IsRunnable}
use Rattle.cif_supports.proofs.Lists.{any_left, any_right}
use Rattle.cif_supports.proofs.TaintedBits.{output_reads}
use Rattle.cif_supports.proofs.TaintedStores.{shown_reads}
use Rattle.cif_supports.proofs.TaintedMemory.{ReadsFrom, block_reads, read_cases}
use Rattle.cif_supports.proofs.TaintedPlaces.{places_tainted, taint_given, taints_long, words_long}

-- ---- what is connected

no_outputs : (c : Cell) (p i b : ℕ) → length c.outputs ≤ p → output_at c p i ≡ Some b → ⊥
no_outputs c p i b l e = let none : output_at c p i ≡ None = ap (λ bits. get_or bits i None) (get_or_past c.outputs p [] l) in absurd (cc)

pub fitted_at : (n : Netlist) (order : List ℕ) (c p i b : ℕ) → IsRunnable n order → output_at (cell_at n c) p i ≡ Some b → IsFitted (cell_at n c)
fitted_at n order c p i b r e = elim (le_or_lt c (length n.cells)) [
  | inl l ↦ r.fitted c l
  | inr l ↦ absurd (let past : output_at (cell_at n c) p i ≡ None = ap (λ (x : Cell). output_at x p i) (get_or_past n.cells c no_cell l) in cc)
]

outputs_by_role : (k : Kind) (role : Role) → role_of k ≡ role → (role ≡ Combinational → ⊥) → length (outputs_of k) ≤ 1
unfolding outputs_of
outputs_by_role Dff role e h = omega arith
outputs_by_role Dffe role e h = omega arith
outputs_by_role Sdff role e h = omega arith
outputs_by_role Sdffe role e h = omega arith
outputs_by_role Sdffce role e h = omega arith
outputs_by_role Adff role e h = omega arith
outputs_by_role Adffe role e h = omega arith
outputs_by_role Mem role e h = omega arith
outputs_by_role ScopeInfo role e h = omega arith
outputs_by_role _ role e h = absurd (h (sym e))

output_count : (c : Cell) → IsFitted c → length c.outputs ≡ length (outputs_of c.kind)
output_count c f = sym (length-map c.outputs length) ∙ ap length f.outputs ∙ length-map (outputs_of c.kind) (row_width c)

no_carried : (k : Kind) → role_of k ≡ CarriedOver → length (outputs_of k) ≡ 0
unfolding outputs_of
no_carried ScopeInfo e = refl
no_carried _ e = absurd (cc)

-- only combinational cells have more outputs than one
only_output : (c : Cell) (p i b : ℕ) (role : Role) → role_of c.kind ≡ role → (role ≡ Combinational → ⊥) → IsFitted c → output_at c p i ≡ Some b → p ≡ 0
only_output c p i b role q h f e = elim (le_or_lt 0 p) [
  | inl l ↦ absurd (no_outputs c p i b (let many = output_count c f in let few = outputs_by_role c.kind role q h in omega arith) e)
  | inr l ↦ omega arith
]

first_output : (c : Cell) (p i b : ℕ) → p ≡ 0 → output_at c p i ≡ Some b → output_at c 0 i ≡ Some b
first_output c p i b z e = ap (λ q. output_at c q i) (sym z) ∙ e

-- ---- a memory with a connected output has words of some width

memory_kind : (k : Kind) → role_of k ≡ MemoryBlock → k ≡ Mem
memory_kind Mem e = refl
memory_kind _ e = absurd (cc)

connected : (c : Cell) (i b : ℕ) → output_at c 0 i ≡ Some b → i < length (get_or c.outputs 0 [])
connected c i b e = elim (le_or_lt i (length (get_or c.outputs 0 []))) [
  | inl l ↦ l
  | inr l ↦ absurd (let none : output_at c 0 i ≡ None = get_or_past (get_or c.outputs 0 []) i None l in cc)
]

first_length : (outs : List (List (Option ℕ))) → length (get_or outs 0 []) ≡ get_or (map length outs) 0 0
first_length [] = refl
first_length (o ∷ outs) = refl

memory_outputs : (c : Cell) → outputs_of c.kind ≡ outputs_of Mem → IsFitted c → length (get_or c.outputs 0 []) ≡ number_of c RdPorts * width c
unfolding outputs_of
memory_outputs c q f = first_length c.outputs ∙ ap (λ (xs : List ℕ). get_or xs 0 0) (f.outputs ∙ ap (map (row_width c)) q)

positive : (k a b : ℕ) → k < a * b → 0 < b
positive k a zero h = absurd (let q : a * 0 ≡ 0 = omega arith in omega arith)
positive k a (suc b) h = omega arith

wide_memory : (c : Cell) (i b : ℕ) → role_of c.kind ≡ MemoryBlock → IsFitted c → output_at c 0 i ≡ Some b → 0 < width c
wide_memory c i b q f e =
    let l : i < length (get_or c.outputs 0 []) = connected c i b e in
    let all : length (get_or c.outputs 0 []) ≡ number_of c RdPorts * width c = memory_outputs c (ap outputs_of (memory_kind c.kind q)) f in
    positive i (number_of c RdPorts) (width c) (omega arith)

-- ---- by the role of the cell

given_by : (n : Netlist) (order : List ℕ) (s : Stimulus) (k b : ℕ) (g : Driver) → driver_of n b ≡ g → IsRunnable n order → taint n s k b ≡ true
    → driver_taint n (state n s k) (value n s k) (taint_state n s k) (input_taint n s k) (taint n s k) g ≡ true
given_by n order s k b g e r h = ap (driver_taint n (state n s k) (value n s k) (taint_state n s k) (input_taint n s k) (taint n s k)) (sym e) ∙ taint_given n order s k b r h

combinational_shown : (n : Netlist) (order : List ℕ) (s : Stimulus) (k c p i : ℕ) → IsRunnable n order
    → driver_taint n (state n s k) (value n s k) (taint_state n s k) (input_taint n s k) (taint n s k) (Output c p i) ≡ true
    → list_any (is_tainted n s k) (shown_support Combinational n (value n s k) c i) ≡ true
unfolding driver_taint shown_support
combinational_shown n order s k c p i r h =
    let x : Cell = cell_at n c in
    places_tainted n order s k x (bits_read x.kind x i) r
    (output_reads x p i (operand_words (value n s k) x) (operand_taints (taint n s k) x) (words_long (value n s k) x) (taints_long (taint n s k) x) h)

-- a tainted stored bit of a register
state_tainted : (n : Netlist) (s : Stimulus) (k c i : ℕ) → is_register (role_at n c) ≡ true → bit (stored_taint n s k c) i ≡ true → is_tainted n s k (State c i) ≡ true
unfolding is_tainted
state_tainted n s k c i e h = rw (e, h) refl

one_place : (test : Place → Bool) (q : Place) → test q ≡ true → list_any test (q ∷ []) ≡ true
one_place test q h = or_left (test q) false h

reset_shown : (n : Netlist) (order : List ℕ) (s : Stimulus) (k c i : ℕ) → IsRunnable n order → is_register (role_at n c) ≡ true
    → register_taint ResetRegister (cell_at n c) (value n s k) (taint n s k) (get_or (state n s k) c []) (stored_taint n s k c) i ≡ true
    → list_any (is_tainted n s k) (shown_support ResetRegister n (value n s k) c i) ≡ true
unfolding shown_support
reset_shown n order s k c i r e h =
    let x : Cell = cell_at n c in
    let q : ℕ = reset_operand x.kind in
    let ts : List Word = operand_taints (taint n s k) x in
    elim (or_true (bit (operand ts q) 0) (bit (stored_taint n s k c) i) (shown_reads x i (operand (operand_words (value n s k) x) q) (operand ts q) (get_or (state n s k) c []) (stored_taint n s k c) h)) [
      | inl reset ↦ any_left (is_tainted n s k) (places_read n x ((q, 0) ∷ [])) (State c i ∷ []) (places_tainted n order s k x ((q, 0) ∷ []) r (or_left (bit (operand ts q) 0) false reset))
      | inr own ↦ any_right (is_tainted n s k) (places_read n x ((q, 0) ∷ [])) (State c i ∷ []) (one_place (is_tainted n s k) (State c i) (state_tainted n s k c i e own))
    ]

flag_tainted : (n : Netlist) (s : Stimulus) (k c : ℕ) → is_memory (role_at n c) ≡ true → get_or (taint_state n s k).flags c false ≡ true → is_tainted n s k (Flag c) ≡ true
unfolding is_tainted
flag_tainted n s k c e h = rw (e, h) refl

word_tainted : (n : Netlist) (s : Stimulus) (k c i : ℕ) (address : Word) → is_memory (role_at n c) ≡ true → ReadsFrom (shape_of (cell_at n c)) address (stored_taint n s k c) i → is_tainted n s k (WordBit c (number address) i) ≡ true
unfolding is_tainted
word_tainted n s k c i address e h = let a = h.holds in let b = h.tainted in rw (e, a, b) refl

read_shown : (n : Netlist) (s : Stimulus) (k c j i : ℕ) → is_memory (role_at n c) ≡ true
    → ReadsFrom (shape_of (cell_at n c)) (read_address (shape_of (cell_at n c)) (operand_words (value n s k) (cell_at n c)) j) (stored_taint n s k c) i
    → list_any (is_tainted n s k) (word_read n (value n s k) c j i) ≡ true
read_shown n s k c j i e h =
    let address : Word = read_address (shape_of (cell_at n c)) (operand_words (value n s k) (cell_at n c)) j in
    ap (λ b. list_any (is_tainted n s k) (cond b (WordBit c (number address) i ∷ []) [])) h.inside ∙ one_place (is_tainted n s k) (WordBit c (number address) i) (word_tainted n s k c i address e h)

memory_shown : (n : Netlist) (order : List ℕ) (s : Stimulus) (k c i : ℕ) → IsRunnable n order → is_memory (role_at n c) ≡ true
    → driver_taint n (state n s k) (value n s k) (taint_state n s k) (input_taint n s k) (taint n s k) (Read c (i / width (cell_at n c)) (i % width (cell_at n c))) ≡ true
    → list_any (is_tainted n s k) (shown_support MemoryBlock n (value n s k) c i) ≡ true
unfolding driver_taint shown_support
memory_shown n order s k c i r e h =
    let x : Cell = cell_at n c in
    let j : ℕ = i / width x in
    let a : ℕ = number_of x Abits in
    let ts : List Word = operand_taints (taint n s k) x in
    let flag : Bool = get_or (taint_state n s k).flags c false in
    let address : List Place = places_read n x (bits_from 0 (j * a) a) in
    let rest : List Place = word_read n (value n s k) c j (i % width x) in
    elim (read_cases (shape_of x) (read_address (shape_of x) (operand_words (value n s k) x) j) (read_address (shape_of x) ts j) flag (stored_taint n s k c) (i % width x) h) [
      | inl early ↦ elim (or_true (has_one (read_address (shape_of x) ts j)) flag early) [
        | inl some ↦ any_left (is_tainted n s k) address (Flag c ∷ rest) (places_tainted n order s k x (bits_from 0 (j * a) a) r (block_reads ts 0 a j some))
        | inr set ↦ any_right (is_tainted n s k) address (Flag c ∷ rest) (or_left (is_tainted n s k (Flag c)) (list_any (is_tainted n s k) rest) (flag_tainted n s k c e set))
      ]
      | inr stored ↦ any_right (is_tainted n s k) address (Flag c ∷ rest) (or_right (is_tainted n s k (Flag c)) (list_any (is_tainted n s k) rest) (read_shown n s k c j (i % width x) e stored))
    ]

plain_given : (n : Netlist) (s : Stimulus) (k c i : ℕ) → role_at n c ≡ PlainRegister → driver_taint n (state n s k) (value n s k) (taint_state n s k) (input_taint n s k) (taint n s k) (Register c i) ≡ true → bit (stored_taint n s k c) i ≡ true
unfolding driver_taint
plain_given n s k c i e h = ap (λ (role : Role). register_taint role (cell_at n c) (value n s k) (taint n s k) (get_or (state n s k) c []) (stored_taint n s k c) i) (sym e) ∙ h

reset_given : (n : Netlist) (s : Stimulus) (k c i : ℕ) → role_at n c ≡ ResetRegister → driver_taint n (state n s k) (value n s k) (taint_state n s k) (input_taint n s k) (taint n s k) (Register c i) ≡ true
    → register_taint ResetRegister (cell_at n c) (value n s k) (taint n s k) (get_or (state n s k) c []) (stored_taint n s k c) i ≡ true
unfolding driver_taint
reset_given n s k c i e h = ap (λ (role : Role). register_taint role (cell_at n c) (value n s k) (taint n s k) (get_or (state n s k) c []) (stored_taint n s k c) i) (sym e) ∙ h

-- the law, for output bit i of a cell, connected to net bit b
shown_by : (n : Netlist) (order : List ℕ) (s : Stimulus) (k c p i b : ℕ) (role : Role) → role_at n c ≡ role → IsRunnable n order → output_at (cell_at n c) p i ≡ Some b → taint n s k b ≡ true
    → list_any (is_tainted n s k) (shown_support role n (value n s k) c i) ≡ true
unfolding shown_support
shown_by n order s k c p i b Combinational e r q h = combinational_shown n order s k c p i r (given_by n order s k b (Output c p i) (r.wired.by_output c p i b e q) r h)
shown_by n order s k c p i b CarriedOver e r q h =
    absurd (no_outputs (cell_at n c) p i b (let many = output_count (cell_at n c) (fitted_at n order c p i b r q) in let none = no_carried (cell_at n c).kind e in omega arith) q)
shown_by n order s k c p i b PlainRegister e r q h =
    let z : p ≡ 0 = only_output (cell_at n c) p i b PlainRegister e (λ x. absurd (cc)) (fitted_at n order c p i b r q) q in
    let g : driver_of n b ≡ Register c i = r.wired.by_register c i b (inl e) (first_output (cell_at n c) p i b z q) in
    one_place (is_tainted n s k) (State c i) (state_tainted n s k c i (ap is_register e) (plain_given n s k c i e (given_by n order s k b (Register c i) g r h)))
shown_by n order s k c p i b ResetRegister e r q h =
    let z : p ≡ 0 = only_output (cell_at n c) p i b ResetRegister e (λ x. absurd (cc)) (fitted_at n order c p i b r q) q in
    let g : driver_of n b ≡ Register c i = r.wired.by_register c i b (inr e) (first_output (cell_at n c) p i b z q) in
    reset_shown n order s k c i r (ap is_register e) (reset_given n s k c i e (given_by n order s k b (Register c i) g r h))
shown_by n order s k c p i b MemoryBlock e r q h =
    let x : Cell = cell_at n c in
    let w : ℕ = width x in
    let f = fitted_at n order c p i b r q in
    let z : p ≡ 0 = only_output x p i b MemoryBlock e (λ y. absurd (cc)) f q in
    let at : output_at x 0 i ≡ Some b = first_output x p i b z q in
    let some : 0 < w = wide_memory x i b e f at in
    let small : i % w < w = omega arith in
    let whole : output_at x 0 (i / w * w + i % w) ≡ Some b = ap (output_at x 0) (div-add-mod' i w) ∙ at in
    memory_shown n order s k c i r (ap is_memory e) (given_by n order s k b (Read c (i / w) (i % w)) (r.wired.by_read c (i / w) (i % w) b e small whole) r h)

pub shown_law : (n : Netlist) (order : List ℕ) (s : Stimulus) (k c p i b : ℕ) → IsRunnable n order → output_at (cell_at n c) p i ≡ Some b → taint n s k b ≡ true
    → list_any (is_tainted n s k) (shown_support (role_at n c) n (value n s k) c i) ≡ true
shown_law n order s k c p i b r q h = shown_by n order s k c p i b (role_at n c) refl r q h
