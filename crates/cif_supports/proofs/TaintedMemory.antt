-- What a memory stores next, its flag and what it reads: where one is tainted, what it follows is.
use Rattle.std.specs.Prelude.{ℕ, zero, suc, ◌+◌, ◌-◌, ◌*◌, ◌/◌, ◌%◌, ◌<◌, ◌≤◌, ◌≡◌, ◌⊎◌, ◌==◌, Bool, true, false, not, ◌&&◌, ◌||◌, List, [], ◌∷◌, nat_lt, nat_le, length, Contains, refl, if◌then◌else◌}
use Rattle.std.specs.List.{list_any}
use Rattle.std.proofs.Common.{arith, sym, ap, ◌∙◌, cond, inl, inr, subst}
use Rattle.std.proofs.lemmas.Bool.Decides.{nat_tests}
use Rattle.std.proofs.lemmas.Nat.{div-mul-add, mod-mul-add}
use Rattle.std.proofs.lemmas.List.Elements.{Contains-append_left}
use Rattle.cif_defs.specs.Words.{Word, bit, block, has_one, number, operand, word}
use Rattle.cif_defs.specs.Cells.{Cell, number_of, shape_of, width}
use Rattle.cif_defs.specs.Memory.{MemoryShape, data_place, flag_after, is_addressed, is_inside, is_on_or_tainted, memory_bits, next_flag, next_memory_taint, read_taint, row_at, sets_flag, write_address, written_taint_bit}
use Rattle.cif_defs.specs.Run.{operand_words}
use Rattle.cif_defs.specs.TaintRun.{operand_taints}
use Rattle.cif_defs.specs.declared.kinds.Param.TheVariants.{Abits, WrPorts}
use Rattle.cif_defs.proofs.WordLaws.{bit-word, le_or_lt, length-word, past_word}
use Rattle.cif_defs.proofs.Exact.{and_true, or_left, or_right, or_true, not_true}
use Rattle.cif_supports.specs.Places.{holds_bit, memory_place}
use Rattle.cif_supports.specs.Supports.{OperandBit, bits_from, for_ports, lane_bits, port_bits, written_bits}
use Rattle.cif_supports.proofs.Lists.{any_contained, contains_first, contains_later, contains_range_flat}
use Rattle.cif_supports.proofs.OperandBits.{contains_from}
use Rattle.cif_supports.proofs.TaintedBits.{bit_taint}

-- ---- a block of operand bits with a one

pub one_of : (w : Word) → has_one w ≡ true → (i : ℕ) × (i < length w) × (bit w i ≡ true)
one_of [] h = absurd (cc)
one_of (true ∷ w) h = (0, omega arith, refl)
one_of (false ∷ w) h = let rest = one_of w h in let l : rest.0 < length w = rest.1 in (suc rest.0, omega arith, rest.2)

-- a tainted bit of block k of operand p, among the operand bits of the block
pub block_reads : (ts : List Word) (p n k : ℕ) → has_one (block n k (operand ts p)) ≡ true → list_any (bit_taint ts) (bits_from p (k * n) n) ≡ true
block_reads ts p n k h =
    let one = one_of (block n k (operand ts p)) h in
    let i : ℕ = one.0 in
    let long : length (block n k (operand ts p)) ≡ n = length-word n (λ j. bit (operand ts p) (k * n + j)) in
    let l : i < n = (let m : i < length (block n k (operand ts p)) = one.1 in omega arith) in
    any_contained (bit_taint ts) (bits_from p (k * n) n) (p, k * n + i) (contains_from p (k * n) n i l)
    (sym (bit-word n (λ j. bit (operand ts p) (k * n + j)) i false l) ∙ one.2)

-- ---- the flag

flag_port : (m : MemoryShape) (vs ts : List Word) (ports : ℕ) (flag : Bool) → flag_after m vs ts ports flag ≡ true → (flag ≡ true) ⊎ ((port : ℕ) × (port < ports) × (sets_flag m vs ts port ≡ true))
unfolding flag_after
flag_port m vs ts zero flag h = inl h
flag_port m vs ts (suc ports) flag h = elim (or_true (flag_after m vs ts ports flag) (sets_flag m vs ts ports) h) [
  | inl before ↦ elim (flag_port m vs ts ports flag before) [
    | inl own ↦ inl own
    | inr found ↦ inr (found.0, (let l : found.0 < ports = found.1 in omega arith), found.2)
  ]
  | inr sets ↦ inr (ports, omega arith, sets)
]

port_reads : (c : Cell) (vs ts : List Word) (port : ℕ) → port < number_of c WrPorts → sets_flag (shape_of c) vs ts port ≡ true → list_any (bit_taint ts) (for_ports c (port_bits c)) ≡ true
port_reads c vs ts port l h =
    let address : has_one (write_address (shape_of c) ts port) ≡ true = (and_true (has_one (write_address (shape_of c) ts port)) (has_one (word (width c) (λ i. is_on_or_tainted vs ts (port * width c + i)))) h).0 in
    let one = one_of (write_address (shape_of c) ts port) address in
    let n : ℕ = number_of c Abits in
    let i : ℕ = one.0 in
    let long : length (write_address (shape_of c) ts port) ≡ n = length-word n (λ j. bit (operand ts 2) (port * n + j)) in
    let inside : i < n = (let m : i < length (write_address (shape_of c) ts port) = one.1 in omega arith) in
    any_contained (bit_taint ts) (for_ports c (port_bits c)) (2, port * n + i)
    (contains_range_flat (port_bits c) (number_of c WrPorts) port (2, port * n + i) l
    (Contains-append_left (bits_from 2 (port * n) n) (bits_from 1 (port * width c) (width c)) (2, port * n + i) (contains_from 2 (port * n) n i inside)))
    (sym (bit-word n (λ j. bit (operand ts 2) (port * n + j)) i false inside) ∙ one.2)

-- a flag that is set: an address bit of a write port is tainted, or it was set
pub flag_reads : (c : Cell) (vs ts : List Word) (flag : Bool) → next_flag (shape_of c) vs ts flag ≡ true → (list_any (bit_taint ts) (for_ports c (port_bits c)) || flag) ≡ true
flag_reads c vs ts flag h = elim (flag_port (shape_of c) vs ts (number_of c WrPorts) flag h) [
  | inl own ↦ or_right (list_any (bit_taint ts) (for_ports c (port_bits c))) flag own
  | inr found ↦ or_left (list_any (bit_taint ts) (for_ports c (port_bits c))) flag (port_reads c vs ts found.0 found.1 found.2)
]

-- ---- a stored bit

-- the write port that gives bit k its taint
pub record Gives (m : MemoryShape) (vs ts : List Word) (port k : ℕ) : Type 0 where
  pub clean : has_one (write_address m ts port) ≡ false
  pub addressed : is_addressed m (write_address m vs port) k ≡ true
  pub tainted : (bit (operand ts 3) (data_place m port k) || bit (operand ts 1) (data_place m port k)) ≡ true

cond_true : (b x y : Bool) → cond b x y ≡ true → ((b ≡ true) × (x ≡ true)) ⊎ (y ≡ true)
cond_true true x y h = inl (refl, h)
cond_true false x y h = inr h

gives_port : (m : MemoryShape) (vs ts : List Word) (port k : ℕ) (on : Bool) → ((not (has_one (write_address m ts port)) && is_addressed m (write_address m vs port) k) && on) ≡ true
    → (bit (operand ts 3) (data_place m port k) || bit (operand ts 1) (data_place m port k)) ≡ true → Gives m vs ts port k
gives_port m vs ts port k on h g =
    let both = and_true (not (has_one (write_address m ts port))) (is_addressed m (write_address m vs port) k) (and_true (not (has_one (write_address m ts port)) && is_addressed m (write_address m vs port) k) on h).0 in
    record { clean = not_true (has_one (write_address m ts port)) both.0; addressed = both.1; tainted = g }

written_port : (m : MemoryShape) (vs ts : List Word) (ports : ℕ) (st : Word) (k : ℕ) → written_taint_bit m vs ts ports st k ≡ true → (bit st k ≡ true) ⊎ ((port : ℕ) × (port < ports) × Gives m vs ts port k)
unfolding written_taint_bit
written_port m vs ts zero st k h = inl h
written_port m vs ts (suc ports) st k h = elim (cond_true (not (has_one (write_address m ts ports)) && is_addressed m (write_address m vs ports) k && is_on_or_tainted vs ts (data_place m ports k)) (bit (operand ts 3) (data_place m ports k) || bit (operand ts 1) (data_place m ports k)) (written_taint_bit m vs ts ports st k) h) [
  | inl here ↦ inr (ports, omega arith, gives_port m vs ts ports k (is_on_or_tainted vs ts (data_place m ports k)) here.0 here.1)
  | inr before ↦ elim (written_port m vs ts ports st k before) [
    | inl own ↦ inl own
    | inr found ↦ inr (found.0, (let l : found.0 < ports = found.1 in omega arith), found.2)
  ]
]

-- the tests of a place of a memory
holds_parts : (m : MemoryShape) (address i : ℕ) → holds_bit m address i ≡ true → (m.offset ≤ address) × (address - m.offset < m.size) × (i < m.width)
holds_parts m address i h =
    let outer = and_true (nat_le m.offset address && nat_lt (address - m.offset) m.size) (nat_lt i m.width) h in
    let inner = and_true (nat_le m.offset address) (nat_lt (address - m.offset) m.size) outer.0 in
    let a : nat_le m.offset address ≡ true = inner.0 in
    let b : nat_lt (address - m.offset) m.size ≡ true = inner.1 in
    let d : nat_lt i m.width ≡ true = outer.1 in
    (grind (arith, nat_tests), grind (arith, nat_tests), grind (arith, nat_tests))

same_address : (m : MemoryShape) (w : Word) (address i : ℕ) → holds_bit m address i ≡ true → is_addressed m w (memory_place m address i) ≡ true → number w ≡ address
same_address m w address i h g =
    let parts = holds_parts m address i h in
    let first : m.offset ≤ address = parts.0 in
    let test = and_true (is_inside m w) (memory_place m address i / m.width == row_at m w) g in
    let inside = and_true (nat_le m.offset (number w)) (nat_lt (number w - m.offset) m.size) test.0 in
    let low : nat_le m.offset (number w) ≡ true = inside.0 in
    let row : memory_place m address i / m.width ≡ address - m.offset = div-mul-add (address - m.offset) m.width i parts.2 in
    let same : (memory_place m address i / m.width == number w - m.offset) ≡ true = test.1 in
    let at : memory_place m address i / m.width ≡ number w - m.offset = grind (arith, nat_tests) in
    let above : m.offset ≤ number w = grind (arith, nat_tests) in
    omega arith

given_bits : (c : Cell) (v t : ℕ → Bool) (address i port : ℕ) (clean here : Bool) → has_one (write_address (shape_of c) (operand_taints t c) port) ≡ clean → (number (write_address (shape_of c) (operand_words v c) port) == address) ≡ here
    → clean ≡ false → here ≡ true
    → written_bits c v t address i port ≡ lane_bits c i port
given_bits c v t address i port clean here e f g h =
    let test : (not (has_one (write_address (shape_of c) (operand_taints t c) port)) && (number (write_address (shape_of c) (operand_words v c) port) == address)) ≡ true = cc in
    ap {B = List OperandBit} (λ b. if b then lane_bits c i port else []) test

given_reads : (c : Cell) (v t : ℕ → Bool) (address i port p : ℕ) → port < number_of c WrPorts → holds_bit (shape_of c) address i ≡ true
    → Contains (lane_bits c i port) (p, port * width c + i)
    → bit (operand (operand_taints t c) p) (data_place (shape_of c) port (memory_place (shape_of c) address i)) ≡ true
    → Gives (shape_of c) (operand_words v c) (operand_taints t c) port (memory_place (shape_of c) address i)
    → list_any (bit_taint (operand_taints t c)) (for_ports c (written_bits c v t address i)) ≡ true
given_reads c v t address i port p l holds at tainted g =
    let m : MemoryShape = shape_of c in
    let parts = holds_parts m address i holds in
    let same : number (write_address m (operand_words v c) port) ≡ address = same_address m (write_address m (operand_words v c) port) address i holds g.addressed in
    let here : (number (write_address m (operand_words v c) port) == address) ≡ true = grind (arith, nat_tests) in
    let bits : written_bits c v t address i port ≡ lane_bits c i port = given_bits c v t address i port _ _ refl refl g.clean here in
    let place : memory_place m address i % width c ≡ i = mod-mul-add (address - m.offset) (width c) i parts.2 in
    any_contained (bit_taint (operand_taints t c)) (for_ports c (written_bits c v t address i)) (p, port * width c + i)
    (contains_range_flat (written_bits c v t address i) (number_of c WrPorts) port (p, port * width c + i) l (subst (λ (x : List OperandBit). Contains x (p, port * width c + i)) (sym bits) at))
    (ap (λ j. bit (operand (operand_taints t c) p) (port * width c + j)) (sym place) ∙ tainted)

port_gives : (c : Cell) (v t : ℕ → Bool) (address i port : ℕ) → port < number_of c WrPorts → holds_bit (shape_of c) address i ≡ true
    → Gives (shape_of c) (operand_words v c) (operand_taints t c) port (memory_place (shape_of c) address i)
    → list_any (bit_taint (operand_taints t c)) (for_ports c (written_bits c v t address i)) ≡ true
port_gives c v t address i port l holds g =
    let place : ℕ = data_place (shape_of c) port (memory_place (shape_of c) address i) in
    elim (or_true (bit (operand (operand_taints t c) 3) place) (bit (operand (operand_taints t c) 1) place) g.tainted) [
      | inl e ↦ given_reads c v t address i port 3 l holds (contains_later (1, port * width c + i) ((3, port * width c + i) ∷ []) (3, port * width c + i) (contains_first (3, port * width c + i) [])) e g
      | inr e ↦ given_reads c v t address i port 1 l holds (contains_first (1, port * width c + i) ((3, port * width c + i) ∷ [])) e g
    ]

-- a tainted next bit of a memory: an enable or a datum of a write port at its address is tainted, or its own bit
pub word_reads : (c : Cell) (v t : ℕ → Bool) (address i : ℕ) (st : Word) → holds_bit (shape_of c) address i ≡ true
    → bit (next_memory_taint (shape_of c) (operand_words v c) (operand_taints t c) st) (memory_place (shape_of c) address i) ≡ true
    → (list_any (bit_taint (operand_taints t c)) (for_ports c (written_bits c v t address i)) || bit st (memory_place (shape_of c) address i)) ≡ true
word_reads c v t address i st holds h =
    let m : MemoryShape = shape_of c in
    let k : ℕ = memory_place m address i in
    elim (le_or_lt k (memory_bits m)) [
      | inl l ↦ (let on = sym (bit-word (memory_bits m) (λ x. written_taint_bit m (operand_words v c) (operand_taints t c) (number_of c WrPorts) st x) k false l) ∙ h in
          elim (written_port m (operand_words v c) (operand_taints t c) (number_of c WrPorts) st k on) [
            | inl own ↦ or_right (list_any (bit_taint (operand_taints t c)) (for_ports c (written_bits c v t address i))) (bit st k) own
            | inr found ↦ or_left (list_any (bit_taint (operand_taints t c)) (for_ports c (written_bits c v t address i))) (bit st k) (port_gives c v t address i found.0 found.1 holds found.2)
          ])
      | inr l ↦ absurd (let none : bit (next_memory_taint m (operand_words v c) (operand_taints t c) st) k ≡ false = past_word (memory_bits m) _ k false l in cc)
    ]

-- ---- a read

-- a tainted bit that is read: an address bit is tainted, the flag is set, or the bit that is stored there
pub record ReadsFrom (m : MemoryShape) (address : Word) (st : Word) (i : ℕ) : Type 0 where
  pub inside : is_inside m address ≡ true
  pub holds : holds_bit m (number address) i ≡ true
  pub tainted : bit st (memory_place m (number address) i) ≡ true

both : (a b : Bool) → a ≡ true → b ≡ true → (a && b) ≡ true
both a b h k = rw (h, k) refl

pub read_cases : (m : MemoryShape) (address address_taint : Word) (flag : Bool) (st : Word) (i : ℕ) → bit (read_taint m address address_taint flag st) i ≡ true
    → ((has_one address_taint || flag) ≡ true) ⊎ ReadsFrom m address st i
unfolding read_taint
read_cases m address address_taint flag st i h = elim (le_or_lt i m.width) [
  | inl l ↦ (let on = sym (bit-word m.width (λ k. has_one address_taint || flag || (is_inside m address && bit st (row_at m address * m.width + k))) i false l) ∙ h in
      elim (or_true (has_one address_taint || flag) (is_inside m address && bit st (row_at m address * m.width + i)) on) [
        | inl e ↦ inl e
        | inr e ↦ (let parts = and_true (is_inside m address) (bit st (row_at m address * m.width + i)) e in
            let below : nat_lt i m.width ≡ true = grind (arith, nat_tests) in
            inr (record { inside = parts.0; holds = both (is_inside m address) (nat_lt i m.width) parts.0 below; tainted = parts.1 }))
      ])
  | inr l ↦ absurd (let none : bit (read_taint m address address_taint flag st) i ≡ false = past_word m.width _ i false l in cc)
]
