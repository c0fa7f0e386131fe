-- The members of a support rank below what they support: within a cycle by the order of the cells, and between cycles by the cycle.
use Rattle.std.specs.Prelude.{ℕ, zero, suc, ◌+◌, ◌*◌, ◌/◌, ◌%◌, ◌<◌, ◌≤◌, ◌≡◌, ◌⊎◌, Bool, true, false, List, [], ◌∷◌, map, length, Contains, Option, Some, None, refl}
use Rattle.std.specs.List.{cons_option, range_with_len}
use Rattle.std.proofs.Common.{arith, sym, ap, ◌∙◌, cond, inl, inr, subst}
use Rattle.std.proofs.lemmas.List.Elements.{Contains-append_cases}
use Rattle.cif_defs.specs.Cells.{Cell, number_of, reset_operand, shape_of, width}
use Rattle.cif_defs.specs.Memory.{is_inside, read_address}
use Rattle.cif_defs.specs.Loop.{is_passing}
use Rattle.cif_defs.specs.Netlist.{Netlist, cell_at, driver_of, operand_at, role_at}
use Rattle.cif_defs.specs.Run.{operand_words, value}
use Rattle.cif_defs.specs.Stimulus.{Stimulus}
use Rattle.cif_defs.specs.TaintRun.{taint}
use Rattle.cif_defs.specs.Words.{number}
use Rattle.cif_defs.specs.declared.kinds.Param.TheVariants.{Abits}
use Rattle.cif_defs.specs.declared.kinds.Role.{Role}
use Rattle.cif_defs.specs.declared.kinds.Role.TheVariants.{CarriedOver, Combinational, MemoryBlock, PlainRegister, ResetRegister}
use Rattle.cif_defs.specs.declared.nets.Src.{Src}
use Rattle.cif_defs.specs.declared.nets.Src.TheVariants.{Bit, Zero, One}
use Rattle.cif_defs.specs.declared.nets.Driver.{Driver}
use Rattle.cif_defs.specs.declared.nets.Driver.TheVariants.{Output, Register, Read, Clock}
use Rattle.cif_defs.specs.declared.nets.Driver.TheVariants.{Input as ByInput}
use Rattle.cif_defs.proofs.Levels.{IsRanked, driver_rank, rank_of, register_rank}
use Rattle.cif_defs.proofs.Orders.{has_place, length-order, place_in, ranked_from_levels}
use Rattle.cif_supports.specs.declared.places.Place.{Place}
use Rattle.cif_supports.specs.declared.places.Place.TheVariants.{Input, State, Word, Flag, Out}
use Rattle.cif_supports.specs.declared.places.Member.{Member}
use Rattle.cif_supports.specs.Places.{driving_place, place_read}
use Rattle.cif_supports.specs.Supports.{OperandBit, bits_from, bits_read, places_read, shown_support, stored_support, word_read}
use Rattle.cif_supports.specs.Chains.{IsRunnable, at_cycle, support}
use Rattle.cif_supports.proofs.Lists.{contains_first, contains_later, from_map, no_item, only_item}

-- ---- ranks within a cycle

abbrev cell_rank : Role → ℕ → ℕ
cell_rank Combinational k = suc k
cell_rank ResetRegister k = suc k
cell_rank MemoryBlock k = suc k
cell_rank PlainRegister k = 0
cell_rank CarriedOver k = 0

-- stored bits and inputs first, then output bits in the order of their cells
abbrev pub place_rank : Netlist → (ℕ → ℕ) → Place → ℕ
place_rank n r (Out c p i) = suc (cell_rank (role_at n c) (r c))
place_rank n r (Input p i) = 0
place_rank n r (State c i) = 0
place_rank n r (Word c address i) = 0
place_rank n r (Flag c) = 0

-- the rank of a member: each cycle has its own range
abbrev pub member_rank : Netlist → List ℕ → Member → ℕ
member_rank n order m = m.cycle * (length n.cells + 2) + place_rank n (place_in order) m.place

-- ---- the place of a driver ranks just above its net bit

role_rank : (n : Netlist) (c k : ℕ) (role : Role) → role_at n c ≡ role → cell_rank (role_at n c) k ≡ cell_rank role k
role_rank n c k role e = ap (λ x. cell_rank x k) e

register_ranks : (role : Role) (k : ℕ) → (role ≡ PlainRegister) ⊎ (role ≡ ResetRegister) → cell_rank role k ≡ register_rank role k
register_ranks PlainRegister k e = refl
register_ranks ResetRegister k e = refl
register_ranks Combinational k (inl e) = absurd (cc)
register_ranks Combinational k (inr e) = absurd (cc)
register_ranks MemoryBlock k (inl e) = absurd (cc)
register_ranks MemoryBlock k (inr e) = absurd (cc)
register_ranks CarriedOver k (inl e) = absurd (cc)
register_ranks CarriedOver k (inr e) = absurd (cc)

driver_place_rank : (n : Netlist) (order : List ℕ) (b : ℕ) (g : Driver) (q : Place) → driver_of n b ≡ g → IsRunnable n order → driving_place n g ≡ Some q → place_rank n (place_in order) q ≤ suc (driver_rank n (place_in order) g)
driver_place_rank n order b (ByInput p i) q e r h = let at : Input p i ≡ q = cc in subst (λ x. place_rank n (place_in order) x ≤ 1) at (omega arith)
driver_place_rank n order b (Output c p i) q e r h =
    let at : Out c p i ≡ q = cc in
    let same : cell_rank (role_at n c) (place_in order c) ≡ suc (place_in order c) = role_rank n c (place_in order c) Combinational (r.wired.output_role b c p i e) in
    subst (λ x. place_rank n (place_in order) x ≤ suc (suc (place_in order c))) at (omega arith)
driver_place_rank n order b (Register c i) q e r h =
    let at : Out c 0 i ≡ q = cc in
    let same : cell_rank (role_at n c) (place_in order c) ≡ register_rank (role_at n c) (place_in order c) = register_ranks (role_at n c) (place_in order c) (r.wired.register_role b c i e) in
    subst (λ x. place_rank n (place_in order) x ≤ suc (register_rank (role_at n c) (place_in order c))) at (omega arith)
driver_place_rank n order b (Read c p i) q e r h =
    let at : Out c 0 (p * width (cell_at n c) + i) ≡ q = cc in
    let same : cell_rank (role_at n c) (place_in order c) ≡ suc (place_in order c) = role_rank n c (place_in order c) MemoryBlock (r.wired.read_role b c p i e) in
    subst (λ x. place_rank n (place_in order) x ≤ suc (suc (place_in order c))) at (omega arith)
driver_place_rank n order b Clock q e r h = absurd (cc)

-- ---- the places that operand bits read

-- a place that an operand bit reads
abbrev pub ReadBy : Netlist → Cell → List OperandBit → Place → Type 0
ReadBy n c bits q = (b : OperandBit) × Contains bits b × (place_read n (operand_at c b.0 b.1) ≡ Some q)

read_later : (n : Netlist) (c : Cell) (b : OperandBit) (bits : List OperandBit) (q : Place) → ReadBy n c bits q → ReadBy n c (b ∷ bits) q
read_later n c b bits q h = (h.0, contains_later b bits h.0 h.1, h.2)

read_cases : (n : Netlist) (c : Cell) (b : OperandBit) (bits : List OperandBit) (q : Place) (o : Option Place) → place_read n (operand_at c b.0 b.1) ≡ o → (Contains (places_read n c bits) q → ReadBy n c bits q)
    → Contains (cons_option o (places_read n c bits)) q → ReadBy n c (b ∷ bits) q
read_cases n c b bits q None e rest h = read_later n c b bits q (rest h)
read_cases n c b bits q (Some x) e rest (zero, l, same) = (b, contains_first b bits, e ∙ ap Some same)
read_cases n c b bits q (Some x) e rest (suc k, l, same) = read_later n c b bits q (rest (k, (let m : suc k < suc (length (places_read n c bits)) = l in omega arith), same))

place_of_bit : (n : Netlist) (c : Cell) (bits : List OperandBit) (q : Place) → Contains (places_read n c bits) q → ReadBy n c bits q
place_of_bit n c [] q h = absurd (no_item q h)
place_of_bit n c (b ∷ bits) q h = read_cases n c b bits q (place_read n (operand_at c b.0 b.1)) refl (λ at. place_of_bit n c bits q at) h

-- the drivers of operand bits that count rank at most as the cell
abbrev AllCount : Netlist → List ℕ → ℕ → List OperandBit → Type 0
AllCount n order c bits = (b : OperandBit) → Contains bits b → (x : ℕ) → operand_at (cell_at n c) b.0 b.1 ≡ Bit x → rank_of n (place_in order) x ≤ place_in order c

source_rank : (n : Netlist) (order : List ℕ) (c : ℕ) (src : Src) (q : Place) → IsRunnable n order → ((x : ℕ) → src ≡ Bit x → rank_of n (place_in order) x ≤ place_in order c) → place_read n src ≡ Some q
    → place_rank n (place_in order) q ≤ suc (place_in order c)
source_rank n order c (Bit x) q r low e =
    let above : place_rank n (place_in order) q ≤ suc (rank_of n (place_in order) x) = driver_place_rank n order x (driver_of n x) q refl r e in
    let below : rank_of n (place_in order) x ≤ place_in order c = low x refl in
    omega arith
source_rank n order c Zero q r low e = absurd (cc)
source_rank n order c One q r low e = absurd (cc)

reads_rank : (n : Netlist) (order : List ℕ) (c : ℕ) (bits : List OperandBit) (q : Place) → IsRunnable n order → AllCount n order c bits → Contains (places_read n (cell_at n c) bits) q → place_rank n (place_in order) q ≤ suc (place_in order c)
reads_rank n order c bits q r low h =
    let found = place_of_bit n (cell_at n c) bits q h in
    let b : OperandBit = found.0 in
    source_rank n order c (operand_at (cell_at n c) b.0 b.1) q r (λ x e. low b found.1 x e) found.2

-- ---- within a cycle

ranked : (n : Netlist) (order : List ℕ) → IsRunnable n order → IsRanked n (place_in order)
ranked n order r = ranked_from_levels n order r.wired r.levelled

stored_rank : (n : Netlist) (r : ℕ → ℕ) (x q : Place) → Contains (x ∷ []) q → place_rank n r x ≡ 0 → place_rank n r q ≡ 0
stored_rank n r x q h e = ap (place_rank n r) (sym (only_item x q h)) ∙ e

first_operand : (p start count : ℕ) (b : OperandBit) → Contains (bits_from p start count) b → b.0 ≡ p
first_operand p start count b h = let from = from_map (λ i. (p, start + i)) (range_with_len 0 count) b h in ap (λ (x : OperandBit). x.0) (sym from.2)

reset_bit : (p : ℕ) (b : OperandBit) → Contains ((p, 0) ∷ []) b → b.0 ≡ p
reset_bit p b h = ap (λ (x : OperandBit). x.0) (sym (only_item {A = OperandBit} (p, 0) b h))

word_rank : (n : Netlist) (r : ℕ → ℕ) (inside : Bool) (x q : Place) → place_rank n r x ≡ 0 → Contains (cond inside (x ∷ []) []) q → place_rank n r q ≡ 0
word_rank n r true x q e h = stored_rank n r x q h e
word_rank n r false x q e h = absurd (no_item q h)

-- what an output bit follows in its cycle ranks below it
shown_rank : (n : Netlist) (order : List ℕ) (v : ℕ → Bool) (c i : ℕ) (q : Place) (role : Role) → role_at n c ≡ role → IsRunnable n order → Contains (shown_support role n v c i) q
    → place_rank n (place_in order) q < suc (cell_rank role (place_in order c))
unfolding shown_support
shown_rank n order v c i q Combinational e r h =
    let low : place_rank n (place_in order) q ≤ suc (place_in order c) =
    reads_rank n order c (bits_read (cell_at n c).kind (cell_at n c) i) q r (λ b at x f. (ranked n order r).by_cell c b.0 b.1 x e f) h in
    omega arith
shown_rank n order v c i q PlainRegister e r h = let none : place_rank n (place_in order) q ≡ 0 = stored_rank n (place_in order) (State c i) q h refl in omega arith
shown_rank n order v c i q CarriedOver e r h = absurd (no_item q h)
shown_rank n order v c i q ResetRegister e r h =
    let x : Cell = cell_at n c in
    let p : ℕ = reset_operand x.kind in
    elim (Contains-append_cases (places_read n x ((p, 0) ∷ [])) (State c i ∷ []) q h) [
      | inl reset ↦ (let low : place_rank n (place_in order) q ≤ suc (place_in order c) =
          reads_rank n order c ((p, 0) ∷ []) q r (λ b at y f. (ranked n order r).by_reset c b.1 y (ap (λ j. operand_at x j b.1) (sym (reset_bit p b at)) ∙ f) e) reset in
          omega arith)
      | inr own ↦ (let none : place_rank n (place_in order) q ≡ 0 = stored_rank n (place_in order) (State c i) q own refl in omega arith)
    ]
shown_rank n order v c i q MemoryBlock e r h =
    let x : Cell = cell_at n c in
    let a : ℕ = number_of x Abits in
    let start : ℕ = i / width x * a in
    let rest : List Place = word_read n v c (i / width x) (i % width x) in
    elim (Contains-append_cases (places_read n x (bits_from 0 start a)) (Flag c ∷ rest) q h) [
      | inl address ↦ (let low : place_rank n (place_in order) q ≤ suc (place_in order c) =
          reads_rank n order c (bits_from 0 start a) q r (λ b at y f. (ranked n order r).by_memory c b.1 y (ap (λ j. operand_at x j b.1) (sym (first_operand 0 start a b at)) ∙ f) e) address in
          omega arith)
      | inr own ↦ (let none : place_rank n (place_in order) q ≡ 0 = elim (Contains-append_cases (Flag c ∷ []) rest q own) [
        | inl flag ↦ stored_rank n (place_in order) (Flag c) q flag refl
        | inr word ↦ word_rank n (place_in order) (is_inside (shape_of x) (read_address (shape_of x) (operand_words v x) (i / width x)))
            (Word c (number (read_address (shape_of x) (operand_words v x) (i / width x))) (i % width x)) q refl word
      ] in omega arith)
    ]

-- ---- from a cycle to the next

passing_rank : (n : Netlist) (order : List ℕ) (c : ℕ) (role : Role) → role_at n c ≡ role → IsRunnable n order → cell_rank role (place_in order c) ≤ length n.cells
passing_rank n order c Combinational e r = let at = has_place n order c r.levelled (ap is_passing e) in let l : place_in order c < length order = at.0 in let all : length order ≤ length n.cells = length-order n order r.levelled in omega arith
passing_rank n order c ResetRegister e r = let at = has_place n order c r.levelled (ap is_passing e) in let l : place_in order c < length order = at.0 in let all : length order ≤ length n.cells = length-order n order r.levelled in omega arith
passing_rank n order c MemoryBlock e r = let at = has_place n order c r.levelled (ap is_passing e) in let l : place_in order c < length order = at.0 in let all : length order ≤ length n.cells = length-order n order r.levelled in omega arith
passing_rank n order c PlainRegister e r = omega arith
passing_rank n order c CarriedOver e r = omega arith

-- no place ranks past the range of its cycle
place_bound : (n : Netlist) (order : List ℕ) (q : Place) → IsRunnable n order → place_rank n (place_in order) q < length n.cells + 2
place_bound n order (Out c p i) r = let l : cell_rank (role_at n c) (place_in order c) ≤ length n.cells = passing_rank n order c (role_at n c) refl r in omega arith
place_bound n order (Input p i) r = omega arith
place_bound n order (State c i) r = omega arith
place_bound n order (Word c address i) r = omega arith
place_bound n order (Flag c) r = omega arith

earlier : (k a b z : ℕ) → a < z → k * z + a < suc k * z + b
earlier k a b z h = omega arith

before_rank : (n : Netlist) (order : List ℕ) (k : ℕ) (places : List Place) (place : Place) (q : Member) → IsRunnable n order → Contains (map (at_cycle k) places) q → member_rank n order q < member_rank n order (at_cycle (suc k) place)
before_rank n order k places place q r h =
    let from = from_map (at_cycle k) places q h in
    let x : Place = from.0 in
    let l : place_rank n (place_in order) x < length n.cells + 2 = place_bound n order x r in
    subst (λ (m : Member). member_rank n order m < member_rank n order (at_cycle (suc k) place)) from.2
    (earlier k (place_rank n (place_in order) x) (place_rank n (place_in order) place) (length n.cells + 2) l)

same_cycle : (k a b z : ℕ) → a < b → k * z + a < k * z + b
same_cycle k a b z h = omega arith

out_rank : (n : Netlist) (order : List ℕ) (v : ℕ → Bool) (k c p i : ℕ) (q : Member) → IsRunnable n order → Contains (map (at_cycle k) (shown_support (role_at n c) n v c i)) q
    → member_rank n order q < member_rank n order (at_cycle k (Out c p i))
out_rank n order v k c p i q r h =
    let from = from_map (at_cycle k) (shown_support (role_at n c) n v c i) q h in
    let x : Place = from.0 in
    let l : place_rank n (place_in order) x < suc (cell_rank (role_at n c) (place_in order c)) = shown_rank n order v c i x (role_at n c) refl r from.1 in
    subst (λ (m : Member). member_rank n order m < member_rank n order (at_cycle k (Out c p i))) from.2
    (same_cycle k (place_rank n (place_in order) x) (suc (cell_rank (role_at n c) (place_in order c))) (length n.cells + 2) l)

-- each member of a support ranks below what it supports
pub support_rank : (n : Netlist) (order : List ℕ) (s : Stimulus) (k : ℕ) (place : Place) (q : Member) → IsRunnable n order → Contains (support n s k place) q → member_rank n order q < member_rank n order (at_cycle k place)
unfolding support
support_rank n order s k (Out c p i) q r h = out_rank n order (value n s k) k c p i q r h
support_rank n order s zero (Input p i) q r h = absurd (no_item q h)
support_rank n order s zero (State c i) q r h = absurd (no_item q h)
support_rank n order s zero (Word c address i) q r h = absurd (no_item q h)
support_rank n order s zero (Flag c) q r h = absurd (no_item q h)
support_rank n order s (suc k) (Input p i) q r h = before_rank n order k (stored_support n (value n s k) (taint n s k) (Input p i)) (Input p i) q r h
support_rank n order s (suc k) (State c i) q r h = before_rank n order k (stored_support n (value n s k) (taint n s k) (State c i)) (State c i) q r h
support_rank n order s (suc k) (Word c address i) q r h = before_rank n order k (stored_support n (value n s k) (taint n s k) (Word c address i)) (Word c address i) q r h
support_rank n order s (suc k) (Flag c) q r h = before_rank n order k (stored_support n (value n s k) (taint n s k) (Flag c)) (Flag c) q r h
