-- The clock of a module, and that a module which is built has the clock of the other.
use Rattle.std.specs.Prelude.{ℕ, zero, suc, ◌+◌, ◌≡◌, ◌==◌, Bool, true, false, not, ◌&&◌, ◌||◌, List, [], ◌∷◌, ◌++◌, map, filter, get_or, take, Contains, Option, Some, None, option_map, option_to_list, MatchBool, IsSomeAnd, IsNone, refl}
use Rattle.std.specs.List.{flat_map, list_any}
use Rattle.std.proofs.Common.{sym, ap, subst, ◌∙◌, inl, inr}
use Rattle.std.proofs.lemmas.Bool.{and_parts, cond-true, eqb-true, false_from_ne_true, not-false, not_from_false, eq-eqb, or_right}
use Rattle.std.proofs.lemmas.List.Sorted.{Contains-permutation, IsPermutation-sym}
use Rattle.cif_defs.specs.Kinds.{is_memory, is_register, role_of}
use Rattle.cif_defs.specs.Table.{clocks_of, kind_of}
use Rattle.cif_defs.specs.RawModule.{bits_by, clock_bits, net_numbers, nets_in, port_bits}
use Rattle.cif_defs.specs.Accepted.{all_clock_bits, is_clock, is_input, no_bit}
use Rattle.cif_defs.specs.declared.kinds.Kind.{Kind}
use Rattle.cif_defs.specs.declared.kinds.Kind.TheVariants.{Dff, Dffe, Sdff, Sdffe, Sdffce, Adff, Adffe, Mem}
use Rattle.cif_defs.specs.declared.kinds.Role.TheVariants.{Combinational}
use Rattle.cif_defs.specs.declared.nets.Driver.TheVariants.{Input}
use Rattle.cif_defs.specs.declared.raw_module.RawBit.{RawBit}
use Rattle.cif_defs.specs.declared.raw_module.RawBit.TheVariants.{Net, Zero, One, X, Z}
use Rattle.cif_defs.specs.declared.raw_module.Connection.{Connection}
use Rattle.cif_defs.specs.declared.raw_module.RawPort.{RawPort}
use Rattle.cif_defs.specs.declared.raw_module.RawCell.{RawCell}
use Rattle.cif_defs.specs.declared.raw_module.RawName.{RawName}
use Rattle.cif_defs.specs.declared.raw_module.Raw.{Raw}
use Rattle.cif_checks.specs.declared.fault.BuildFault.TheVariants.{NoClockInput, TwoClocks}
use Rattle.cif_checks.specs.Checks.{ClockUse, IsWellFormed, clock_fault, clock_uses, clocks_fault, data_fault, fault_if, first_fault, has_number, is_clock_input, is_only_bit, is_same_bit, uses_fault}
use Rattle.cif_nets.proofs.Places.{At, At-has, At-same, Has, Has-any, Has-append, Has-filter, Has-flat_map, Has-left, Has-nets}
use Rattle.cif_nets.proofs.Passed.{Passed, all_uses, clock_is_first, each_passes, first_passes, is_first, next_passes, passes_form, test_passes}
use Rattle.cif_raw_runs.proofs.Numbers.{at_contained, contained_has, has_contained, input_at_place, net_at, number_of_port}
use Rattle.cif_emit.specs.Makers.{RiseBetween}
use Rattle.cif_augment.specs.Names.{data_ports, has_flag, has_role, is_clock_bit, is_combinational, is_data_port, is_reset_register}
use Rattle.cif_augment.specs.Additions.{IsCopy, IsFlag, IsTaintMemory, IsTaintRegister, block_cells, new_numbers, numbers_of_input, standing_numbers}
use Rattle.cif_built.specs.Makings.{Making, block_of, state_cells}
use Rattle.cif_built.specs.Built.{IsBuilt, IsMaking}
use Rattle.cif_built_runs.proofs.Lists.{Has-take, from_flat_map, from_map, has_option, owner, same_bool}
use Rattle.cif_built_runs.proofs.Standing.{combinational_by, new_cells, own_cell}
use Rattle.cif_built_runs.proofs.Ports.{one_place}

-- ---- uses of the clock

use_of : (uses : List ClockUse) (b : RawBit) → Has (map (λ (u : ClockUse). u.bit) uses) b → (u : ClockUse) × Has uses u × (u.bit ≡ b)
use_of uses b h = from_map (λ (u : ClockUse). u.bit) uses b h

-- a clock bit is an input port's, and the same as the first
use_checked : (raw : Raw) (uses : List ClockUse) (b : RawBit) → uses_fault raw uses ≡ None → Has (map (λ (u : ClockUse). u.bit) uses) b
    → (is_clock_input raw.ports b ≡ true) × (is_same_bit (get_or (map (λ (u : ClockUse). u.bit) uses) 0 no_bit) b ≡ true)
use_checked raw [] b h k = absurd k
use_checked raw (first ∷ rest) b h k =
    let u = use_of (first ∷ rest) b k in
    let all = first_passes (first_fault (clock_fault raw.ports first) (first ∷ rest)) (data_fault raw first.bit) h in
    let here : clock_fault raw.ports first u.0 ≡ None = each_passes (clock_fault raw.ports first) (first ∷ rest) u.0 all u.1 in
    let test = is_same_bit first.bit u.0.bit && first.polarity == u.0.polarity in
    let input : is_clock_input raw.ports u.0.bit ≡ true =
    not-false (is_clock_input raw.ports u.0.bit) (test_passes (not (is_clock_input raw.ports u.0.bit)) (NoClockInput u.0.user.name) (first_passes (fault_if (not (is_clock_input raw.ports u.0.bit)) (NoClockInput u.0.user.name)) (fault_if (not test) (TwoClocks u.0.user.name)) here)) in
    let same : test ≡ true =
    not-false test (test_passes (not test) (TwoClocks u.0.user.name) (next_passes (fault_if (not (is_clock_input raw.ports u.0.bit)) (NoClockInput u.0.user.name)) (fault_if (not test) (TwoClocks u.0.user.name)) here)) in
    (ap (is_clock_input raw.ports) (sym u.2) ∙ input, ap (is_same_bit first.bit) (sym u.2) ∙ (and_parts (is_same_bit first.bit u.0.bit) (first.polarity == u.0.polarity) same).0)

clock_checked : (raw : Raw) (b : RawBit) → clocks_fault raw ≡ None → Has (all_clock_bits raw) b → (is_clock_input raw.ports b ≡ true) × (is_same_bit (get_or (all_clock_bits raw) 0 no_bit) b ≡ true)
unfolding clocks_fault
clock_checked raw b h k =
    let P : List RawBit → Type 0 = λ bits. Has bits b → (is_clock_input raw.ports b ≡ true) × (is_same_bit (get_or bits 0 no_bit) b ≡ true) in
    (let law : P (map (λ (u : ClockUse). u.bit) (clock_uses raw)) = use_checked raw (clock_uses raw) b h in let all : P (all_clock_bits raw) = subst P (all_uses raw.cells) law in all k)

same_is_first : (bits : List RawBit) (x : ℕ) → is_same_bit (get_or bits 0 no_bit) (Net x) ≡ true → is_first x bits ≡ true
same_is_first [] x h = absurd (cc)
same_is_first (Net y ∷ bits) x h = h
same_is_first (Zero ∷ bits) x h = absurd (cc)
same_is_first (One ∷ bits) x h = absurd (cc)
same_is_first (X ∷ bits) x h = absurd (cc)
same_is_first (Z ∷ bits) x h = absurd (cc)

first_has : (bits : List RawBit) (x : ℕ) → is_first x bits ≡ true → Has bits (Net x)
first_has [] x h = absurd (cc)
first_has (Net y ∷ bits) x h = inl (ap Net (eqb-true y x h))
first_has (Zero ∷ bits) x h = absurd (cc)
first_has (One ∷ bits) x h = absurd (cc)
first_has (X ∷ bits) x h = absurd (cc)
first_has (Z ∷ bits) x h = absurd (cc)

-- a net at a clock bit of a cell is the clock
clock_stands : (raw : Raw) (x : ℕ) → clocks_fault raw ≡ None → Has (all_clock_bits raw) (Net x) → is_clock raw x ≡ true
clock_stands raw x h k = clock_is_first raw x ∙ same_is_first (all_clock_bits raw) x (clock_checked raw (Net x) h k).1

clock_has : (raw : Raw) (x : ℕ) → is_clock raw x ≡ true → Has (all_clock_bits raw) (Net x)
clock_has raw x e = first_has (all_clock_bits raw) x (sym (clock_is_first raw x) ∙ e)

-- ---- the port of the clock

only_bit : (x : ℕ) (bits : List RawBit) → is_only_bit x bits ≡ true → bits ≡ Net x ∷ []
only_bit x [] h = absurd (cc)
only_bit x (Net y ∷ []) h = ap (λ (z : ℕ). Net z ∷ []) (eqb-true y x h)
only_bit x (Net y ∷ b ∷ bs) h = absurd (cc)
only_bit x (Zero ∷ bs) h = absurd (cc)
only_bit x (One ∷ bs) h = absurd (cc)
only_bit x (X ∷ bs) h = absurd (cc)
only_bit x (Z ∷ bs) h = absurd (cc)

-- an input port that has the clock and nothing else
record ClockPort (raw : Raw) (x : ℕ) : Type 0 where
  port : RawPort
  stands : Has raw.ports port
  input : is_input port ≡ true
  bits : port.bits ≡ Net x ∷ []

clock_port : (raw : Raw) (x : ℕ) → clocks_fault raw ≡ None → is_clock raw x ≡ true → ClockPort raw x
clock_port raw x h e =
    let found = Has-any (λ (p : RawPort). is_input p && is_only_bit x p.bits) raw.ports (clock_checked raw (Net x) h (clock_has raw x e)).0 in
    let parts = and_parts (is_input found.0) (is_only_bit x found.0.bits) found.2 in
    record { port = found.0; stands = found.1; input = parts.0; bits = only_bit x found.0.bits parts.1 }

clock_bit : (raw : Raw) (b : RawBit) → is_clock_bit raw b ≡ true → (x : ℕ) × (b ≡ Net x) × (is_clock raw x ≡ true)
clock_bit raw (Net x) h = (x, refl, h)
clock_bit raw Zero h = absurd (cc)
clock_bit raw One h = absurd (cc)
clock_bit raw X h = absurd (cc)
clock_bit raw Z h = absurd (cc)

alone_at : (i x y : ℕ) → get_or (Net y ∷ []) i no_bit ≡ Net x → y ≡ x
alone_at zero x y h = cc
alone_at (suc i) x y h = absurd (cc)

alone : (bits : List RawBit) (i x y : ℕ) → bits ≡ Net y ∷ [] → get_or bits i no_bit ≡ Net x → y ≡ x
alone bits i x y e at = alone_at i x y (ap (λ (bs : List RawBit). get_or bs i no_bit) (sym e) ∙ at)

-- a port of which a bit is the clock has no other
clock_only : (raw : Raw) (port : RawPort) (i x y : ℕ) → IsWellFormed raw → Contains raw.ports port → is_input port ≡ true → get_or port.bits i no_bit ≡ Net x → Has port.bits (Net y) → is_clock raw y ≡ true → y ≡ x
clock_only raw port i x y h port_in is at y_in e =
    let s : Passed raw = passes_form raw h in
    let clock = clock_port raw y s.clocks e in
    let place = input_at_place raw port port_in is in
    let other = input_at_place raw clock.port (contained_has raw.ports clock.port clock.stands) clock.input in
    let y_at = At-has port.bits (Net y) y_in in
    let first : At clock.port.bits 0 (Net y) = (let P : List RawBit → Type 0 = λ bs. At bs 0 (Net y) in subst P (sym clock.bits) refl) in
    let any_place = at_contained raw.ports port port_in in
    let number : Has (net_numbers raw) y = number_of_port raw any_place.0 y_at.0 port y any_place.1 y_at.1 in
    let same : Input place.0 y_at.0 ≡ Input other.0 0 =
    one_place raw y place.0 y_at.0 other.0 0 s number (record { port = port; at_port = place.1; at_bit = y_at.1 }) (record { port = clock.port; at_port = other.1; at_bit = first }) in
    let places : place.0 ≡ other.0 = cc in
    let P : ℕ → Type 0 = λ q. At (filter is_input raw.ports) q port in
    let ports : port ≡ clock.port = At-same (filter is_input raw.ports) other.0 port clock.port (subst P places place.1) other.1 in
    alone port.bits i x y (ap (λ (p : RawPort). p.bits) ports ∙ clock.bits) at

-- an input port with another bit than the clock is a port for data
pub data_port : (raw : Raw) (port : RawPort) (i x : ℕ) → IsWellFormed raw → Contains raw.ports port → is_input port ≡ true → get_or port.bits i no_bit ≡ Net x → is_clock raw x ≡ false → Contains (data_ports raw) port
unfolding data_ports
data_port raw port i x h port_in is at free =
    let none : list_any (is_clock_bit raw) port.bits ≡ false = false_from_ne_true (list_any (is_clock_bit raw) port.bits)
    (λ some. (let found = Has-any (is_clock_bit raw) port.bits some in
    let clock = clock_bit raw found.0 found.2 in
    let P : RawBit → Type 0 = λ b. Has port.bits b in
    let y_is : clock.0 ≡ x = clock_only raw port i x clock.0 h port_in is at (subst P clock.1 found.1) clock.2 in
    let bad : is_clock raw x ≡ true = ap (is_clock raw) (sym y_is) ∙ clock.2 in
    absurd (cc))) in
    contained_has (data_ports raw) port (Has-filter (is_data_port raw) raw.ports port (has_contained raw.ports port port_in) (not_from_false (list_any (is_clock_bit raw) port.bits) none))

-- ---- the clock of a module that is built

no_clocks : (k : Kind) → role_of k ≡ Combinational → clocks_of k ≡ []
unfolding clocks_of
no_clocks Dff e = absurd (cc)
no_clocks Dffe e = absurd (cc)
no_clocks Sdff e = absurd (cc)
no_clocks Sdffe e = absurd (cc)
no_clocks Sdffce e = absurd (cc)
no_clocks Adff e = absurd (cc)
no_clocks Adffe e = absurd (cc)
no_clocks Mem e = absurd (cc)
no_clocks _ e = refl

computing_by : (d : RawCell) (o : Option Kind) (b : RawBit) → option_map role_of o ≡ Some Combinational → Has (bits_by clocks_of d o) b → ⊥
computing_by d None b e h = h
computing_by d (Some k) b e h =
    (let none : clocks_of k ≡ [] = no_clocks k (cc) in let P : _ → Type 0 = λ rows. Has (flat_map (port_bits d) rows) b in let bad : ⊥ = subst P none h in bad)

taint_clock_by : (c d : RawCell) (o : Option RawCell) (register memory : Bool) → MatchBool register (IsSomeAnd o (IsTaintRegister c)) (MatchBool memory (IsSomeAnd o (IsTaintMemory c)) (IsNone o)) → o ≡ Some d → clock_bits d ≡ clock_bits c
taint_clock_by c d None register memory h e = absurd (cc)
taint_clock_by c d (Some t) true memory h e = (let same : t ≡ d = cc in ap clock_bits (sym same) ∙ h.clock)
taint_clock_by c d (Some t) false true h e = (let same : t ≡ d = cc in ap clock_bits (sym same) ∙ h.clock)
taint_clock_by c d (Some t) false false h e = absurd (cc)

flag_clock_by : (c d : RawCell) (o : Option RawCell) (flag : Bool) → MatchBool flag (IsSomeAnd o (IsFlag c)) (IsNone o) → o ≡ Some d → clock_bits d ≡ take 1 (clock_bits c)
flag_clock_by c d None flag h e = absurd (cc)
flag_clock_by c d (Some t) true h e = (let same : t ≡ d = cc in ap clock_bits (sym same) ∙ h.clock)
flag_clock_by c d (Some t) false h e = absurd (cc)

copy_clock_by : (c d : RawCell) (o : Option RawCell) (reset : Bool) → MatchBool reset (IsSomeAnd o (IsCopy c)) (IsNone o) → o ≡ Some d → clock_bits d ≡ clock_bits c
copy_clock_by c d None reset h e = absurd (cc)
copy_clock_by c d (Some t) true h e = (let same : t ≡ d = cc in ap clock_bits (sym same) ∙ h.clock)
copy_clock_by c d (Some t) false h e = absurd (cc)

-- a clock bit of a new cell is one of the cell for which it is new
made_clock : (n : Raw) (released : List ℕ) (shadow : ℕ → RawBit) (c d : RawCell) (m : Making) (b : RawBit) → IsMaking n released shadow c m → Has (block_cells (block_of m)) d → Has (clock_bits d) b → Has (clock_bits c) b
made_clock n released shadow c d m b is k h =
    let P : List RawBit → Type 0 = λ bits. Has bits b in
    elim (Has-append (state_cells m) (m.showing ++ m.storing) d k) [
      | inl state ↦ elim (Has-append (option_to_list m.taint ++ option_to_list m.flag) (option_to_list m.copy) d state) [
        | inl two ↦ elim (Has-append (option_to_list m.taint) (option_to_list m.flag) d two) [
          | inl t ↦ subst P (taint_clock_by c d m.taint (has_role is_register c) (has_role is_memory c) is.block.taint (has_option m.taint d t)) h
          | inr f ↦ Has-take 1 (clock_bits c) b (subst P (flag_clock_by c d m.flag (has_flag c) is.block.flag (has_option m.flag d f)) h)
        ]
        | inr v ↦ subst P (copy_clock_by c d m.copy (has_role is_reset_register c) is.block.copy (has_option m.copy d v)) h
      ]
      | inr further ↦ absurd (let place = contained_has (m.showing ++ m.storing) d further in
          let computes : has_role is_combinational d ≡ true = ap (has_role is_combinational) (sym place.2) ∙ (is.block.further place.0 d place.1).computes in
          computing_by d (kind_of d.kind) b (combinational_by (kind_of d.kind) computes) h)
    ]

clock_came : {n a : Raw} {released : List ℕ} (b : RawBit) → IsBuilt n released a → Has (all_clock_bits a) b → Has (all_clock_bits n) b
clock_came {n = n} {a = a} {released = released} b h k =
    let cell = from_flat_map clock_bits a.cells b k in
    let d : RawCell = cell.0 in
    let all = has_contained (n.cells ++ new_cells h.makings) d (Contains-permutation a.cells (n.cells ++ new_cells h.makings) d (IsPermutation-sym (n.cells ++ new_cells h.makings) a.cells h.has_cells) (contained_has a.cells d cell.1)) in
    elim (Has-append n.cells (new_cells h.makings) d all) [
      | inl own ↦ (let at = At-has n.cells d own in Has-flat_map clock_bits n.cells at.0 d b at.1 cell.2)
      | inr new ↦ (let block = from_flat_map block_cells (map block_of h.makings) d new in
          let making = from_map block_of h.makings block.0 block.1 in
          let of_cell = owner (IsMaking n released h.shadow) n.cells h.makings making.0 h.are_makings making.1 in
          let at = At-has n.cells of_cell.0 of_cell.1 in
          let P : _ → Type 0 = λ x. Has (block_cells x) d in
          Has-flat_map clock_bits n.cells at.0 of_cell.0 b at.1 (made_clock n released h.shadow of_cell.0 d making.0 b of_cell.2 (subst P (sym making.2) block.2) cell.2))
    ]

clock_goes : {n a : Raw} {released : List ℕ} (b : RawBit) → IsBuilt n released a → Has (all_clock_bits n) b → Has (all_clock_bits a) b
clock_goes {n = n} {a = a} b h k =
    let cell = from_flat_map clock_bits n.cells b k in
    let at = At-has a.cells cell.0 (has_contained a.cells cell.0 (own_cell cell.0 h (contained_has n.cells cell.0 cell.1))) in
    Has-flat_map clock_bits a.cells at.0 cell.0 b at.1 cell.2

-- both have the same clock
pub same_clock : {n a : Raw} {released : List ℕ} (x : ℕ) → IsWellFormed n → IsWellFormed a → IsBuilt n released a → is_clock a x ≡ is_clock n x
same_clock {n = n} {a = a} x form_n form_a h =
    same_bool (is_clock a x) (is_clock n x)
    (λ e. clock_stands n x (passes_form n form_n).clocks (clock_came (Net x) h (clock_has a x e)))
    (λ e. clock_stands a x (passes_form a form_a).clocks (clock_goes (Net x) h (clock_has n x e)))

-- ---- what new ports drive is no clock

not_used : (used : List ℕ) (low high : ℕ) (xs : List ℕ) (x : ℕ) → RiseBetween used low high xs → Has xs x → has_number x used ≡ false
not_used used low high [] x h k = absurd k
not_used used low high (y ∷ xs) x h (inl e) = (let P : ℕ → Type 0 = λ z. has_number z used ≡ false in subst P e h.1)
not_used used low high (y ∷ xs) x h (inr k) = not_used used (y + 1) high xs x h.2 k

used_number : (xs : List ℕ) (x : ℕ) → Has xs x → has_number x xs ≡ true
used_number [] x h = absurd h
used_number (y ∷ ys) x (inl e) = ap (λ b. b || has_number x ys) (eq-eqb y x e)
used_number (y ∷ ys) x (inr h) = or_right (y == x) (has_number x ys) (used_number ys x h)

port_number_stands : (n : Raw) (x : ℕ) → Has (flat_map (λ (p : RawPort). nets_in p.bits) n.ports) x → Has (standing_numbers n) x
unfolding standing_numbers
port_number_stands n x h =
    let ports = flat_map (λ (p : RawPort). nets_in p.bits) n.ports in
    let cells = flat_map (λ (c : RawCell). flat_map (λ (y : Connection). nets_in y.bits) c.connections) n.cells in
    Has-left (ports ++ cells) (flat_map (λ (name : RawName). nets_in name.bits) n.names) x (Has-left ports cells x h)

driven_new : {n a : Raw} {released : List ℕ} (q : RawPort) (x : ℕ) (h : IsBuilt n released a) → Has h.ports q → is_input q ≡ true → Has (nets_in q.bits) x → has_number x (standing_numbers n) ≡ false
unfolding new_numbers
driven_new {n = n} q x h q_in is x_in =
    let at = At-has h.ports q q_in in
    let P : List ℕ → Type 0 = λ ns. Has ns x in
    let here : Has (numbers_of_input q) x = subst P (sym (cond-true (is_input q) (nets_in q.bits) [] is)) x_in in
    let all : Has (new_numbers h.ports (map block_of h.makings)) x = Has-left (flat_map numbers_of_input h.ports) _ x (Has-flat_map numbers_of_input h.ports at.0 q x at.1 here) in
    let given = Contains-permutation (new_numbers h.ports (map block_of h.makings)) h.numbers x (IsPermutation-sym h.numbers (new_numbers h.ports (map block_of h.makings)) h.are_numbers) (contained_has (new_numbers h.ports (map block_of h.makings)) x all) in
    not_used (standing_numbers n) 2 h.last h.numbers x h.rise (has_contained h.numbers x given)

pub new_is_no_clock : {n a : Raw} {released : List ℕ} (q : RawPort) (i x : ℕ) (h : IsBuilt n released a) → IsWellFormed n → Has h.ports q → is_input q ≡ true → get_or q.bits i no_bit ≡ Net x → is_clock n x ≡ false
new_is_no_clock {n = n} q i x h form q_in is at =
    let new : has_number x (standing_numbers n) ≡ false = driven_new q x h q_in is (Has-nets q.bits i x (net_at q.bits i x at)) in
    false_from_ne_true (is_clock n x)
    (λ e. (let clock = clock_port n x (passes_form n form).clocks e in
    let place = At-has n.ports clock.port clock.stands in
    let first : At clock.port.bits 0 (Net x) = (let P : List RawBit → Type 0 = λ bs. At bs 0 (Net x) in subst P (sym clock.bits) refl) in
    let old : has_number x (standing_numbers n) ≡ true = used_number (standing_numbers n) x
    (port_number_stands n x (Has-flat_map (λ (p : RawPort). nets_in p.bits) n.ports place.0 clock.port x place.1 (Has-nets clock.port.bits 0 x first))) in
    absurd (cc)))
