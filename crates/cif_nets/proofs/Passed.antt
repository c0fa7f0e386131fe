-- What the checks of an accepted module say of it.
use Rattle.std.specs.Prelude.{ℕ, ◌+◌, ◌<◌, ◌≤◌, ◌≡◌, ◌≢◌, nat_lt, ◌==◌, Bool, true, false, not, ◌&&◌, ◌||◌, List, [], ◌∷◌, ◌++◌, map, filter, Option, Some, None, refl}
use Rattle.std.specs.List.{flat_map}
use Rattle.std.proofs.Common.{arith, sym, ap, ◌∙◌, inl, inr}
use Rattle.std.proofs.lemmas.List.{map-append}
use Rattle.std.proofs.lemmas.Bool.{and_parts, or_parts, eqb-true, eqb-false, ltb-false, not-false}
use Rattle.cif_defs.specs.Kinds.{role_of}
use Rattle.cif_defs.specs.Table.{kind_of, ports_of, outputs_of, clocks_of}
use Rattle.cif_defs.specs.RawModule.{bits_by, clock_bits, net_numbers}
use Rattle.cif_defs.specs.Accepted.{is_input, is_clock, all_clock_bits, driven}
use Rattle.cif_defs.specs.declared.kinds.Kind.{Kind}
use Rattle.cif_defs.specs.declared.kinds.Role.{Role}
use Rattle.cif_defs.specs.declared.kinds.Role.TheVariants.{Combinational, PlainRegister, ResetRegister, MemoryBlock, CarriedOver}
use Rattle.cif_defs.specs.declared.kinds.Param.TheVariants.{Width, Size, Abits, RdPorts, WrPorts, RdClkEnable, RdWideContinuation, WrClkEnable, WrWideContinuation}
use Rattle.cif_defs.specs.declared.nets.Driver.TheVariants.{Input}
use Rattle.cif_defs.specs.declared.raw_module.RawBit.{RawBit}
use Rattle.cif_defs.specs.declared.raw_module.RawBit.TheVariants.{Net, Zero, One, X, Z}
use Rattle.cif_defs.specs.declared.raw_module.RawPort.{RawPort}
use Rattle.cif_defs.specs.declared.raw_module.RawCell.{RawCell}
use Rattle.cif_defs.specs.declared.raw_module.Raw.{Raw}
use Rattle.cif_checks.specs.Checks.{◌else_by◌, fault_if, first_fault, counts_fault, ports_fault, cells_fault, cell_fault, cell_fault_by, known_cell_fault, parameters_fault, memory_form, zero_width, too_wide, missing_port, wrong_width, constant_output, has_digit, mask_digits, data_fault, is_same_bit, has_bad_form, number_or_0, memory_bits_fault, drivers_fault, driven_numbers, is_twice, clocks_fault, uses_fault, clock_fault, clock_uses, clock_uses_by, uses_from, ClockUse, is_clock_input, is_only_bit, reads_fault, inits_fault, build_fault, form_fault, IsAccepted, IsWellFormed}
use Rattle.cif_checks.specs.declared.fault.BuildFault.{BuildFault}
use Rattle.cif_checks.specs.declared.fault.BuildFault.TheVariants.{NoClockInput, TwoClocks}
use Rattle.cif_nets.proofs.Places.{At, Has, At-has, Has-any, Has-filter, Has-at}
use Rattle.cif_nets.proofs.Driven.{CellIs, driven_by_input, times, word_width}

-- ---- checks in order

pub first_passes : (a b : Option BuildFault) → (a else_by b) ≡ None → a ≡ None
first_passes None b h = refl
first_passes (Some f) b h = absurd (cc)

pub next_passes : (a b : Option BuildFault) → (a else_by b) ≡ None → b ≡ None
next_passes None b h = h
next_passes (Some f) b h = absurd (cc)

pub test_passes : (b : Bool) (f : BuildFault) → fault_if b f ≡ None → b ≡ false
test_passes true f h = absurd (cc)
test_passes false f h = refl

pub each_passes : {A : Type 0} (check : A → Option BuildFault) (xs : List A) (x : A) → first_fault check xs ≡ None → Has xs x → check x ≡ None
each_passes check [] x h k = absurd k
each_passes check (y ∷ ys) x h (inl e) = ap check (sym e) ∙ first_passes (check y) (first_fault check ys) h
each_passes check (y ∷ ys) x h (inr k) = each_passes check ys x (next_passes (check y) (first_fault check ys) h) k

pub record Passed (raw : Raw) : Type 0 where
  pub cells : first_fault cell_fault raw.cells ≡ None
  pub drivers : drivers_fault raw ≡ None
  pub clocks : clocks_fault raw ≡ None

pub passed : (raw : Raw) → IsAccepted raw → Passed raw
unfolding build_fault cells_fault
passed raw h =
    let six = first_passes (counts_fault raw else_by ports_fault raw else_by cells_fault raw else_by drivers_fault raw else_by clocks_fault raw else_by reads_fault raw) (inits_fault raw) h in
    let five = first_passes (counts_fault raw else_by ports_fault raw else_by cells_fault raw else_by drivers_fault raw else_by clocks_fault raw) (reads_fault raw) six in
    let four = first_passes (counts_fault raw else_by ports_fault raw else_by cells_fault raw else_by drivers_fault raw) (clocks_fault raw) five in
    let three = first_passes (counts_fault raw else_by ports_fault raw else_by cells_fault raw) (drivers_fault raw) four in
    record {
      cells = first_passes (first_fault cell_fault raw.cells) (memory_bits_fault raw) (next_passes (counts_fault raw else_by ports_fault raw) (cells_fault raw) three);
      drivers = next_passes (counts_fault raw else_by ports_fault raw else_by cells_fault raw) (drivers_fault raw) four;
      clocks = next_passes (counts_fault raw else_by ports_fault raw else_by cells_fault raw else_by drivers_fault raw) (clocks_fault raw) five;
    }

pub passes_form : (raw : Raw) → IsWellFormed raw → Passed raw
unfolding form_fault
passes_form raw h =
    let two = ports_fault raw else_by first_fault cell_fault raw.cells in
    let three = two else_by drivers_fault raw in
    let four = three else_by clocks_fault raw in
    let all_four = first_passes four (reads_fault raw) (first_passes (four else_by reads_fault raw) (inits_fault raw) h) in
    let all_three = first_passes three (clocks_fault raw) all_four in
    record {
      cells = next_passes (ports_fault raw) (first_fault cell_fault raw.cells) (first_passes two (drivers_fault raw) all_three);
      drivers = next_passes two (drivers_fault raw) all_three;
      clocks = next_passes three (clocks_fault raw) all_four;
    }

-- ---- a net number is driven once

pub driven_once : (raw : Raw) (x : ℕ) → drivers_fault raw ≡ None → Has (net_numbers raw) x → times (driven raw) x ≤ 1
unfolding drivers_fault
driven_once raw x h k = ltb-false 1 (times (driven raw) x) (test_passes (is_twice (driven_numbers raw) x) _ (each_passes _ (net_numbers raw) x h k))

-- ---- a memory's words have bits

memory_by_role : (cell : RawCell) (role : Role) → role ≡ MemoryBlock → memory_form cell role ≡ None → has_bad_form cell ≡ false
memory_by_role cell MemoryBlock e h = test_passes (has_bad_form cell) _ h
memory_by_role cell Combinational e h = absurd (cc)
memory_by_role cell PlainRegister e h = absurd (cc)
memory_by_role cell ResetRegister e h = absurd (cc)
memory_by_role cell CarriedOver e h = absurd (cc)

pub known_memory : (cell : RawCell) (k : Kind) → role_of k ≡ MemoryBlock → known_cell_fault cell k ≡ None → has_bad_form cell ≡ false
known_memory cell k e h =
    let forms = parameters_fault cell k else_by memory_form cell (role_of k) in
    let zeros = forms else_by first_fault (zero_width cell k) (ports_of k) in
    let wide = zeros else_by first_fault (too_wide cell k) (ports_of k) in
    let missing = wide else_by first_fault (missing_port cell) (ports_of k) in
    let wrong = missing else_by first_fault (wrong_width cell) (ports_of k) in
    let five = first_passes wrong (first_fault (constant_output cell) (outputs_of k)) h in
    let four = first_passes missing (first_fault (wrong_width cell) (ports_of k)) five in
    let three = first_passes wide (first_fault (missing_port cell) (ports_of k)) four in
    let two = first_passes zeros (first_fault (too_wide cell k) (ports_of k)) three in
    let one = first_passes forms (first_fault (zero_width cell k) (ports_of k)) two in
    memory_by_role cell (role_of k) e (next_passes (parameters_fault cell k) (memory_form cell (role_of k)) one)

-- what a memory of a good form gives
pub record IsFormed (cell : RawCell) : Type 0 where
  pub width : number_or_0 cell Width ≢ 0
  pub size : number_or_0 cell Size ≢ 0
  pub address : number_or_0 cell Abits ≢ 0
  pub address_limit : number_or_0 cell Abits ≤ 32

pub is_formed : (cell : RawCell) → has_bad_form cell ≡ false → IsFormed cell
is_formed cell h =
    let w = number_or_0 cell Width == 0 in
    let s = w || number_or_0 cell Size == 0 in
    let a = s || number_or_0 cell Abits == 0 in
    let m = a || nat_lt 32 (number_or_0 cell Abits) in
    let rc = m || has_digit true (mask_digits cell RdClkEnable (number_or_0 cell RdPorts)) in
    let rw' = rc || has_digit true (mask_digits cell RdWideContinuation (number_or_0 cell RdPorts)) in
    let wc = rw' || has_digit false (mask_digits cell WrClkEnable (number_or_0 cell WrPorts)) in
    let seven = or_parts wc (has_digit true (mask_digits cell WrWideContinuation (number_or_0 cell WrPorts))) h in
    let six = or_parts rw' (has_digit false (mask_digits cell WrClkEnable (number_or_0 cell WrPorts))) seven.0 in
    let five = or_parts rc (has_digit true (mask_digits cell RdWideContinuation (number_or_0 cell RdPorts))) six.0 in
    let four = or_parts m (has_digit true (mask_digits cell RdClkEnable (number_or_0 cell RdPorts))) five.0 in
    let three = or_parts a (nat_lt 32 (number_or_0 cell Abits)) four.0 in
    let two = or_parts s (number_or_0 cell Abits == 0) three.0 in
    let one = or_parts w (number_or_0 cell Size == 0) two.0 in
    record {
      width = eqb-false (number_or_0 cell Width) 0 one.0;
      size = eqb-false (number_or_0 cell Size) 0 one.1;
      address = eqb-false (number_or_0 cell Abits) 0 two.1;
      address_limit = ltb-false 32 (number_or_0 cell Abits) three.1;
    }

pub word_width_positive : (raw : Raw) (c : ℕ) (cell : RawCell) (k : Kind) → first_fault cell_fault raw.cells ≡ None → CellIs raw c cell k → role_of k ≡ MemoryBlock → 0 < word_width cell
unfolding cell_fault
word_width_positive raw c cell k h is e =
    let here : cell_fault_by cell (kind_of cell.kind) ≡ None = each_passes cell_fault raw.cells cell h (Has-at raw.cells c cell is.at_cell) in
    let form : has_bad_form cell ≡ false = known_memory cell k e (rw is.is_kind at here) in
    let ne : word_width cell ≢ 0 = (is_formed cell form).width in
    omega arith

-- ---- the clock is an input

abbrev pub is_first : ℕ → List RawBit → Bool
is_first x (Net y ∷ bs) = y == x
is_first x _ = false

pub clock_is_first : (raw : Raw) (x : ℕ) → is_clock raw x ≡ is_first x (all_clock_bits raw)
clock_is_first raw x = refl

-- what the clock bits of the uses are
bits_of_uses : (c : RawCell) (role : Role) (i : ℕ) (bits : List RawBit) → map (λ (u : ClockUse). u.bit) (uses_from c role i bits) ≡ bits
bits_of_uses c role i [] = refl
bits_of_uses c role i (b ∷ bs) = ap (λ (ys : List RawBit). b ∷ ys) (bits_of_uses c role (i + 1) bs)

bits_by_kind : (c : RawCell) (o : Option Kind) → kind_of c.kind ≡ o → map (λ (u : ClockUse). u.bit) (clock_uses_by c o) ≡ clock_bits c
bits_by_kind c None e = sym (ap (bits_by clocks_of c) e)
bits_by_kind c (Some k) e = bits_of_uses c (role_of k) 0 (clock_bits c)

pub all_uses : (cells : List RawCell) → map (λ (u : ClockUse). u.bit) (flat_map (λ (c : RawCell). clock_uses_by c (kind_of c.kind)) cells) ≡ flat_map clock_bits cells
all_uses [] = refl
all_uses (c ∷ cs) = map-append (λ (u : ClockUse). u.bit) (clock_uses_by c (kind_of c.kind)) (flat_map (λ (c : RawCell). clock_uses_by c (kind_of c.kind)) cs)
    ∙ ap (λ (bs : List RawBit). bs ++ map (λ (u : ClockUse). u.bit) (flat_map (λ (c : RawCell). clock_uses_by c (kind_of c.kind)) cs)) (bits_by_kind c (kind_of c.kind) refl)
    ∙ ap (λ (bs : List RawBit). clock_bits c ++ bs) (all_uses cs)

same_clock : (ports : List RawPort) (b : RawBit) (bs : List RawBit) (x : ℕ) → is_first x (b ∷ bs) ≡ true → is_clock_input ports b ≡ true → is_clock_input ports (Net x) ≡ true
same_clock ports (Net y) bs x t h = rw (← eqb-true y x t) h
same_clock ports Zero bs x t h = absurd (cc)
same_clock ports One bs x t h = absurd (cc)
same_clock ports X bs x t h = absurd (cc)
same_clock ports Z bs x t h = absurd (cc)

first_use : (raw : Raw) (uses : List ClockUse) (bits : List RawBit) (x : ℕ) → map (λ (u : ClockUse). u.bit) uses ≡ bits → is_first x bits ≡ true → uses_fault raw uses ≡ None → is_clock_input raw.ports (Net x) ≡ true
first_use raw [] bits x e t h = absurd (let f : is_first x bits ≡ false = ap (is_first x) (sym e) in cc)
first_use raw (u ∷ us) bits x e t h =
    let all = first_passes (first_fault (clock_fault raw.ports u) (u ∷ us)) (data_fault raw u.bit) h in
    let here = first_passes (clock_fault raw.ports u u) (first_fault (clock_fault raw.ports u) us) all in
    let input : is_clock_input raw.ports u.bit ≡ true = not-false (is_clock_input raw.ports u.bit) (test_passes (not (is_clock_input raw.ports u.bit)) (NoClockInput u.user.name) (first_passes (fault_if (not (is_clock_input raw.ports u.bit)) (NoClockInput u.user.name)) (fault_if (not (is_same_bit u.bit u.bit && u.polarity == u.polarity)) (TwoClocks u.user.name)) here)) in
    same_clock raw.ports u.bit (map (λ (v : ClockUse). v.bit) us) x (ap (is_first x) e ∙ t) input

only_bit : (x : ℕ) (bits : List RawBit) → is_only_bit x bits ≡ true → At bits 0 (Net x)
only_bit x [] h = absurd (cc)
only_bit x (Net y ∷ []) h = ap Net (eqb-true y x h)
only_bit x (Net y ∷ b ∷ bs) h = absurd (cc)
only_bit x (Zero ∷ bs) h = absurd (cc)
only_bit x (One ∷ bs) h = absurd (cc)
only_bit x (X ∷ bs) h = absurd (cc)
only_bit x (Z ∷ bs) h = absurd (cc)

-- a clock that the checks accept is the first bit of some input
pub clock_is_input : (raw : Raw) (x : ℕ) → is_clock raw x ≡ true → clocks_fault raw ≡ None → (p : ℕ) × Has (driven raw) (x, Input p 0)
unfolding clocks_fault
clock_is_input raw x t h =
    let input : is_clock_input raw.ports (Net x) ≡ true = first_use raw (clock_uses raw) (all_clock_bits raw) x (all_uses raw.cells) (sym (clock_is_first raw x) ∙ t) h in
    let found = Has-any (λ (p : RawPort). is_input p && is_only_bit x p.bits) raw.ports input in
    let parts = and_parts (is_input found.0) (is_only_bit x found.0.bits) found.2 in
    let at = At-has (filter is_input raw.ports) found.0 (Has-filter is_input raw.ports found.0 found.1 parts.0) in
    (at.0, driven_by_input raw at.0 0 x (record { port = found.0; at_port = at.1; at_bit = only_bit x found.0.bits parts.1 }))
