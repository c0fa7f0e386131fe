-- The checks of a module one by one, but for its counts; and what they say of its clock.
use Rattle.std.specs.Prelude.{ℕ, ◌≡◌, ◌==◌, true, not, ◌&&◌, List, [], ◌∷◌, map, filter, None, refl}
use Rattle.std.proofs.Common.{sym, ap, ◌∙◌, inl}
use Rattle.std.proofs.lemmas.Bool.{and_parts, eqb-true, not-false}
use Rattle.cif_defs.specs.Table.{kind_of}
use Rattle.cif_defs.specs.Accepted.{is_clock, is_input, is_output}
use Rattle.cif_defs.specs.declared.raw_module.RawBit.{RawBit}
use Rattle.cif_defs.specs.declared.raw_module.RawBit.TheVariants.{Net, Zero, One, X, Z}
use Rattle.cif_defs.specs.declared.raw_module.RawPort.{RawPort}
use Rattle.cif_defs.specs.declared.raw_module.RawCell.{RawCell}
use Rattle.cif_defs.specs.declared.raw_module.Raw.{Raw}
use Rattle.cif_checks.specs.Checks.{◌else_by◌, ClockUse, IsAccepted, IsWellFormed, build_fault, cell_fault, cells_fault, clock_fault, clock_uses, clocks_fault, counts_fault, data_fault, drivers_fault, fault_if, first_fault, form_fault, inits_fault, is_clock_input, is_only_bit, is_same_bit, memory_bits_fault, operands_fault_by, ports_fault, reads_fault, shown_fault, uses_fault}
use Rattle.cif_checks.specs.declared.fault.BuildFault.TheVariants.{NoClockInput, TwoClocks}
use Rattle.cif_nets.proofs.Places.{Has, Has-any}
use Rattle.cif_nets.proofs.Passed.{all_uses, clock_is_first, each_passes, first_passes, is_first, next_passes, test_passes}
use Rattle.cif_built_form.proofs.Passing.{both_pass}

-- ---- the checks one by one

pub record IsChecked (raw : Raw) : Type 0 where
  pub ports : ports_fault raw ≡ None
  pub cells : first_fault cell_fault raw.cells ≡ None
  pub drivers : drivers_fault raw ≡ None
  pub clocks : clocks_fault raw ≡ None
  pub operands : first_fault (λ (c : RawCell). operands_fault_by raw c (kind_of c.kind)) raw.cells ≡ None
  pub shown : first_fault (shown_fault raw) (filter is_output raw.ports) ≡ None
  pub inits : inits_fault raw ≡ None

pub checked : (raw : Raw) → IsAccepted raw → IsChecked raw
unfolding build_fault cells_fault reads_fault
checked raw h =
    let two = counts_fault raw else_by ports_fault raw in
    let each = first_fault cell_fault raw.cells in
    let three = two else_by (each else_by memory_bits_fault raw) in
    let four = three else_by drivers_fault raw in
    let five = four else_by clocks_fault raw in
    let operands = first_fault (λ (c : RawCell). operands_fault_by raw c (kind_of c.kind)) raw.cells in
    let shown = first_fault (shown_fault raw) (filter is_output raw.ports) in
    let six = five else_by (operands else_by shown) in
    let all_six : six ≡ None = first_passes six (inits_fault raw) h in
    let reads : (operands else_by shown) ≡ None = next_passes five (operands else_by shown) all_six in
    let all_five : five ≡ None = first_passes five (operands else_by shown) all_six in
    let all_four : four ≡ None = first_passes four (clocks_fault raw) all_five in
    let all_three : three ≡ None = first_passes three (drivers_fault raw) all_four in
    record {
      ports = next_passes (counts_fault raw) (ports_fault raw) (first_passes two (each else_by memory_bits_fault raw) all_three);
      cells = first_passes each (memory_bits_fault raw) (next_passes two (each else_by memory_bits_fault raw) all_three);
      drivers = next_passes three (drivers_fault raw) all_four;
      clocks = next_passes four (clocks_fault raw) all_five;
      operands = first_passes operands shown reads;
      shown = next_passes operands shown reads;
      inits = next_passes six (inits_fault raw) h;
    }

pub well_formed : (raw : Raw) → IsChecked raw → IsWellFormed raw
unfolding form_fault reads_fault
well_formed raw h =
    let two = ports_fault raw else_by first_fault cell_fault raw.cells in
    let three = two else_by drivers_fault raw in
    let four = three else_by clocks_fault raw in
    let operands = first_fault (λ (c : RawCell). operands_fault_by raw c (kind_of c.kind)) raw.cells in
    let shown = first_fault (shown_fault raw) (filter is_output raw.ports) in
    both_pass (four else_by (operands else_by shown)) (inits_fault raw)
    (both_pass four (operands else_by shown)
    (both_pass three (clocks_fault raw) (both_pass two (drivers_fault raw) (both_pass (ports_fault raw) (first_fault cell_fault raw.cells) h.ports h.cells) h.drivers) h.clocks)
    (both_pass operands shown h.operands h.shown))
    h.inits

-- ---- uses of the clock

-- what is checked of uses of the clock, where one is the first
pub record AreUses (raw : Raw) (first : ClockUse) (uses : List ClockUse) : Type 0 where
  pub inputs : (u : ClockUse) → Has uses u → is_clock_input raw.ports u.bit ≡ true
  pub bits : (u : ClockUse) → Has uses u → is_same_bit first.bit u.bit ≡ true
  pub polarities : (u : ClockUse) → Has uses u → (first.polarity == u.polarity) ≡ true
  pub not_read : data_fault raw first.bit ≡ None

pub are_uses : (raw : Raw) (first : ClockUse) (rest : List ClockUse) → uses_fault raw (first ∷ rest) ≡ None → AreUses raw first (first ∷ rest)
are_uses raw first rest h =
    let all = first_passes (first_fault (clock_fault raw.ports first) (first ∷ rest)) (data_fault raw first.bit) h in
    let input : (u : ClockUse) → Has (first ∷ rest) u → is_clock_input raw.ports u.bit ≡ true = λ u k.
    not-false (is_clock_input raw.ports u.bit) (test_passes (not (is_clock_input raw.ports u.bit)) (NoClockInput u.user.name)
    (first_passes (fault_if (not (is_clock_input raw.ports u.bit)) (NoClockInput u.user.name)) (fault_if (not (is_same_bit first.bit u.bit && first.polarity == u.polarity)) (TwoClocks u.user.name))
    (each_passes (clock_fault raw.ports first) (first ∷ rest) u all k))) in
    let same : (u : ClockUse) → Has (first ∷ rest) u → (is_same_bit first.bit u.bit && first.polarity == u.polarity) ≡ true = λ u k.
    not-false (is_same_bit first.bit u.bit && first.polarity == u.polarity) (test_passes (not (is_same_bit first.bit u.bit && first.polarity == u.polarity)) (TwoClocks u.user.name)
    (next_passes (fault_if (not (is_clock_input raw.ports u.bit)) (NoClockInput u.user.name)) (fault_if (not (is_same_bit first.bit u.bit && first.polarity == u.polarity)) (TwoClocks u.user.name))
    (each_passes (clock_fault raw.ports first) (first ∷ rest) u all k))) in
    record {
      inputs = input;
      bits = λ u k. (and_parts (is_same_bit first.bit u.bit) (first.polarity == u.polarity) (same u k)).0;
      polarities = λ u k. (and_parts (is_same_bit first.bit u.bit) (first.polarity == u.polarity) (same u k)).1;
      not_read = next_passes (first_fault (clock_fault raw.ports first) (first ∷ rest)) (data_fault raw first.bit) h;
    }

-- ---- the clock

first_bit : (x : ℕ) (b : RawBit) (bits : List RawBit) → is_first x (b ∷ bits) ≡ true → b ≡ Net x
first_bit x (Net y) bits h = ap Net (eqb-true y x h)
first_bit x Zero bits h = absurd (cc)
first_bit x One bits h = absurd (cc)
first_bit x X bits h = absurd (cc)
first_bit x Z bits h = absurd (cc)

-- the clock is the bit of the first use
pub record IsClockOf (raw : Raw) (x : ℕ) : Type 0 where
  pub use_of : ClockUse
  pub is_bit : use_of.bit ≡ Net x
  pub input : is_clock_input raw.ports (Net x) ≡ true
  pub not_read : data_fault raw (Net x) ≡ None

clock_by : (raw : Raw) (uses : List ClockUse) (x : ℕ) → uses_fault raw uses ≡ None → is_first x (map (λ (u : ClockUse). u.bit) uses) ≡ true → IsClockOf raw x
clock_by raw [] x h e = absurd (cc)
clock_by raw (u ∷ us) x h e =
    let is : u.bit ≡ Net x = first_bit x u.bit (map (λ (v : ClockUse). v.bit) us) e in
    let all = are_uses raw u us h in
    record { use_of = u; is_bit = is; input = ap (is_clock_input raw.ports) (sym is) ∙ all.inputs u (inl refl); not_read = ap (data_fault raw) (sym is) ∙ all.not_read }

pub clock_of : (raw : Raw) (x : ℕ) → clocks_fault raw ≡ None → is_clock raw x ≡ true → IsClockOf raw x
unfolding clocks_fault
clock_of raw x h e = clock_by raw (clock_uses raw) x h (ap (is_first x) (all_uses raw.cells) ∙ sym (clock_is_first raw x) ∙ e)

-- it stands alone at an input port
pub record IsClockPort (raw : Raw) (x : ℕ) : Type 0 where
  pub port : RawPort
  pub has_port : Has raw.ports port
  pub is_input : is_input port ≡ true
  pub alone : port.bits ≡ Net x ∷ []

only_bit : (x : ℕ) (bits : List RawBit) → is_only_bit x bits ≡ true → bits ≡ Net x ∷ []
only_bit x [] h = absurd (cc)
only_bit x (Net y ∷ []) h = ap (λ z. Net z ∷ []) (eqb-true y x h)
only_bit x (Net y ∷ b ∷ bits) h = absurd (cc)
only_bit x (Zero ∷ bits) h = absurd (cc)
only_bit x (One ∷ bits) h = absurd (cc)
only_bit x (X ∷ bits) h = absurd (cc)
only_bit x (Z ∷ bits) h = absurd (cc)

pub clock_port : (raw : Raw) (x : ℕ) → clocks_fault raw ≡ None → is_clock raw x ≡ true → IsClockPort raw x
clock_port raw x h e =
    let c = clock_of raw x h e in
    let found = Has-any (λ (p : RawPort). is_input p && is_only_bit x p.bits) raw.ports c.input in
    let parts = and_parts (is_input found.0) (is_only_bit x found.0.bits) found.2 in
    record { port = found.0; has_port = found.1; is_input = parts.0; alone = only_bit x found.0.bits parts.1 }
