-- Bits that may be read: constants, and numbers that are driven and aren't the clock.
use Rattle.std.specs.Prelude.{ℕ, ◌+◌, ◌<◌, ◌≡◌, true, false, not, List, [], ◌∷◌, ◌++◌, filter, Option, Some, None, is_some, refl}
use Rattle.std.specs.List.{flat_map}
use Rattle.std.proofs.Common.{arith, inl, inr}
use Rattle.std.proofs.lemmas.Bool.{both_ways, false_from_ne_true, not-false}
use Rattle.cif_defs.specs.Table.{kind_of, operands_of}
use Rattle.cif_defs.specs.RawModule.{bits_by, nets_in, operand_bits, output_bits, port_bits}
use Rattle.cif_defs.specs.Accepted.{driven, driver_in, is_clock, is_output}
use Rattle.cif_defs.specs.declared.kinds.Kind.{Kind}
use Rattle.cif_defs.specs.declared.nets.Driver.{Driver}
use Rattle.cif_defs.specs.declared.raw_module.RawBit.{RawBit}
use Rattle.cif_defs.specs.declared.raw_module.RawBit.TheVariants.{Net, Zero, One, X, Z}
use Rattle.cif_defs.specs.declared.raw_module.RawPort.{RawPort}
use Rattle.cif_defs.specs.declared.raw_module.RawCell.{RawCell}
use Rattle.cif_defs.specs.declared.raw_module.Raw.{Raw}
use Rattle.cif_checks.specs.declared.fault.Spot.{Spot}
use Rattle.cif_checks.specs.declared.fault.Spot.TheVariants.{Port}
use Rattle.cif_checks.specs.declared.fault.BuildFault.TheVariants.{ClockAsData, Undriven}
use Rattle.cif_checks.specs.Checks.{cell_spot, data_fault, driven_numbers, fault_if, first_fault, first_fault_from, operand_fault, operands_fault_by, read_fault, reads_number, shown_fault}
use Rattle.cif_nets.proofs.Places.{Has, Has-append, Has-filter}
use Rattle.cif_nets.proofs.Driven.{Has-driver}
use Rattle.cif_nets.proofs.Passed.{each_passes, first_passes, next_passes, test_passes}
use Rattle.cif_augment.specs.Additions.{numbers_of_input}
use Rattle.cif_emit.specs.Emitted.{are_known, drives, is_known}
use Rattle.cif_built.specs.Built.{IsBuilt}
use Rattle.cif_built_form.proofs.Lists.{all_has, count, counted, from_flat_map, has_net, has_of_number, in_flat_map, in_map, net_has, number_of_has}
use Rattle.cif_built_form.proofs.Standing.{input_number, output_driven, standing_in_port}
use Rattle.cif_built_form.proofs.Drivers.{count_both, new, new_driven, new_is_apart, old_driven, once_driven}
use Rattle.cif_built_form.proofs.Checked.{IsChecked, clock_of, clock_port}

-- ---- what the checks say of bits that are read

abbrev IsRead : Raw → RawBit → Type 0
IsRead raw (Net x) = Has (driven_numbers raw) x
IsRead raw Zero = Unit {0}
IsRead raw One = Unit {0}
IsRead raw X = ⊥
IsRead raw Z = ⊥

driver_some : (raw : Raw) (x : ℕ) (o : Option Driver) → driver_in (driven raw) x ≡ o → is_some o ≡ true → Has (driven_numbers raw) x
driver_some raw x (Some d) e h = in_map (λ (p : ℕ × Driver). p.0) (driven raw) (x, d) (Has-driver (driven raw) x d e)
driver_some raw x None e h = absurd (cc)

read_passes : (raw : Raw) (spot : Spot) (i : ℕ) (b : RawBit) → read_fault raw spot i b ≡ None → IsRead raw b
read_passes raw spot i (Net x) h = driver_some raw x (driver_in (driven raw) x) refl (not-false (is_some (driver_in (driven raw) x)) (test_passes (not (is_some (driver_in (driven raw) x))) (Undriven x) h))
read_passes raw spot i Zero h = tt
read_passes raw spot i One h = tt
read_passes raw spot i X h = absurd (cc)
read_passes raw spot i Z h = absurd (cc)

each_read : (raw : Raw) (spot : Spot) (i : ℕ) (bits : List RawBit) (b : RawBit) → first_fault_from (read_fault raw spot) i bits ≡ None → Has bits b → IsRead raw b
each_read raw spot i [] b h k = absurd k
each_read raw spot i (c ∷ bits) b h (inl e) = rw e at (read_passes raw spot i c (first_passes (read_fault raw spot i c) (first_fault_from (read_fault raw spot) (i + 1) bits) h))
each_read raw spot i (c ∷ bits) b h (inr k) = each_read raw spot (i + 1) bits b (next_passes (read_fault raw spot i c) (first_fault_from (read_fault raw spot) (i + 1) bits) h) k

operand_by : (raw : Raw) (c : RawCell) (o : Option Kind) (b : RawBit) → operands_fault_by raw c o ≡ None → Has (bits_by operands_of c o) b → IsRead raw b
operand_by raw c None b h k = absurd k
operand_by raw c (Some kind) b h k =
    (let row = from_flat_map (port_bits c) (operands_of kind) b k in each_read raw (cell_spot c row.0) 0 (port_bits c row.0) b (each_passes (operand_fault raw c) (operands_of kind) row.0 h row.1) row.2)

operand_read : (raw : Raw) (c : RawCell) (b : RawBit) → IsChecked raw → Has raw.cells c → Has (operand_bits c) b → IsRead raw b
operand_read raw c b h k at = operand_by raw c (kind_of c.kind) b (each_passes (λ (d : RawCell). operands_fault_by raw d (kind_of d.kind)) raw.cells c h.operands k) at

shown_read : (raw : Raw) (p : RawPort) (b : RawBit) → IsChecked raw → Has raw.ports p → is_output p ≡ true → Has p.bits b → IsRead raw b
shown_read raw p b h k e at = each_read raw (Port p.name) 0 p.bits b (each_passes (shown_fault raw) (filter is_output raw.ports) p h.shown (Has-filter is_output raw.ports p k e)) at

-- the clock isn't read
clock_in_cell : (raw : Raw) (x : ℕ) (c : RawCell) → data_fault raw (Net x) ≡ None → Has raw.cells c → Has (operand_bits c) (Net x) → ⊥
clock_in_cell raw x c h k at =
    let cells = first_fault (λ (d : RawCell). fault_if (reads_number x (operand_bits d)) (ClockAsData d.name)) raw.cells in
    let ports = first_fault (λ (p : RawPort). fault_if (reads_number x p.bits) (ClockAsData p.name)) (filter is_output raw.ports) in
    both_ways (reads_number x (operand_bits c))
    (test_passes (reads_number x (operand_bits c)) (ClockAsData c.name) (each_passes (λ (d : RawCell). fault_if (reads_number x (operand_bits d)) (ClockAsData d.name)) raw.cells c (first_passes cells ports h) k))
    (number_of_has x (nets_in (operand_bits c)) (net_has (operand_bits c) x at))

clock_in_port : (raw : Raw) (x : ℕ) (p : RawPort) → data_fault raw (Net x) ≡ None → Has raw.ports p → is_output p ≡ true → Has p.bits (Net x) → ⊥
clock_in_port raw x p h k e at =
    let cells = first_fault (λ (d : RawCell). fault_if (reads_number x (operand_bits d)) (ClockAsData d.name)) raw.cells in
    let ports = first_fault (λ (q : RawPort). fault_if (reads_number x q.bits) (ClockAsData q.name)) (filter is_output raw.ports) in
    both_ways (reads_number x p.bits)
    (test_passes (reads_number x p.bits) (ClockAsData p.name) (each_passes (λ (q : RawPort). fault_if (reads_number x q.bits) (ClockAsData q.name)) (filter is_output raw.ports) p (next_passes cells ports h) (Has-filter is_output raw.ports p k e)))
    (number_of_has x (nets_in p.bits) (net_has p.bits x at))

-- numbers that are read are driven, and aren't the clock
pub operand_readable : (raw : Raw) → IsChecked raw → (c : RawCell) (x : ℕ) → Has raw.cells c → Has (operand_bits c) (Net x) → Has (driven_numbers raw) x × (is_clock raw x ≡ false)
operand_readable raw h c x k at = (operand_read raw c (Net x) h k at, false_from_ne_true (is_clock raw x) (λ t. clock_in_cell raw x c (clock_of raw x h.clocks t).not_read k at))

pub shown_readable : (raw : Raw) → IsChecked raw → (p : RawPort) (x : ℕ) → Has raw.ports p → is_output p ≡ true → Has p.bits (Net x) → Has (driven_numbers raw) x × (is_clock raw x ≡ false)
shown_readable raw h p x k e at = (shown_read raw p (Net x) h k e at, false_from_ne_true (is_clock raw x) (λ t. clock_in_port raw x p (clock_of raw x h.clocks t).not_read k e at))

-- ---- fine bits of a module a that has the clock of n

pub record IsFine (n a : Raw) (x : ℕ) : Type 0 where
  pub driven : Has (driven_numbers a) x
  pub apart : is_clock n x ≡ false

abbrev pub IsFineBit : Raw → Raw → RawBit → Type 0
IsFineBit n a (Net x) = IsFine n a x
IsFineBit n a Zero = Unit {0}
IsFineBit n a One = Unit {0}
IsFineBit n a X = ⊥
IsFineBit n a Z = ⊥

pub record AreFineBits (n a : Raw) (bits : List RawBit) : Type 0 where
  pub each : (b : RawBit) → Has bits b → IsFineBit n a b

pub record AreFine (n a : Raw) (xs : List ℕ) : Type 0 where
  pub each : (x : ℕ) → Has xs x → IsFine n a x

pub nets_fine : (n a : Raw) (bits : List RawBit) → AreFineBits n a bits → AreFine n a (nets_in bits)
nets_fine n a bits h = record { each = λ x k. h.each (Net x) (has_net bits x k) }

pub append_fine : (n a : Raw) (xs ys : List ℕ) → AreFine n a xs → AreFine n a ys → AreFine n a (xs ++ ys)
append_fine n a xs ys h k = record { each = λ x at. elim (Has-append xs ys x at) [ inl l ↦ h.each x l | inr r ↦ k.each x r ] }

known_bit : (n a : Raw) (known : List ℕ) (b : RawBit) → AreFine n a known → is_known known b ≡ true → IsFineBit n a b
known_bit n a known (Net x) h e = h.each x (has_of_number x known e)
known_bit n a known Zero h e = tt
known_bit n a known One h e = tt
known_bit n a known X h e = absurd (cc)
known_bit n a known Z h e = absurd (cc)

pub known_fine : (n a : Raw) (known : List ℕ) (bits : List RawBit) → AreFine n a known → are_known known bits ≡ true → AreFineBits n a bits
known_fine n a known bits h e = record { each = λ b k. known_bit n a known b h (all_has (is_known known) bits b e k) }

-- ---- those of the first module, and new ones

module _ (n : Raw) (released : List ℕ) (a : Raw) (b : IsBuilt n released a) (h : IsChecked n) where
  read_fine : (c : RawBit) → IsRead n c → ((x : ℕ) → c ≡ Net x → is_clock n x ≡ false) → IsFineBit n a c
  read_fine (Net x) k e = record { driven = old_driven n released a b x k; apart = e x refl }
  read_fine Zero k e = tt
  read_fine One k e = tt
  read_fine X k e = k
  read_fine Z k e = k

  pub operands_fine : (c : RawCell) → Has n.cells c → AreFineBits n a (operand_bits c)
  operands_fine c k = record { each = λ bit at. read_fine bit (operand_read n c bit h k at) (λ x e. (operand_readable n h c x k (rw e at at)).1) }

  pub shown_fine : (p : RawPort) → Has n.ports p → is_output p ≡ true → AreFineBits n a p.bits
  shown_fine p k e = record { each = λ bit at. read_fine bit (shown_read n p bit h k e at) (λ x f. (shown_readable n h p x k e (rw f at at)).1) }

  -- a clock is driven by its port alone
  output_apart : (c : RawCell) (x : ℕ) → Has n.cells c → Has (output_bits c) (Net x) → is_clock n x ≡ true → ⊥
  output_apart c x k at t =
      let p = clock_port n x h.clocks t in
      let bit : Has p.port.bits (Net x) = rw p.alone (inl refl) in
      let input : 0 < count x (flat_map numbers_of_input n.ports) = counted x (flat_map numbers_of_input n.ports) (in_flat_map numbers_of_input n.ports p.port x p.has_port (input_number p.port x p.is_input bit)) in
      let output : 0 < count x (flat_map drives n.cells) = counted x (flat_map drives n.cells) (in_flat_map drives n.cells c x k (net_has (output_bits c) x at)) in
      let both = count_both n x in
      let one = once_driven n x h.drivers in
      omega arith

  pub outputs_fine : (c : RawCell) → Has n.cells c → AreFine n a (drives c)
  outputs_fine c k = record {
    each = λ x at. (let bit : Has (output_bits c) (Net x) = has_net (output_bits c) x at in
        record { driven = old_driven n released a b x (output_driven n c x k bit); apart = false_from_ne_true (is_clock n x) (λ t. output_apart c x k bit t) });
  }

  pub new_fine : (x : ℕ) → Has (new n released a b) x → IsFine n a x
  new_fine x k = record {
    driven = new_driven n released a b x k;
    apart = false_from_ne_true (is_clock n x) (λ t. (let p = clock_port n x h.clocks t in new_is_apart n released a b x k (standing_in_port n p.port x p.has_port (rw p.alone (inl refl)))));
  }
