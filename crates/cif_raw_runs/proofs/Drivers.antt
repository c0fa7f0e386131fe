-- What drives a net number of a well-formed module, and what stands at the places that drive: one says the other.
use Rattle.std.specs.Prelude.{ℕ, ◌+◌, ◌*◌, ◌/◌, ◌%◌, ◌<◌, ◌≤◌, ◌≡◌, ◌≢◌, ◌⊎◌, Bool, true, false, List, [], ◌∷◌, map, filter, get_or, take, drop, Option, Some, None, unwrap_or, refl}
use Rattle.std.proofs.Common.{arith, sym, ap, ◌∙◌, cond, inl, inr, length-take}
use Rattle.std.proofs.lemmas.Nat.{div-mul-add, mod-mul-add}
use Rattle.std.proofs.lemmas.List.{get_or-drop, get_or-take, get_or_past, length-map}
use Rattle.cif_defs.specs.Kinds.{role_of}
use Rattle.cif_defs.specs.Table.{kind_of, outputs_of}
use Rattle.cif_defs.specs.RawModule.{net_numbers, number_given, output_bits, port_bits}
use Rattle.cif_defs.specs.Cells.{width}
use Rattle.cif_defs.specs.Netlist.{driver_of}
use Rattle.cif_defs.specs.Accepted.{cell_by, cell_of, driven, driver_in, driver_of_number, is_clock, is_input, netlist_of, no_bit, place_of}
use Rattle.cif_defs.specs.declared.kinds.Kind.{Kind}
use Rattle.cif_defs.specs.declared.kinds.Role.{Role}
use Rattle.cif_defs.specs.declared.kinds.Role.TheVariants.{Combinational, PlainRegister, ResetRegister, MemoryBlock, CarriedOver}
use Rattle.cif_defs.specs.declared.kinds.Param.TheVariants.{Width}
use Rattle.cif_defs.specs.declared.nets.Driver.{Driver}
use Rattle.cif_defs.specs.declared.nets.Driver.TheVariants.{Input, Output, Register, Read, Clock}
use Rattle.cif_defs.specs.declared.raw_module.RawBit.{RawBit}
use Rattle.cif_defs.specs.declared.raw_module.RawBit.TheVariants.{Net, X}
use Rattle.cif_defs.specs.declared.raw_module.RawPort.{RawPort}
use Rattle.cif_defs.specs.declared.raw_module.RawCell.{RawCell}
use Rattle.cif_defs.specs.declared.raw_module.Raw.{Raw}
use Rattle.cif_checks.specs.Checks.{◌else_by◌, cell_fault, cell_fault_by, has_bad_form}
use Rattle.cif_defs.proofs.WordLaws.{le_or_lt}
use Rattle.cif_nets.proofs.Places.{At, Has, At-get, At-map, Has-at, Has-nets}
use Rattle.cif_nets.proofs.Rising.{At-place}
use Rattle.cif_nets.proofs.Driven.{CellIs, OutputBit, OutputOf, ReadOf, RegisterOf, driver_once, driven_by_input, driven_by_output, driven_by_read, driven_by_register, input_driven, output_driven, read_driven, register_driven}
use Rattle.cif_nets.proofs.Passed.{Passed, driven_once, each_passes, is_formed, known_memory}
use Rattle.cif_nets.proofs.Wired.{at_or_past, has_driver, memory_kind, no_clock, numbers_rise, same_place, width_by_given}
use Rattle.cif_raw_runs.specs.Given.{shown_bits, word_width}
use Rattle.cif_raw_runs.proofs.Numbers.{net_at, number_of_output, number_of_row}

-- ---- the driver of a number

pub driver_at_place : (raw : Raw) (b x : ℕ) → At (net_numbers raw) b x → driver_of (netlist_of raw) b ≡ driver_of_number raw x
unfolding netlist_of
driver_at_place raw b x at = At-map (driver_of_number raw) (net_numbers raw) b x Clock at

pub own_driver : (raw : Raw) (x : ℕ) → Has (net_numbers raw) x → driver_of (netlist_of raw) (place_of (net_numbers raw) x) ≡ driver_of_number raw x
own_driver raw x h = driver_at_place raw (place_of (net_numbers raw) x) x (At-place (net_numbers raw) x (numbers_rise raw) h)

-- and back
pub is_driver : (raw : Raw) (x : ℕ) (d : Driver) → Passed raw → Has (net_numbers raw) x → is_clock raw x ≡ false → Has (driven raw) (x, d) → driver_of_number raw x ≡ d
is_driver raw x d s n free h =
    ap (λ (c : Bool). cond c Clock (unwrap_or (driver_in (driven raw) x) Clock)) free
    ∙ ap (λ (o : Option Driver). unwrap_or o Clock) (driver_once (driven raw) x d (driven_once raw x s.drivers n) h)

-- ---- places that drive

-- what drives at bit i of word p that a cell shows
abbrev pub shown_driver : Role → ℕ → ℕ → ℕ → Driver
shown_driver Combinational c p i = Output c p i
shown_driver PlainRegister c p i = Register c i
shown_driver ResetRegister c p i = Register c i
shown_driver MemoryBlock c p i = Read c p i
shown_driver CarriedOver c p i = Clock

-- a number stands at bit i of word p that a cell shows
pub record IsShownAt (raw : Raw) (x : ℕ) (d : Driver) : Type 0 where
  pub number : ℕ
  pub cell : RawCell
  pub kind : Kind
  pub word : ℕ
  pub index : ℕ
  pub is : CellIs raw number cell kind
  pub place : get_or (shown_bits (role_of kind) cell kind word) index no_bit ≡ Net x
  pub same : d ≡ shown_driver (role_of kind) number word index

-- a memory of a well-formed module
pub record HasWords (cell : RawCell) : Type 0 where
  pub positive : 0 < word_width cell
  pub given : unwrap_or (number_given cell Width) 0 ≡ word_width cell

pub has_words : (raw : Raw) (c : ℕ) (cell : RawCell) (k : Kind) → Passed raw → CellIs raw c cell k → role_of k ≡ MemoryBlock → HasWords cell
unfolding cell_fault cell_of
has_words raw c cell k s is e =
    let here : cell_fault_by cell (kind_of cell.kind) ≡ None = each_passes cell_fault raw.cells cell s.cells (Has-at raw.cells c cell is.at_cell) in
    let form : has_bad_form cell ≡ false = known_memory cell k e (rw is.is_kind at here) in
    let ne : unwrap_or (number_given cell Width) 0 ≢ 0 = (is_formed cell form).width in
    let some : 0 < unwrap_or (number_given cell Width) 0 = omega arith in
    let wide : word_width cell ≡ unwrap_or (number_given cell Width) 0 = ap (λ (o : Option Kind). width (cell_by [] cell o)) (is.is_kind ∙ ap (λ (q : Kind). Some q) (memory_kind k e)) ∙ width_by_given [] cell (number_given cell Width) refl some in
    record { positive = omega arith; given = sym wide }

-- bit i of row q of a list
row_bit : (bits : List RawBit) (w q i : ℕ) → i < w → get_or (take w (drop (q * w) bits)) i no_bit ≡ get_or bits (q * w + i) no_bit
row_bit bits w q i h = get_or-take w (drop (q * w) bits) i no_bit h ∙ get_or-drop (q * w) bits i no_bit

no_row : (bits : List RawBit) (i x : ℕ) → bits ≡ [] → get_or bits i no_bit ≡ Net x → ⊥
no_row bits i x e h = (let none : get_or bits i no_bit ≡ X = ap (λ (bs : List RawBit). get_or bs i no_bit) e in cc)

output_bit_at : (cell : RawCell) (k : Kind) (p i x : ℕ) → get_or (get_or (map (port_bits cell) (outputs_of k)) p []) i no_bit ≡ Net x → OutputBit cell k p i x
output_bit_at cell k p i x h = elim (at_or_past (outputs_of k) p) [
  | inl a ↦ record { row = a.0; at_row = a.1; at_bit = net_at (port_bits cell a.0) i x (ap (λ (bits : List RawBit). get_or bits i no_bit) (sym (At-map (port_bits cell) (outputs_of k) p a.0 [] a.1)) ∙ h) }
  | inr l ↦ absurd (no_row (get_or (map (port_bits cell) (outputs_of k)) p []) i x (get_or_past (map (port_bits cell) (outputs_of k)) p [] (omega (arith, length-map (outputs_of k) (port_bits cell)))) h)
]

-- what is shown is driven, and a net number
record IsDriven (raw : Raw) (x : ℕ) (d : Driver) : Type 0 where
  number : Has (net_numbers raw) x
  has : Has (driven raw) (x, d)
  apart : (p : ℕ) → d ≡ Input p 0 → ⊥

kept_driven : (raw : Raw) (c : ℕ) (cell : RawCell) (k : Kind) (i x : ℕ) → CellIs raw c cell k → (role_of k ≡ PlainRegister) ⊎ (role_of k ≡ ResetRegister) → At (output_bits cell) i (Net x) → IsDriven raw x (Register c i)
kept_driven raw c cell k i x is e at = record {
  number = number_of_output raw c cell x is.at_cell (Has-nets (output_bits cell) i x at);
  has = driven_by_register raw c i x (record { cell = cell; kind = k; is = is; role = e; at_bit = at });
  apart = λ p f. (cc);
}

read_inside : (bits : List RawBit) (w q i x : ℕ) → get_or (take w (drop (q * w) bits)) i no_bit ≡ Net x → (i < w) ⊎ (w ≤ i) → i < w
read_inside bits w q i x h (inl l) = l
read_inside bits w q i x h (inr l) = absurd (let past : get_or (take w (drop (q * w) bits)) i no_bit ≡ X = get_or_past (take w (drop (q * w) bits)) i no_bit (omega (arith, length-take w (drop (q * w) bits))) in cc)

read_is_driven : (raw : Raw) (c : ℕ) (cell : RawCell) (k : Kind) (q i x : ℕ) → Passed raw → CellIs raw c cell k → role_of k ≡ MemoryBlock → get_or (take (word_width cell) (drop (q * word_width cell) (output_bits cell))) i no_bit ≡ Net x → IsDriven raw x (Read c q i)
read_is_driven raw c cell k q i x s is e h =
    let w : ℕ = word_width cell in
    let words = has_words raw c cell k s is e in
    let inside : i < word_width cell = read_inside (output_bits cell) w q i x h (le_or_lt i w) in
    let at : At (output_bits cell) (q * word_width cell + i) (Net x) = net_at (output_bits cell) (q * w + i) x (sym (row_bit (output_bits cell) w q i inside) ∙ h) in
    record {
      number = number_of_output raw c cell x is.at_cell (Has-nets (output_bits cell) (q * w + i) x at);
      has = driven_by_read raw c q i x (record {
        cell = cell;
        kind = k;
        is = is;
        role = e;
        place = q * w + i;
        port = sym (ap (λ (n : ℕ). (q * w + i) / n) words.given ∙ div-mul-add q w i inside);
        index = sym (ap (λ (n : ℕ). (q * w + i) % n) words.given ∙ mod-mul-add q w i inside);
        at_bit = at;
      });
      apart = λ p f. (cc);
    }

shown_is_driven : (raw : Raw) (c : ℕ) (cell : RawCell) (k : Kind) (role : Role) (p i x : ℕ) → Passed raw → CellIs raw c cell k → role_of k ≡ role → get_or (shown_bits role cell k p) i no_bit ≡ Net x → IsDriven raw x (shown_driver role c p i)
shown_is_driven raw c cell k Combinational p i x s is e h =
    let b = output_bit_at cell k p i x h in
    record {
      number = number_of_row raw c cell k p i b.row x is b.at_row b.at_bit;
      has = driven_by_output raw c p i x (record { cell = cell; kind = k; is = is; role = e; bit = b });
      apart = λ q f. (cc);
    }
shown_is_driven raw c cell k PlainRegister p i x s is e h = kept_driven raw c cell k i x is (inl e) (net_at (output_bits cell) i x h)
shown_is_driven raw c cell k ResetRegister p i x s is e h = kept_driven raw c cell k i x is (inr e) (net_at (output_bits cell) i x h)
shown_is_driven raw c cell k MemoryBlock p i x s is e h = read_is_driven raw c cell k p i x s is e h
shown_is_driven raw c cell k CarriedOver p i x s is e h = absurd (no_row [] i x refl h)

-- the driver of a number that stands at bit i of word p that a cell shows
pub driver_of_shown : (raw : Raw) (c : ℕ) (cell : RawCell) (k : Kind) (p i x : ℕ) → Passed raw → CellIs raw c cell k → get_or (shown_bits (role_of k) cell k p) i no_bit ≡ Net x
    → Has (net_numbers raw) x × (driver_of_number raw x ≡ shown_driver (role_of k) c p i)
driver_of_shown raw c cell k p i x s is h =
    let d = shown_is_driven raw c cell k (role_of k) p i x s is refl h in
    (d.number, is_driver raw x (shown_driver (role_of k) c p i) s d.number (no_clock raw x (shown_driver (role_of k) c p i) (is_clock raw x) s d.number d.apart d.has refl) d.has)

-- the driver of a number that stands at an input port, but for the clock
pub driver_of_input : (raw : Raw) (q i x : ℕ) (port : RawPort) → Passed raw → At (filter is_input raw.ports) q port → At port.bits i (Net x) → Has (net_numbers raw) x → is_clock raw x ≡ false → driver_of_number raw x ≡ Input q i
driver_of_input raw q i x port s at bit n free = is_driver raw x (Input q i) s n free (driven_by_input raw q i x (record { port = port; at_port = at; at_bit = bit }))

-- ---- and back

by_role : (cell : RawCell) (k : Kind) (p i x : ℕ) (role : Role) → role_of k ≡ role → get_or (shown_bits role cell k p) i no_bit ≡ Net x → get_or (shown_bits (role_of k) cell k p) i no_bit ≡ Net x
by_role cell k p i x role e h = ap (λ (r : Role). get_or (shown_bits r cell k p) i no_bit) e ∙ h

shown_as : (c p i : ℕ) (k : Kind) (role : Role) (d : Driver) → role_of k ≡ role → d ≡ shown_driver role c p i → d ≡ shown_driver (role_of k) c p i
shown_as c p i k role d e h = h ∙ ap (λ (r : Role). shown_driver r c p i) (sym e)

output_shown : (raw : Raw) (c p i x : ℕ) → OutputOf raw c p i x → IsShownAt raw x (Output c p i)
output_shown raw c p i x o = record {
  number = c;
  cell = o.cell;
  kind = o.kind;
  word = p;
  index = i;
  is = o.is;
  place = by_role o.cell o.kind p i x Combinational o.role (ap (λ (bits : List RawBit). get_or bits i no_bit) (At-map (port_bits o.cell) (outputs_of o.kind) p o.bit.row [] o.bit.at_row) ∙ At-get (port_bits o.cell o.bit.row) i (Net x) no_bit o.bit.at_bit);
  same = shown_as c p i o.kind Combinational (Output c p i) o.role refl;
}

register_shown_by : (raw : Raw) (c i x : ℕ) (cell : RawCell) (k : Kind) (role : Role) → CellIs raw c cell k → role_of k ≡ role → get_or (shown_bits role cell k 0) i no_bit ≡ Net x → Register c i ≡ shown_driver role c 0 i → IsShownAt raw x (Register c i)
register_shown_by raw c i x cell k role is e h f = record {
  number = c;
  cell = cell;
  kind = k;
  word = 0;
  index = i;
  is = is;
  place = by_role cell k 0 i x role e h;
  same = shown_as c 0 i k role (Register c i) e f;
}

register_shown : (raw : Raw) (c i x : ℕ) → RegisterOf raw c i x → IsShownAt raw x (Register c i)
register_shown raw c i x o = elim o.role [
  | inl e ↦ register_shown_by raw c i x o.cell o.kind PlainRegister o.is e (At-get (output_bits o.cell) i (Net x) no_bit o.at_bit) refl
  | inr e ↦ register_shown_by raw c i x o.cell o.kind ResetRegister o.is e (At-get (output_bits o.cell) i (Net x) no_bit o.at_bit) refl
]

read_shown : (raw : Raw) (c q i x : ℕ) → Passed raw → ReadOf raw c q i x → IsShownAt raw x (Read c q i)
read_shown raw c q i x s o =
    let words = has_words raw c o.cell o.kind s o.is o.role in
    let some : 0 < word_width o.cell = words.positive in
    let port : q ≡ o.place / word_width o.cell = o.port ∙ ap (λ (n : ℕ). o.place / n) words.given in
    let index : i ≡ o.place % word_width o.cell = o.index ∙ ap (λ (n : ℕ). o.place % n) words.given in
    let inside : i < word_width o.cell = omega arith in
    record {
      number = c;
      cell = o.cell;
      kind = o.kind;
      word = q;
      index = i;
      is = o.is;
      place = by_role o.cell o.kind q i x MemoryBlock o.role
          (row_bit (output_bits o.cell) (word_width o.cell) q i inside ∙ ap (λ (j : ℕ). get_or (output_bits o.cell) j no_bit) (same_place q i (word_width o.cell) o.place port index) ∙ At-get (output_bits o.cell) o.place (Net x) no_bit o.at_bit);
      same = shown_as c q i o.kind MemoryBlock (Read c q i) o.role refl;
    }

-- what drives a number: an input port, a cell that shows it, or nothing but the clock
pub data DrivenBy (raw : Raw) (x : ℕ) : Type 0 where
  by_port : (q i : ℕ) (port : RawPort) → At (filter is_input raw.ports) q port → At port.bits i (Net x) → is_clock raw x ≡ false → driver_of_number raw x ≡ Input q i → DrivenBy raw x
  by_cell : IsShownAt raw x (driver_of_number raw x) → DrivenBy raw x
  by_clock : driver_of_number raw x ≡ Clock → DrivenBy raw x

-- a number that the clock drives is driven by nothing else
free_by : (raw : Raw) (x : ℕ) (d : Driver) (b : Bool) → is_clock raw x ≡ b → (Clock ≡ d → ⊥) → driver_of_number raw x ≡ d → is_clock raw x ≡ false
free_by raw x d true e apart h = absurd (apart (sym (ap (λ c. cond c Clock (unwrap_or (driver_in (driven raw) x) Clock)) e) ∙ h))
free_by raw x d false e apart h = e

shown_moved : (raw : Raw) (x : ℕ) (d : Driver) → driver_of_number raw x ≡ d → IsShownAt raw x d → DrivenBy raw x
shown_moved raw x d e h = by_cell (rw e h)

driven_by_as : (raw : Raw) (x : ℕ) (d : Driver) → Passed raw → driver_of_number raw x ≡ d → DrivenBy raw x
driven_by_as raw x (Input q i) s e =
    (let bit = input_driven raw q i x (has_driver raw x (Input q i) (λ f. absurd (cc)) e) in by_port q i bit.port bit.at_port bit.at_bit (free_by raw x (Input q i) (is_clock raw x) refl (λ f. absurd (cc)) e) e)
driven_by_as raw x (Output c p i) s e = shown_moved raw x (Output c p i) e (output_shown raw c p i x (output_driven raw c p i x (has_driver raw x (Output c p i) (λ f. absurd (cc)) e)))
driven_by_as raw x (Register c i) s e = shown_moved raw x (Register c i) e (register_shown raw c i x (register_driven raw c i x (has_driver raw x (Register c i) (λ f. absurd (cc)) e)))
driven_by_as raw x (Read c q i) s e = shown_moved raw x (Read c q i) e (read_shown raw c q i x s (read_driven raw c q i x (has_driver raw x (Read c q i) (λ f. absurd (cc)) e)))
driven_by_as raw x Clock s e = by_clock e

pub driven_by : (raw : Raw) (x : ℕ) → Passed raw → DrivenBy raw x
driven_by raw x s = driven_by_as raw x (driver_of_number raw x) s refl
