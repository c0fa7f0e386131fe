-- The netlist of an accepted module is wired: each driver names the bit that the net bit is, and back.
use Rattle.std.specs.Prelude.{ℕ, zero, suc, ◌+◌, ◌*◌, ◌/◌, ◌%◌, ◌<◌, ◌≤◌, ◌≡◌, ◌⊎◌, Bool, true, false, List, [], ◌∷◌, ◌++◌, map, filter, length, get_or, Option, Some, None, option_map, unwrap_or, refl}
use Rattle.std.specs.List.{cons_option, flat_map}
use Rattle.std.proofs.Common.{arith, sym, ap, ◌∙◌, cond, inl, inr}
use Rattle.std.proofs.lemmas.Nat.{div-mul-add, mod-mul-add, div-add-mod'}
use Rattle.std.proofs.lemmas.List.{get_or_past, length-map}
use Rattle.cif_defs.specs.Kinds.{role_of}
use Rattle.cif_defs.specs.Table.{kind_of, outputs_of, parameters_of, row}
use Rattle.cif_defs.specs.RawModule.{number_given, port_bits, output_bits, operand_bits, clock_bits, nets_in, numbers_held, net_numbers}
use Rattle.cif_defs.specs.Cells.{Cell, width, number_in}
use Rattle.cif_defs.specs.Netlist.{IsWired, cell_at, driver_of, no_cell, no_wire, output_at, role_at}
use Rattle.cif_defs.specs.Accepted.{cell_by, cell_of, driven, driver_in, driver_of_number, is_clock, is_input, netlist_of, numbers_of, place_of, source, target, wire_of}
use Rattle.cif_defs.specs.declared.kinds.Kind.{Kind}
use Rattle.cif_defs.specs.declared.kinds.Kind.TheVariants.{Mem}
use Rattle.cif_defs.specs.declared.kinds.Role.TheVariants.{Combinational, PlainRegister, ResetRegister, MemoryBlock}
use Rattle.cif_defs.specs.declared.kinds.Param.{Param}
use Rattle.cif_defs.specs.declared.kinds.Param.TheVariants.{Width, Size, Offset, Abits, RdPorts, WrPorts}
use Rattle.cif_defs.specs.declared.kinds.PortRow.{PortRow}
use Rattle.cif_defs.specs.declared.nets.Driver.{Driver}
use Rattle.cif_defs.specs.declared.nets.Driver.TheVariants.{Input, Output, Register, Read, Clock}
use Rattle.cif_defs.specs.declared.nets.Src.TheVariants.{Bit, Zero as ZeroSource}
use Rattle.cif_defs.specs.declared.nets.Wire.{Wire}
use Rattle.cif_defs.specs.declared.raw_module.RawBit.{RawBit}
use Rattle.cif_defs.specs.declared.raw_module.RawBit.TheVariants.{Net, Zero, One, X, Z}
use Rattle.cif_defs.specs.declared.raw_module.RawPort.{RawPort}
use Rattle.cif_defs.specs.declared.raw_module.RawCell.{RawCell}
use Rattle.cif_defs.specs.declared.raw_module.Raw.{Raw}
use Rattle.cif_checks.specs.Checks.{IsAccepted}
use Rattle.cif_nets.specs.Kept.{is_kept}
use Rattle.cif_nets.proofs.Places.{At, Has, At-map, At-from_map, At-moved, At-subst, Has-flat_map, Has-left, Has-right, Has-nets, nets_in-append}
use Rattle.cif_nets.proofs.Rising.{IsRising, IsRising-rising, Has-rising, place_at, At-place}
use Rattle.cif_nets.proofs.Driven.{CellIs, OutputBit, OutputOf, PortBit, ReadOf, RegisterOf, Has-driver, driver_once, driven_by_output, driven_by_read, driven_by_register, input_driven, output_driven, read_driven, register_driven, word_width}
use Rattle.cif_nets.proofs.Kept.{one_output, single_row}
use Rattle.cif_nets.proofs.Passed.{Passed, passed, clock_is_input, driven_once, word_width_positive}

-- ---- net numbers

pub numbers_rise : (raw : Raw) → IsRising (net_numbers raw)
unfolding net_numbers
numbers_rise raw = IsRising-rising (numbers_held raw)

pub nets_of_rows : (cell : RawCell) (rows : List PortRow) (p : ℕ) (r : PortRow) (x : ℕ) → At rows p r → Has (nets_in (port_bits cell r)) x → Has (nets_in (flat_map (port_bits cell) rows)) x
nets_of_rows cell [] p r x at h = absurd at
nets_of_rows cell (s ∷ rows) zero r x at h =
    let here : Has (nets_in (port_bits cell s)) x = rw at h in
    rw (nets_in-append (port_bits cell s) (flat_map (port_bits cell) rows)) (Has-left (nets_in (port_bits cell s)) (nets_in (flat_map (port_bits cell) rows)) x here)
nets_of_rows cell (s ∷ rows) (suc p) r x at h =
    rw (nets_in-append (port_bits cell s) (flat_map (port_bits cell) rows)) (Has-right (nets_in (port_bits cell s)) (nets_in (flat_map (port_bits cell) rows)) x (nets_of_rows cell rows p r x at h))

-- an output of a cell holds net numbers of the module
pub output_is_number : (raw : Raw) (c p i x : ℕ) (cell : RawCell) (k : Kind) → CellIs raw c cell k → OutputBit cell k p i x → Has (net_numbers raw) x
unfolding net_numbers
output_is_number raw c p i x cell k is b =
    let here : Has (nets_in (flat_map (port_bits cell) (outputs_of k))) x = nets_of_rows cell (outputs_of k) p b.row x b.at_row (Has-nets (port_bits cell b.row) i x b.at_bit) in
    let outputs : Has (nets_in (output_bits cell)) x = rw is.is_kind here in
    let all : Has (nets_in (operand_bits cell) ++ nets_in (output_bits cell) ++ nets_in (clock_bits cell)) x = Has-left (nets_in (operand_bits cell) ++ nets_in (output_bits cell)) (nets_in (clock_bits cell)) x (Has-right (nets_in (operand_bits cell)) (nets_in (output_bits cell)) x outputs) in
    Has-rising (numbers_held raw) x (Has-right (flat_map (λ (p : RawPort). nets_in p.bits) raw.ports) (flat_map (λ (c : RawCell). nets_in (operand_bits c) ++ nets_in (output_bits c) ++ nets_in (clock_bits c)) raw.cells) x
    (Has-flat_map (λ (c : RawCell). nets_in (operand_bits c) ++ nets_in (output_bits c) ++ nets_in (clock_bits c)) raw.cells c cell x is.at_cell all))

-- ---- cells

cell_is : (raw : Raw) (c : ℕ) (cell : RawCell) (k : Kind) → CellIs raw c cell k → cell_at (netlist_of raw) c ≡ cell_by (net_numbers raw) cell (Some k)
unfolding netlist_of cell_of
cell_is raw c cell k is = At-map (cell_of (net_numbers raw)) raw.cells c cell no_cell is.at_cell ∙ ap (cell_by (net_numbers raw) cell) is.is_kind

role_is : (raw : Raw) (c : ℕ) (cell : RawCell) (k : Kind) → CellIs raw c cell k → role_at (netlist_of raw) c ≡ role_of k
role_is raw c cell k is = ap (λ (d : Cell). role_of d.kind) (cell_is raw c cell k is)

outputs_seen : (ns : List ℕ) (cell : RawCell) (k : Kind) (p i x : ℕ) → OutputBit cell k p i x → output_at (cell_by ns cell (Some k)) p i ≡ Some (place_of ns x)
outputs_seen ns cell k p i x b =
    ap (λ (os : List (Option ℕ)). get_or os i None) (At-map (λ (r : PortRow). map (target ns) (port_bits cell r)) (outputs_of k) p b.row [] b.at_row)
    ∙ At-map (target ns) (port_bits cell b.row) i (Net x) None b.at_bit

output_seen : (raw : Raw) (c p i x : ℕ) (cell : RawCell) (k : Kind) → CellIs raw c cell k → OutputBit cell k p i x → output_at (cell_at (netlist_of raw) c) p i ≡ Some (place_of (net_numbers raw) x)
output_seen raw c p i x cell k is b = ap (λ (d : Cell). output_at d p i) (cell_is raw c cell k is) ∙ outputs_seen (net_numbers raw) cell k p i x b

pub at_or_past : {A : Type 0} (xs : List A) (i : ℕ) → ((x : A) × At xs i x) ⊎ (length xs ≤ i)
at_or_past [] i = inr (omega arith)
at_or_past (x ∷ xs) zero = inl (x, refl)
at_or_past (x ∷ xs) (suc i) = elim (at_or_past xs i) [ inl a ↦ inl (a.0, a.1) | inr l ↦ inr (omega arith) ]

-- an output bit of the netlist is a net number of a cell's output
record OutputIs (raw : Raw) (c p i b : ℕ) : Type 0 where
  cell : RawCell
  kind : Kind
  is : CellIs raw c cell kind
  number : ℕ
  bit : OutputBit cell kind p i number
  place : place_of (net_numbers raw) number ≡ b

target_is : (ns : List ℕ) (bit : RawBit) (b : ℕ) → target ns bit ≡ Some b → (x : ℕ) × (bit ≡ Net x) × (place_of ns x ≡ b)
target_is ns (Net x) b h = (x, refl, (cc))
target_is ns Zero b h = absurd (cc)
target_is ns One b h = absurd (cc)
target_is ns X b h = absurd (cc)
target_is ns Z b h = absurd (cc)

output_in_row : (raw : Raw) (c p i b : ℕ) (cell : RawCell) (k : Kind) (r : PortRow) → CellIs raw c cell k → At (outputs_of k) p r → get_or (map (target (net_numbers raw)) (port_bits cell r)) i None ≡ Some b → OutputIs raw c p i b
output_in_row raw c p i b cell k r is at h =
    let found = At-from_map (target (net_numbers raw)) (port_bits cell r) i (Some b) None (λ e. absurd (cc)) h in
    let net = target_is (net_numbers raw) found.0 b found.2 in
    record { cell = cell; kind = k; is = is; number = net.0; bit = record { row = r; at_row = at; at_bit = rw (← net.1) found.1 }; place = net.2 }

output_in_cell : (raw : Raw) (c p i b : ℕ) (cell : RawCell) (o : Option Kind) → At raw.cells c cell → kind_of cell.kind ≡ o → output_at (cell_by (net_numbers raw) cell o) p i ≡ Some b → OutputIs raw c p i b
output_in_cell raw c p i b cell None at e h = absurd (cc)
output_in_cell raw c p i b cell (Some k) at e h = elim (at_or_past (outputs_of k) p) [
  | inl a ↦ output_in_row raw c p i b cell k a.0 (record { at_cell = at; is_kind = e }) a.1 (ap (λ (os : List (Option ℕ)). get_or os i None) (sym (At-map (λ (r : PortRow). map (target (net_numbers raw)) (port_bits cell r)) (outputs_of k) p a.0 [] a.1)) ∙ h)
  | inr l ↦ absurd (let past : get_or (map (λ (r : PortRow). map (target (net_numbers raw)) (port_bits cell r)) (outputs_of k)) p [] ≡ [] = get_or_past (map (λ (r : PortRow). map (target (net_numbers raw)) (port_bits cell r)) (outputs_of k)) p [] (omega (arith, length-map (outputs_of k) (λ (r : PortRow). map (target (net_numbers raw)) (port_bits cell r)))) in
      let none : get_or (get_or (map (λ (r : PortRow). map (target (net_numbers raw)) (port_bits cell r)) (outputs_of k)) p []) i None ≡ None = ap (λ (os : List (Option ℕ)). get_or os i None) past in
      let some : get_or (get_or (map (λ (r : PortRow). map (target (net_numbers raw)) (port_bits cell r)) (outputs_of k)) p []) i None ≡ Some b = h in
      cc)
]

output_is : (raw : Raw) (c p i b : ℕ) → output_at (cell_at (netlist_of raw) c) p i ≡ Some b → OutputIs raw c p i b
unfolding netlist_of cell_of
output_is raw c p i b h = elim (at_or_past raw.cells c) [
  | inl a ↦ output_in_cell raw c p i b a.0 (kind_of a.0.kind) a.1 refl (ap (λ (d : Cell). output_at d p i) (sym (At-map (cell_of (net_numbers raw)) raw.cells c a.0 no_cell a.1)) ∙ h)
  | inr l ↦ absurd (let past : cell_at (netlist_of raw) c ≡ no_cell = get_or_past (map (cell_of (net_numbers raw)) raw.cells) c no_cell (omega (arith, length-map raw.cells (cell_of (net_numbers raw)))) in
      let none : output_at (cell_at (netlist_of raw) c) p i ≡ None = ap (λ (d : Cell). output_at d p i) past in
      cc)
]

-- ---- registers and memories have one output

kept_bit : (raw : Raw) (c i x : ℕ) (cell : RawCell) (k : Kind) → CellIs raw c cell k → is_kept (role_of k) ≡ true → At (output_bits cell) i (Net x) → OutputBit cell k 0 i x
kept_bit raw c i x cell k is e h =
    let s = single_row k e in
    record { row = s.0; at_row = At-subst (s.0 ∷ []) (outputs_of k) 0 s.0 (sym s.1) refl; at_bit = At-subst (output_bits cell) (port_bits cell s.0) i (Net x) (one_output cell k s.0 is.is_kind s.1) h }

bit_kept : (raw : Raw) (c i x : ℕ) (cell : RawCell) (k : Kind) → CellIs raw c cell k → is_kept (role_of k) ≡ true → OutputBit cell k 0 i x → At (output_bits cell) i (Net x)
bit_kept raw c i x cell k is e b =
    let s = single_row k e in
    let same : s.0 ≡ b.row = At-subst (outputs_of k) (s.0 ∷ []) 0 b.row s.1 b.at_row in
    At-subst (port_bits cell b.row) (output_bits cell) i (Net x) (ap (port_bits cell) (sym same) ∙ sym (one_output cell k s.0 is.is_kind s.1)) b.at_bit

register_kept : (k : Kind) → (role_of k ≡ PlainRegister) ⊎ (role_of k ≡ ResetRegister) → is_kept (role_of k) ≡ true
register_kept k (inl e) = ap is_kept e
register_kept k (inr e) = ap is_kept e

-- ---- the width of a memory's words

pub memory_kind : (k : Kind) → role_of k ≡ MemoryBlock → k ≡ Mem
memory_kind Mem e = refl
memory_kind _ e = absurd (cc)

pub first_given : (o : Option ℕ) (w : ℕ) (rest : List (Param × ℕ)) → o ≡ Some w → number_in (cons_option (option_map (λ x. (Width, x)) o) rest) Width ≡ w
first_given None w rest e = absurd (cc)
first_given (Some v) w rest e = (cc)

pub width_by_given : (ns : List ℕ) (cell : RawCell) (o : Option ℕ) → number_given cell Width ≡ o → 0 < unwrap_or o 0 → width (cell_by ns cell (Some Mem)) ≡ unwrap_or o 0
unfolding parameters_of
width_by_given ns cell None e h = absurd (omega arith)
width_by_given ns cell (Some w) e h = first_given (number_given cell Width) w (numbers_of cell (Size ∷ Offset ∷ Abits ∷ RdPorts ∷ WrPorts ∷ [])) e

width_is : (raw : Raw) (c : ℕ) (cell : RawCell) (k : Kind) → CellIs raw c cell k → role_of k ≡ MemoryBlock → 0 < word_width cell → width (cell_at (netlist_of raw) c) ≡ word_width cell
width_is raw c cell k is e h =
    ap width (cell_is raw c cell k is) ∙ ap (λ (q : Kind). width (cell_by (net_numbers raw) cell (Some q))) (memory_kind k e) ∙ width_by_given (net_numbers raw) cell (number_given cell Width) refl h

-- ---- drivers

record Drives (raw : Raw) (b : ℕ) (d : Driver) : Type 0 where
  number : ℕ
  at : At (net_numbers raw) b number
  has : Has (driven raw) (number, d)

by_option : (raw : Raw) (x : ℕ) (d : Driver) (o : Option Driver) → (Clock ≡ d → ⊥) → driver_in (driven raw) x ≡ o → unwrap_or o Clock ≡ d → Has (driven raw) (x, d)
by_option raw x d None apart e h = absurd (apart h)
by_option raw x d (Some f) apart e h = Has-driver (driven raw) x d (e ∙ ap (λ (g : Driver). Some g) h)

by_clock : (raw : Raw) (x : ℕ) (d : Driver) (b : Bool) → (Clock ≡ d → ⊥) → cond b Clock (unwrap_or (driver_in (driven raw) x) Clock) ≡ d → Has (driven raw) (x, d)
by_clock raw x d true apart h = absurd (apart h)
by_clock raw x d false apart h = by_option raw x d (driver_in (driven raw) x) apart refl h

-- what drives a number, but for the clock, stands at a place that drives it
pub has_driver : (raw : Raw) (x : ℕ) (d : Driver) → (Clock ≡ d → ⊥) → driver_of_number raw x ≡ d → Has (driven raw) (x, d)
has_driver raw x d apart h = by_clock raw x d (is_clock raw x) apart h

driver_is : (raw : Raw) (b : ℕ) (d : Driver) → (Clock ≡ d → ⊥) → driver_of (netlist_of raw) b ≡ d → Drives raw b d
unfolding netlist_of
driver_is raw b d apart h =
    let found = At-from_map (driver_of_number raw) (net_numbers raw) b d Clock apart h in
    record { number = found.0; at = found.1; has = has_driver raw found.0 d apart found.2 }

pub no_clock : (raw : Raw) (x : ℕ) (d : Driver) (b : Bool) → Passed raw → Has (net_numbers raw) x → ((p : ℕ) → d ≡ Input p 0 → ⊥) → Has (driven raw) (x, d) → is_clock raw x ≡ b → b ≡ false
no_clock raw x d false s n apart h e = refl
no_clock raw x d true s n apart h e =
    let input = clock_is_input raw x e s.clocks in
    let once = driven_once raw x s.drivers n in
    let one : driver_in (driven raw) x ≡ Some d = driver_once (driven raw) x d once h in
    let two : driver_in (driven raw) x ≡ Some (Input input.0 0) = driver_once (driven raw) x (Input input.0 0) once input.1 in
    absurd (apart input.0 (cc))

is_driver : (raw : Raw) (b x : ℕ) (d : Driver) → Passed raw → Has (net_numbers raw) x → place_of (net_numbers raw) x ≡ b → ((p : ℕ) → d ≡ Input p 0 → ⊥) → Has (driven raw) (x, d) → driver_of (netlist_of raw) b ≡ d
unfolding netlist_of
is_driver raw b x d s n place apart h =
    let at : At (net_numbers raw) b x = At-moved (net_numbers raw) (place_of (net_numbers raw) x) b x (sym place) (At-place (net_numbers raw) x (numbers_rise raw) n) in
    let free : is_clock raw x ≡ false = no_clock raw x d (is_clock raw x) s n apart h refl in
    let one : driver_in (driven raw) x ≡ Some d = driver_once (driven raw) x d (driven_once raw x s.drivers n) h in
    At-map (driver_of_number raw) (net_numbers raw) b x Clock at
    ∙ ap (λ (c : Bool). cond c Clock (unwrap_or (driver_in (driven raw) x) Clock)) free
    ∙ ap (λ (o : Option Driver). unwrap_or o Clock) one

-- a net bit is the place of its number
pub place_is : (raw : Raw) (b x : ℕ) → At (net_numbers raw) b x → place_of (net_numbers raw) x ≡ b
place_is raw b x at = place_at (net_numbers raw) b x (numbers_rise raw) at

some_place : (raw : Raw) (b x : ℕ) → At (net_numbers raw) b x → Some (place_of (net_numbers raw) x) ≡ Some b
some_place raw b x at = ap (λ (j : ℕ). Some j) (place_is raw b x at)

-- ---- the law

input_seen : (raw : Raw) (b p i x : ℕ) → At (net_numbers raw) b x → PortBit (filter is_input raw.ports) p i x → get_or (get_or (netlist_of raw).inputs p no_wire).bits i ZeroSource ≡ Bit b
unfolding netlist_of
input_seen raw b p i x at o =
    ap (λ (w : Wire). get_or w.bits i ZeroSource) (At-map (wire_of (net_numbers raw)) (filter is_input raw.ports) p o.port no_wire o.at_port)
    ∙ At-map (source (net_numbers raw)) o.port.bits i (Net x) ZeroSource o.at_bit
    ∙ ap Bit (place_is raw b x at)

outputs_of_driver : (raw : Raw) (b c p i : ℕ) → driver_of (netlist_of raw) b ≡ Output c p i → (x : ℕ) × At (net_numbers raw) b x × OutputOf raw c p i x
outputs_of_driver raw b c p i h = (let d = driver_is raw b (Output c p i) (λ e. absurd (cc)) h in (d.number, d.at, output_driven raw c p i d.number d.has))

registers_of_driver : (raw : Raw) (b c i : ℕ) → driver_of (netlist_of raw) b ≡ Register c i → (x : ℕ) × At (net_numbers raw) b x × RegisterOf raw c i x
registers_of_driver raw b c i h = (let d = driver_is raw b (Register c i) (λ e. absurd (cc)) h in (d.number, d.at, register_driven raw c i d.number d.has))

reads_of_driver : (raw : Raw) (b c q i : ℕ) → driver_of (netlist_of raw) b ≡ Read c q i → (x : ℕ) × At (net_numbers raw) b x × ReadOf raw c q i x
reads_of_driver raw b c q i h = (let d = driver_is raw b (Read c q i) (λ e. absurd (cc)) h in (d.number, d.at, read_driven raw c q i d.number d.has))

output_role_is : (raw : Raw) (b c p i : ℕ) → driver_of (netlist_of raw) b ≡ Output c p i → role_at (netlist_of raw) c ≡ Combinational
output_role_is raw b c p i h = (let o = (outputs_of_driver raw b c p i h).2 in role_is raw c o.cell o.kind o.is ∙ o.role)

output_place_is : (raw : Raw) (b c p i : ℕ) → driver_of (netlist_of raw) b ≡ Output c p i → output_at (cell_at (netlist_of raw) c) p i ≡ Some b
output_place_is raw b c p i h =
    let found = outputs_of_driver raw b c p i h in
    let o = found.2 in
    output_seen raw c p i found.0 o.cell o.kind o.is o.bit ∙ some_place raw b found.0 found.1

register_role_is : (raw : Raw) (b c i : ℕ) → driver_of (netlist_of raw) b ≡ Register c i → (role_at (netlist_of raw) c ≡ PlainRegister) ⊎ (role_at (netlist_of raw) c ≡ ResetRegister)
register_role_is raw b c i h =
    let o = (registers_of_driver raw b c i h).2 in
    elim o.role [ inl e ↦ inl (role_is raw c o.cell o.kind o.is ∙ e) | inr e ↦ inr (role_is raw c o.cell o.kind o.is ∙ e) ]

register_place_is : (raw : Raw) (b c i : ℕ) → driver_of (netlist_of raw) b ≡ Register c i → output_at (cell_at (netlist_of raw) c) 0 i ≡ Some b
register_place_is raw b c i h =
    let found = registers_of_driver raw b c i h in
    let o = found.2 in
    output_seen raw c 0 i found.0 o.cell o.kind o.is (kept_bit raw c i found.0 o.cell o.kind o.is (register_kept o.kind o.role) o.at_bit) ∙ some_place raw b found.0 found.1

read_role_is : (raw : Raw) (b c q i : ℕ) → driver_of (netlist_of raw) b ≡ Read c q i → role_at (netlist_of raw) c ≡ MemoryBlock
read_role_is raw b c q i h = (let o = (reads_of_driver raw b c q i h).2 in role_is raw c o.cell o.kind o.is ∙ o.role)

pub same_place : (q i w n : ℕ) → q ≡ n / w → i ≡ n % w → q * w + i ≡ n
same_place q i w n p r = rw (p, r) (div-add-mod' n w)

read_place_is : (raw : Raw) (b c q i : ℕ) → Passed raw → driver_of (netlist_of raw) b ≡ Read c q i → (i < width (cell_at (netlist_of raw) c)) × (output_at (cell_at (netlist_of raw) c) 0 (q * width (cell_at (netlist_of raw) c) + i) ≡ Some b)
read_place_is raw b c q i s h =
    let found = reads_of_driver raw b c q i h in
    let o = found.2 in
    let positive : 0 < word_width o.cell = word_width_positive raw c o.cell o.kind s.cells o.is o.role in
    let wide : width (cell_at (netlist_of raw) c) ≡ word_width o.cell = width_is raw c o.cell o.kind o.is o.role positive in
    let port : q ≡ o.place / word_width o.cell = o.port in
    let index : i ≡ o.place % word_width o.cell = o.index in
    let inside : i < word_width o.cell = omega arith in
    let place : q * word_width o.cell + i ≡ o.place = same_place q i (word_width o.cell) o.place port index in
    let seen : output_at (cell_at (netlist_of raw) c) 0 o.place ≡ Some b = output_seen raw c 0 o.place found.0 o.cell o.kind o.is (kept_bit raw c o.place found.0 o.cell o.kind o.is (ap is_kept o.role) o.at_bit) ∙ some_place raw b found.0 found.1 in
    (omega arith, ap (λ (j : ℕ). output_at (cell_at (netlist_of raw) c) 0 j) (ap (λ (w : ℕ). q * w + i) wide ∙ place) ∙ seen)

input_place_is : (raw : Raw) (b p i : ℕ) → driver_of (netlist_of raw) b ≡ Input p i → get_or (get_or (netlist_of raw).inputs p no_wire).bits i ZeroSource ≡ Bit b
input_place_is raw b p i h =
    let d = driver_is raw b (Input p i) (λ e. absurd (cc)) h in
    input_seen raw b p i d.number d.at (input_driven raw p i d.number d.has)

output_drives : (raw : Raw) (c p i b : ℕ) → Passed raw → role_at (netlist_of raw) c ≡ Combinational → output_at (cell_at (netlist_of raw) c) p i ≡ Some b → driver_of (netlist_of raw) b ≡ Output c p i
output_drives raw c p i b s e h =
    let o = output_is raw c p i b h in
    is_driver raw b o.number (Output c p i) s (output_is_number raw c p i o.number o.cell o.kind o.is o.bit) o.place (λ q a. absurd (cc))
    (driven_by_output raw c p i o.number (record { cell = o.cell; kind = o.kind; is = o.is; role = sym (role_is raw c o.cell o.kind o.is) ∙ e; bit = o.bit }))

register_drives : (raw : Raw) (c i b : ℕ) → Passed raw → (role_at (netlist_of raw) c ≡ PlainRegister) ⊎ (role_at (netlist_of raw) c ≡ ResetRegister) → output_at (cell_at (netlist_of raw) c) 0 i ≡ Some b → driver_of (netlist_of raw) b ≡ Register c i
register_drives raw c i b s e h =
    let o = output_is raw c 0 i b h in
    let role : (role_of o.kind ≡ PlainRegister) ⊎ (role_of o.kind ≡ ResetRegister) = elim e [ inl a ↦ inl (sym (role_is raw c o.cell o.kind o.is) ∙ a) | inr a ↦ inr (sym (role_is raw c o.cell o.kind o.is) ∙ a) ] in
    is_driver raw b o.number (Register c i) s (output_is_number raw c 0 i o.number o.cell o.kind o.is o.bit) o.place (λ q a. absurd (cc))
    (driven_by_register raw c i o.number (record { cell = o.cell; kind = o.kind; is = o.is; role = role; at_bit = bit_kept raw c i o.number o.cell o.kind o.is (register_kept o.kind role) o.bit }))

read_drives : (raw : Raw) (c q i b : ℕ) → Passed raw → role_at (netlist_of raw) c ≡ MemoryBlock → i < width (cell_at (netlist_of raw) c) → output_at (cell_at (netlist_of raw) c) 0 (q * width (cell_at (netlist_of raw) c) + i) ≡ Some b → driver_of (netlist_of raw) b ≡ Read c q i
read_drives raw c q i b s e l h =
    let j = q * width (cell_at (netlist_of raw) c) + i in
    let o = output_is raw c 0 j b h in
    let role : role_of o.kind ≡ MemoryBlock = sym (role_is raw c o.cell o.kind o.is) ∙ e in
    let positive : 0 < word_width o.cell = word_width_positive raw c o.cell o.kind s.cells o.is role in
    let wide : width (cell_at (netlist_of raw) c) ≡ word_width o.cell = width_is raw c o.cell o.kind o.is role positive in
    let inside : i < word_width o.cell = omega arith in
    let place : j ≡ q * word_width o.cell + i = ap (λ (w : ℕ). q * w + i) wide in
    is_driver raw b o.number (Read c q i) s (output_is_number raw c 0 j o.number o.cell o.kind o.is o.bit) o.place (λ p a. absurd (cc))
    (driven_by_read raw c q i o.number (record {
      cell = o.cell;
      kind = o.kind;
      is = o.is;
      role = role;
      place = j;
      port = sym (ap (λ (k : ℕ). k / word_width o.cell) place ∙ div-mul-add q (word_width o.cell) i inside);
      index = sym (ap (λ (k : ℕ). k % word_width o.cell) place ∙ mod-mul-add q (word_width o.cell) i inside);
      at_bit = bit_kept raw c j o.number o.cell o.kind o.is (ap is_kept role) o.bit;
    }))

pub wired_if_passed : (raw : Raw) → Passed raw → IsWired (netlist_of raw)
wired_if_passed raw s = record {
  output_role = output_role_is raw;
  output_place = output_place_is raw;
  register_role = register_role_is raw;
  register_place = register_place_is raw;
  read_role = read_role_is raw;
  read_place = λ b c q i e. read_place_is raw b c q i s e;
  input_place = input_place_is raw;
  by_output = λ c p i b e f. output_drives raw c p i b s e f;
  by_register = λ c i b e f. register_drives raw c i b s e f;
  by_read = λ c q i b e l f. read_drives raw c q i b s e l f;
}

pub wired : (raw : Raw) → IsAccepted raw → IsWired (netlist_of raw)
wired raw h = wired_if_passed raw (passed raw h)
