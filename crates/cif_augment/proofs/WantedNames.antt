-- What is wanted by the wires and cells of a netlist is what is wanted by the ports and cells of its module.
use Rattle.std.specs.Prelude.{ℕ, nat_lt, ◌≡◌, Bool, true, false, not, ◌&&◌, ◌||◌, ◌==◌, List, [], ◌∷◌, ◌++◌, map, filter, length, Option, Some, None, unwrap_or, refl, IsPermutation}
use Rattle.std.specs.List.{list_any, flat_map}
use Rattle.std.proofs.Common.{sym, ap, ◌∙◌, cond, subst, inl, inr}
use Rattle.std.proofs.lemmas.List.{map-append}
use Rattle.std.proofs.lemmas.List.Sorted.{IsPermutation-filter_both, IsPermutation-map, IsPermutation-append_left, IsPermutation-trans}
use Rattle.cif_defs.specs.Kinds.{role_of, is_register, is_memory}
use Rattle.cif_defs.specs.Table.{kind_of, parameters_of}
use Rattle.cif_defs.specs.RawModule.{net_numbers}
use Rattle.cif_defs.specs.Cells.{Cell, number_of}
use Rattle.cif_defs.specs.Accepted.{cell_by, cell_of, driven, driver_in, driver_of_number, is_clock, is_input, is_output, netlist_of, source, wire_of}
use Rattle.cif_defs.specs.declared.kinds.Kind.{Kind}
use Rattle.cif_defs.specs.declared.kinds.Kind.TheVariants.{Mem}
use Rattle.cif_defs.specs.declared.kinds.Param.TheVariants.{WrPorts}
use Rattle.cif_defs.specs.declared.nets.Driver.{Driver}
use Rattle.cif_defs.specs.declared.nets.Driver.TheVariants.{Clock}
use Rattle.cif_defs.specs.declared.nets.Wire.{Wire}
use Rattle.cif_defs.specs.declared.raw_module.Direction.{Direction}
use Rattle.cif_defs.specs.declared.raw_module.Direction.TheVariants.{Input as InputPort, Output as OutputPort, Inout}
use Rattle.cif_defs.specs.declared.raw_module.RawBit.{RawBit}
use Rattle.cif_defs.specs.declared.raw_module.RawBit.TheVariants.{Net, Zero, One, X, Z}
use Rattle.cif_defs.specs.declared.raw_module.RawPort.{RawPort}
use Rattle.cif_defs.specs.declared.raw_module.RawCell.{RawCell}
use Rattle.cif_defs.specs.declared.raw_module.Raw.{Raw}
use Rattle.cif_checks.specs.Checks.{◌else_by◌, fault_if, first_fault, cell_fault, cell_fault_by, form_fault, ports_fault, ports_fault_from, port_fault, port_limit, seen_after, input_fault, is_inout, drivers_fault, clocks_fault, reads_fault, inits_fault, number_or_0, IsAccepted, IsWellFormed}
use Rattle.cif_checks.specs.declared.fault.BuildFault.TheVariants.{InoutPort, ZeroWidth, WidthLimit}
use Rattle.cif_checks.specs.declared.fault.Spot.TheVariants.{Port}
use Rattle.cif_nets.proofs.Places.{At-has, Has, Has-unfilter}
use Rattle.cif_nets.proofs.Passed.{first_passes, next_passes, test_passes, passed}
use Rattle.cif_cells.proofs.CountLaws.{accepted_apart}
use Rattle.cif_cells.proofs.FittedCells.{number_kept}
use Rattle.cif_stimulus.specs.Fitting.{is_clock_driver, is_clock_source}
use Rattle.cif_raw_runs.proofs.Numbers.{contained_has, number_of_port}
use Rattle.cif_raw_runs.proofs.Drivers.{own_driver}
use Rattle.cif_raw_runs.proofs.ClockAlone.{only_clock}
use Rattle.cif_augment.specs.Names.{taint_name, stored_name, flag_name, data_ports, is_clock_bit, is_data_port, is_reset_register}
use Rattle.cif_augment.specs.Refusals.{name_if, wanted_for, wanted_names}
use Rattle.cif_augment.specs.Taken.{is_data_wire, wanted_for_cell, wanted_for_wires, wanted_of}

same_test : (p q : Bool) → (p ≡ true → q ≡ true) → (q ≡ true → p ≡ true) → p ≡ q
same_test true q f g = sym (f refl)
same_test false true f g = g refl
same_test false false f g = refl

-- ---- cells

flags_alike : (ns : List ℕ) (c : RawCell) (k : Kind) → (is_memory (role_of k) && nat_lt 0 (number_of (cell_by ns c (Some k)) WrPorts)) ≡ (is_memory (role_of k) && nat_lt 0 (number_or_0 c WrPorts))
unfolding parameters_of
flags_alike ns c Mem = ap (nat_lt 0) (number_kept ns c Mem WrPorts refl)
flags_alike ns c _ = refl

cell_by_kind : (ns : List ℕ) (c : RawCell) (o : Option Kind) → kind_of c.kind ≡ o → cell_fault_by c o ≡ None → wanted_for_cell (cell_by ns c o) ≡ wanted_for c
cell_by_kind ns c None e h = absurd (cc)
cell_by_kind ns c (Some k) e h = rw e at_kind where
  at_kind : wanted_for_cell (cell_by ns c (Some k))
      ≡ name_if (is_register (role_of k) || is_memory (role_of k)) (taint_name c.name) ++ name_if (is_reset_register (role_of k)) (stored_name c.name) ++ name_if (is_memory (role_of k) && nat_lt 0 (number_or_0 c WrPorts)) (flag_name c.name)
  at_kind = ap (λ b. name_if (is_register (role_of k) || is_memory (role_of k)) (taint_name c.name) ++ name_if (is_reset_register (role_of k)) (stored_name c.name) ++ name_if b (flag_name c.name)) (flags_alike ns c k)

cell_wants : (ns : List ℕ) (c : RawCell) → cell_fault c ≡ None → wanted_for_cell (cell_of ns c) ≡ wanted_for c
unfolding cell_of cell_fault
cell_wants ns c h = cell_by_kind ns c (kind_of c.kind) refl h

cells_want : (ns : List ℕ) (cells : List RawCell) → first_fault cell_fault cells ≡ None → flat_map wanted_for_cell (map (cell_of ns) cells) ≡ flat_map wanted_for cells
cells_want ns [] h = refl
cells_want ns (c ∷ cells) h =
    ap (λ (names : List (List ℕ)). names ++ flat_map wanted_for_cell (map (cell_of ns) cells)) (cell_wants ns c (first_passes (cell_fault c) (first_fault cell_fault cells) h))
    ∙ ap (λ (names : List (List ℕ)). wanted_for c ++ names) (cells_want ns cells (next_passes (cell_fault c) (first_fault cell_fault cells) h))

-- ---- the clock

clock_alone : (d : Driver) → is_clock_driver d ≡ true → d ≡ Clock
clock_alone Clock h = refl
clock_alone _ h = absurd (cc)

-- a net number is the clock where the clock drives it
number_is_clock : (raw : Raw) (x : ℕ) → IsWellFormed raw → Has (net_numbers raw) x → is_clock_driver (driver_of_number raw x) ≡ is_clock raw x
number_is_clock raw x h has =
    same_test (is_clock_driver (driver_of_number raw x)) (is_clock raw x)
    (λ e. only_clock raw x h (contained_has (net_numbers raw) x has) (clock_alone (driver_of_number raw x) e))
    (λ e. ap (λ b. is_clock_driver (cond b Clock (unwrap_or (driver_in (driven raw) x) Clock))) e)

bit_is_clock : (raw : Raw) (b : RawBit) → IsWellFormed raw → ((x : ℕ) → b ≡ Net x → Has (net_numbers raw) x) → is_clock_source (netlist_of raw) (source (net_numbers raw) b) ≡ is_clock_bit raw b
bit_is_clock raw (Net x) h has = ap is_clock_driver (own_driver raw x (has x refl)) ∙ number_is_clock raw x h (has x refl)
bit_is_clock raw Zero h has = refl
bit_is_clock raw One h has = refl
bit_is_clock raw X h has = refl
bit_is_clock raw Z h has = refl

bits_are_clock : (raw : Raw) (bits : List RawBit) → IsWellFormed raw → ((x : ℕ) → Has bits (Net x) → Has (net_numbers raw) x) → list_any (is_clock_source (netlist_of raw)) (map (source (net_numbers raw)) bits) ≡ list_any (is_clock_bit raw) bits
bits_are_clock raw [] h has = refl
bits_are_clock raw (b ∷ bits) h has =
    ap (λ t. t || list_any (is_clock_source (netlist_of raw)) (map (source (net_numbers raw)) bits)) (bit_is_clock raw b h (λ x e. has x (inl e)))
    ∙ ap (λ t. is_clock_bit raw b || t) (bits_are_clock raw bits h (λ x k. has x (inr k)))

-- ---- ports

port_is_data : (raw : Raw) (p : RawPort) → IsWellFormed raw → Has raw.ports p → is_data_wire (netlist_of raw) (wire_of (net_numbers raw) p) ≡ is_data_port raw p
port_is_data raw p h at = ap not (bits_are_clock raw p.bits h (λ x k.
    let q = At-has raw.ports p at in
    let i = At-has p.bits (Net x) k in number_of_port raw q.0 i.0 p x q.1 i.1))

abbrev taint_names : List RawPort → List (List ℕ)
taint_names ports = map (λ (p : RawPort). taint_name p.name) ports

wire_step : (p : RawPort) (rest : List RawPort) (names : List (List ℕ)) (b : Bool) → names ≡ taint_names rest → name_if b (taint_name p.name) ++ names ≡ taint_names (cond b (p ∷ rest) rest)
wire_step p rest names true h = ap (λ (ns : List (List ℕ)). taint_name p.name ∷ ns) h
wire_step p rest names false h = h

wires_want : (raw : Raw) (ports : List RawPort) → IsWellFormed raw → ((p : RawPort) → Has ports p → Has raw.ports p) → wanted_for_wires (netlist_of raw) (map (wire_of (net_numbers raw)) ports) ≡ taint_names (filter (is_data_port raw) ports)
wires_want raw [] h within = refl
wires_want raw (p ∷ ports) h within =
    ap (λ b. name_if b (taint_name p.name) ++ wanted_for_wires (netlist_of raw) (map (wire_of (net_numbers raw)) ports)) (port_is_data raw p h (within p (inl refl)))
    ∙ wire_step p (filter (is_data_port raw) ports) (wanted_for_wires (netlist_of raw) (map (wire_of (net_numbers raw)) ports)) (is_data_port raw p) (wires_want raw ports h (λ q k. within q (inr k)))

-- ---- inputs and outputs

abbrev is_no_input : RawPort → Bool
is_no_input p = not (is_input p)

one_way : (p : RawPort) (d : Direction) → p.direction ≡ d → is_inout d ≡ false → is_no_input p ≡ is_output p
one_way p InputPort e h = ap (λ (d : Direction). is_no_input (record p { direction = d })) e ∙ sym (ap (λ (d : Direction). is_output (record p { direction = d })) e)
one_way p OutputPort e h = ap (λ (d : Direction). is_no_input (record p { direction = d })) e ∙ sym (ap (λ (d : Direction). is_output (record p { direction = d })) e)
one_way p Inout e h = absurd (cc)

port_passes : (seen : List ℕ) (p : RawPort) → port_fault seen p ≡ None → is_no_input p ≡ is_output p
port_passes seen p h =
    let one = fault_if (is_inout p.direction) (InoutPort p.name) in
    let two = one else_by fault_if (length p.bits == 0) (ZeroWidth (Port p.name)) in
    let three = two else_by fault_if (nat_lt port_limit (length p.bits)) (WidthLimit (Port p.name)) in
    one_way p p.direction refl (test_passes (is_inout p.direction) (InoutPort p.name)
    (first_passes one (fault_if (length p.bits == 0) (ZeroWidth (Port p.name)))
    (first_passes two (fault_if (nat_lt port_limit (length p.bits)) (WidthLimit (Port p.name)))
    (first_passes three (input_fault seen p) h))))

outputs_are : (seen : List ℕ) (ports : List RawPort) → ports_fault_from seen ports ≡ None → filter is_no_input ports ≡ filter is_output ports
outputs_are seen [] h = refl
outputs_are seen (p ∷ ports) h =
    ap (λ b. cond b (p ∷ filter is_no_input ports) (filter is_no_input ports)) (port_passes seen p (first_passes (port_fault seen p) (ports_fault_from (seen_after seen p) ports) h))
    ∙ ap (λ (ps : List RawPort). cond (is_output p) (p ∷ ps) ps) (outputs_are (seen_after seen p) ports (next_passes (port_fault seen p) (ports_fault_from (seen_after seen p) ports) h))

ports_pass : (raw : Raw) → IsWellFormed raw → ports_fault raw ≡ None
unfolding form_fault
ports_pass raw h =
    let two = ports_fault raw else_by first_fault cell_fault raw.cells in
    let three = two else_by drivers_fault raw in
    let four = three else_by clocks_fault raw in
    let five = four else_by reads_fault raw in
    first_passes (ports_fault raw) (first_fault cell_fault raw.cells) (first_passes two (drivers_fault raw) (first_passes three (clocks_fault raw) (first_passes four (reads_fault raw) (first_passes five (inits_fault raw) h))))

outputs_of_module : (raw : Raw) → IsWellFormed raw → filter is_no_input raw.ports ≡ filter is_output raw.ports
unfolding ports_fault
outputs_of_module raw h = outputs_are [] raw.ports (ports_pass raw h)

swap_step : {A : Type 0} (p q : A → Bool) (x : A) (xs : List A) (a b : Bool) → p x ≡ a → q x ≡ b → filter p (filter q xs) ≡ filter q (filter p xs) → filter p (cond b (x ∷ filter q xs) (filter q xs)) ≡ filter q (cond a (x ∷ filter p xs) (filter p xs))
swap_step p q x xs true true e f h = simp (e, f) (ap (λ ys. x ∷ ys) h)
swap_step p q x xs true false e f h = simp f h
swap_step p q x xs false true e f h = simp e h
swap_step p q x xs false false e f h = h

filter_swap : {A : Type 0} (p q : A → Bool) (xs : List A) → filter p (filter q xs) ≡ filter q (filter p xs)
filter_swap p q [] = refl
filter_swap p q (x ∷ xs) = swap_step p q x xs (p x) (q x) refl refl (filter_swap p q xs)

-- ---- all that is wanted

module _ (raw : Raw) (formed : IsWellFormed raw) where
  ports_want : wanted_for_wires (netlist_of raw) (netlist_of raw).inputs ++ wanted_for_wires (netlist_of raw) (netlist_of raw).outputs
      ≡ taint_names (filter is_input (data_ports raw) ++ filter is_no_input (data_ports raw))
  unfolding netlist_of data_ports
  ports_want =
      ap (λ (names : List (List ℕ)). names ++ wanted_for_wires (netlist_of raw) (netlist_of raw).outputs) (wires_want raw (filter is_input raw.ports) formed (λ p k. Has-unfilter is_input raw.ports p k))
      ∙ ap (λ (names : List (List ℕ)). taint_names (filter (is_data_port raw) (filter is_input raw.ports)) ++ names) (wires_want raw (filter is_output raw.ports) formed (λ p k. Has-unfilter is_output raw.ports p k))
      ∙ ap (λ (ps : List RawPort). taint_names (filter (is_data_port raw) (filter is_input raw.ports)) ++ taint_names (filter (is_data_port raw) ps)) (sym (outputs_of_module raw formed))
      ∙ ap (λ (ps : List RawPort). taint_names ps ++ taint_names (filter (is_data_port raw) (filter is_no_input raw.ports))) (filter_swap (is_data_port raw) is_input raw.ports)
      ∙ ap (λ (ps : List RawPort). taint_names (filter is_input (filter (is_data_port raw) raw.ports)) ++ taint_names ps) (filter_swap (is_data_port raw) is_no_input raw.ports)
      ∙ sym (map-append (λ (p : RawPort). taint_name p.name) (filter is_input (filter (is_data_port raw) raw.ports)) (filter is_no_input (filter (is_data_port raw) raw.ports)))

  cells_want_all : (accepted : first_fault cell_fault raw.cells ≡ None) → flat_map wanted_for_cell (netlist_of raw).cells ≡ flat_map wanted_for raw.cells
  unfolding netlist_of
  cells_want_all accepted = cells_want (net_numbers raw) raw.cells accepted

  same_wanted : first_fault cell_fault raw.cells ≡ None → IsPermutation (wanted_names raw) (wanted_of (netlist_of raw))
  unfolding wanted_names
  same_wanted cells =
      let moved : IsPermutation (taint_names (data_ports raw)) (taint_names (filter is_input (data_ports raw) ++ filter is_no_input (data_ports raw))) =
      IsPermutation-map (λ (p : RawPort). taint_name p.name) (data_ports raw) (filter is_input (data_ports raw) ++ filter is_no_input (data_ports raw)) (IsPermutation-filter_both is_input is_no_input (λ p. refl) (data_ports raw)) in
      let both = IsPermutation-append_left (flat_map wanted_for raw.cells) (taint_names (data_ports raw)) (taint_names (filter is_input (data_ports raw) ++ filter is_no_input (data_ports raw))) moved in
      let same : taint_names (filter is_input (data_ports raw) ++ filter is_no_input (data_ports raw)) ++ flat_map wanted_for raw.cells ≡ wanted_of (netlist_of raw) =
      ap (λ (names : List (List ℕ)). names ++ flat_map wanted_for raw.cells) (sym ports_want)
      ∙ ap (λ (names : List (List ℕ)). wanted_for_wires (netlist_of raw) (netlist_of raw).inputs ++ wanted_for_wires (netlist_of raw) (netlist_of raw).outputs ++ names) (sym (cells_want_all cells)) in
      subst (λ (names : List (List ℕ)). IsPermutation (taint_names (data_ports raw) ++ flat_map wanted_for raw.cells) names) same both

-- the names that are wanted, in another order
pub wanted_moved : (raw : Raw) → IsAccepted raw → IsPermutation (wanted_names raw) (wanted_of (netlist_of raw))
wanted_moved raw h = same_wanted raw ((accepted_apart raw).0 h).1 (passed raw h).cells

-- what was gathered, and then sorted
pub gathered : (raw : Raw) (ins outs : List Wire) (cells : List Cell) (a b c d e : List (List ℕ)) → IsAccepted raw → ins ≡ (netlist_of raw).inputs → outs ≡ (netlist_of raw).outputs → cells ≡ (netlist_of raw).cells
    → a ≡ [] → b ≡ a ++ wanted_for_wires (netlist_of raw) ins → c ≡ b ++ wanted_for_wires (netlist_of raw) outs → d ≡ c ++ flat_map wanted_for_cell cells → IsPermutation d e → IsPermutation (wanted_names raw) e
gathered raw ins outs cells a b c d e h is_ins is_outs is_cells is_a is_b is_c is_d moved =
    let first : b ≡ wanted_for_wires (netlist_of raw) (netlist_of raw).inputs = is_b ∙ ap (λ (l : List (List ℕ)). l ++ wanted_for_wires (netlist_of raw) ins) is_a ∙ ap (wanted_for_wires (netlist_of raw)) is_ins in
    let second : c ≡ wanted_for_wires (netlist_of raw) (netlist_of raw).inputs ++ wanted_for_wires (netlist_of raw) (netlist_of raw).outputs =
    is_c ∙ ap (λ (l : List (List ℕ)). l ++ wanted_for_wires (netlist_of raw) outs) first ∙ ap (λ (ws : List Wire). wanted_for_wires (netlist_of raw) (netlist_of raw).inputs ++ wanted_for_wires (netlist_of raw) ws) is_outs in
    let all : d ≡ wanted_of (netlist_of raw) =
    is_d ∙ ap (λ (l : List (List ℕ)). l ++ flat_map wanted_for_cell cells) second
    ∙ ap (λ (cs : List Cell). wanted_for_wires (netlist_of raw) (netlist_of raw).inputs ++ wanted_for_wires (netlist_of raw) (netlist_of raw).outputs ++ flat_map wanted_for_cell cs) is_cells in
    IsPermutation-trans (wanted_names raw) (wanted_of (netlist_of raw)) e (wanted_moved raw h) (subst (λ (l : List (List ℕ)). IsPermutation l e) all moved)
