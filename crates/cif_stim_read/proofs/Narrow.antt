-- An accepted module's ports, registers and memories aren't wide.
use Rattle.std.specs.Prelude.{ℕ, zero, suc, ◌<◌, ◌≤◌, ◌≡◌, ◌≢◌, nat_lt, Bool, true, false, ◌||◌, List, [], ◌∷◌, map, filter, length, get_or, bytes_eq, Option, Some, None, option_and_then, option_map, refl}
use Rattle.std.specs.List.{find, list_any}
use Rattle.std.proofs.Common.{arith, sym, ap, subst, ◌∙◌, inl, inr, cond, if◌then◌else◌}
use Rattle.std.proofs.lemmas.Bool.{false≢true, ltb-false}
use Rattle.std.proofs.lemmas.List.{length-map}
use Rattle.std.proofs.lemmas.Bool.Decides.{nat_tests}
use Rattle.cif_defs.specs.Cells.{Cell, width, number_of}
use Rattle.cif_defs.specs.Fitted.{IsFitted, AllWithin}
use Rattle.cif_defs.specs.Kinds.{role_of, is_register, is_memory}
use Rattle.cif_defs.specs.Table.{parameters_of, operands_of, outputs_of, clocks_of, ports_of, kind_of}
use Rattle.cif_defs.specs.declared.kinds.CellPort.TheVariants.{Q, WrEn}
use Rattle.cif_defs.specs.declared.kinds.Kind.{Kind}
use Rattle.cif_defs.specs.declared.kinds.Kind.TheVariants.{Dff, Dffe, Sdff, Sdffe, Sdffce, Adff, Adffe, Mem}
use Rattle.cif_defs.specs.declared.kinds.Param.TheVariants.{Width, WrPorts}
use Rattle.cif_defs.specs.declared.kinds.PortWidth.TheVariants.{Product}
use Rattle.cif_defs.specs.declared.kinds.Role.{Role}
use Rattle.cif_defs.specs.declared.nets.Wire.{Wire}
use Rattle.cif_defs.specs.declared.raw_module.RawCell.{RawCell}
use Rattle.cif_defs.specs.Netlist.{Netlist, no_wire, no_cell, cell_at}
use Rattle.cif_defs.specs.Accepted.{netlist_of, is_input, wire_of, source, cell_by, cell_of}
use Rattle.cif_defs.specs.RawModule.{net_numbers}
use Rattle.cif_defs.specs.declared.raw_module.RawPort.{RawPort}
use Rattle.cif_defs.specs.declared.raw_module.Raw.{Raw}
use Rattle.cif_checks.specs.Checks.{◌else_by◌, fault_if, first_fault, build_fault, ports_fault, ports_fault_from, port_fault, seen_after, cell_fault, cell_fault_by, known_cell_fault, parameters_fault, memory_form, zero_width, too_wide, missing_port, wrong_width, constant_output, number_or_0, IsAccepted}
use Rattle.cif_checks.proofs.CellChecks.{limit_small}
use Rattle.cif_cells.proofs.FittedCells.{fitted}
use Rattle.cif_nets.proofs.InitLaws.{number_is}
use Rattle.cif_nets.proofs.Passed.{first_passes, next_passes, test_passes, each_passes, passed}
use Rattle.cif_stimulus.specs.Fitting.{register_named, memory_named, settable, is_clock_source}
use Rattle.std.proofs.lemmas.Slice.Eq.{bytes_eq-Decides}
use Rattle.cif_defs.specs.declared.raw_module.RawBit.{RawBit}
use Rattle.cif_cells.specs.Finding.{a_wire, found_as, found_of, wire_if, are_two_valued, bits_under, all_named}
use Rattle.cif_stimulus.proofs.NamePlaces.{found_place}
use Rattle.cif_checks.specs.declared.fault.BuildFault.{BuildFault}

first_none : (a b : Option BuildFault) → (a else_by b) ≡ None → a ≡ None
first_none None b h = refl
first_none (Some f) b h = absurd (cc)

second_none : (a b : Option BuildFault) → (a else_by b) ≡ None → b ≡ None
second_none None b h = h
second_none (Some f) b h = absurd (cc)

not_faulty : (b : Bool) (f : BuildFault) → fault_if b f ≡ None → b ≡ false
not_faulty true f h = absurd (cc)
not_faulty false f h = refl

narrow_port : (seen : List ℕ) (p : RawPort) → port_fault seen p ≡ None → length p.bits ≤ 4096
narrow_port seen p h = ltb-false 4096 (length p.bits) (not_faulty (nat_lt 4096 (length p.bits)) _ (second_none _ _ (first_none _ _ h)))

-- the ports that a test keeps
narrow_kept : (ns : List ℕ) (p : RawPort) (ps : List RawPort) (kept : Bool) (k : ℕ) → length p.bits ≤ 4096 → ((j : ℕ) → length (get_or (map (wire_of ns) (filter is_input ps)) j no_wire).bits ≤ 4096) → length (get_or (map (wire_of ns) (cond kept (p ∷ filter is_input ps) (filter is_input ps))) k no_wire).bits ≤ 4096
narrow_kept ns p ps true zero h rest = (let e : length (map (source ns) p.bits) ≡ length p.bits = simp length-map in omega arith)
narrow_kept ns p ps true (suc k) h rest = rest k
narrow_kept ns p ps false k h rest = rest k

narrow_from : (ns seen : List ℕ) (ps : List RawPort) → ports_fault_from seen ps ≡ None → (k : ℕ) → length (get_or (map (wire_of ns) (filter is_input ps)) k no_wire).bits ≤ 4096
narrow_from ns seen [] h k = omega arith
narrow_from ns seen (p ∷ ps) h k =
    narrow_kept ns p ps (is_input p) k (narrow_port seen p (first_none _ _ h)) (narrow_from ns (seen_after seen p) ps (second_none _ _ h))

ports_pass : (raw : Raw) → IsAccepted raw → ports_fault raw ≡ None
unfolding build_fault
ports_pass raw h = second_none _ _ (first_none _ _ (first_none _ _ (first_none _ _ (first_none _ _ (first_none _ _ h)))))

pub narrow : (raw : Raw) → IsAccepted raw → (k : ℕ) → length (get_or (netlist_of raw).inputs k no_wire).bits ≤ 4096
unfolding netlist_of ports_fault
narrow raw h k = narrow_from (net_numbers raw) [] raw.ports (ports_pass raw h) k

-- ---- what is found by name

sorted_by : (has_role : Role → Bool) (x c : Cell) (s : Bool) → has_role (role_of x.kind) ≡ s → Some c ≡ (if s then Some x else None) → (x ≡ c) × (has_role (role_of c.kind) ≡ true)
sorted_by has_role x c true e h = (let same : x ≡ c = cc in (same, ap (λ (y : Cell). has_role (role_of y.kind)) (sym same) ∙ e))
sorted_by has_role x c false e h = absurd (cc)

cell_found : (has_role : Role → Bool) (o : Option Cell) (c : Cell) → Some c ≡ option_and_then (λ (x : Cell). if has_role (role_of x.kind) then Some x else None) o → (o ≡ Some c) × (has_role (role_of c.kind) ≡ true)
cell_found has_role None c h = absurd (cc)
cell_found has_role (Some x) c h = (let k = sorted_by has_role x c (has_role (role_of x.kind)) refl h in (ap (λ (y : Cell). Some y) k.0, k.1))

port_by : (x w : Wire) (s : Bool) → Some w ≡ (if s then None else Some x) → x ≡ w
port_by x w true h = absurd (cc)
port_by x w false h = cc

port_found : (n : Netlist) (o : Option Wire) (w : Wire) → Some w ≡ option_and_then (λ (x : Wire). if list_any (is_clock_source n) x.bits then None else Some x) o → o ≡ Some w
port_found n None w h = absurd (cc)
port_found n (Some x) w h = ap (λ (y : Wire). Some y) (port_by x w (list_any (is_clock_source n) x.bits) h)

-- ---- ports

pub port_small : (raw : Raw) (name : List ℕ) (w : Wire) → IsAccepted raw → Some w ≡ settable (netlist_of raw) name → length w.bits ≤ 65536
unfolding settable
port_small raw name w h is =
    let n = netlist_of raw in
    let at = found_place (λ (x : Wire). bytes_eq x.name name) n.inputs w no_wire (port_found n (find (λ (x : Wire). bytes_eq x.name name) n.inputs) w is) in
    let low = narrow raw h at.0 in
    let same = ap (λ (x : Wire). length x.bits) at.1.1 in
    omega arith

-- ---- registers

register_by : (k : Kind) (c : Cell) → is_register (role_of k) ≡ true → AllWithin c (outputs_of k) → width c ≤ 65536
unfolding outputs_of
register_by Dff c e w = (let l = w.0.limit in let s = limit_small c.kind Q in omega arith)
register_by Dffe c e w = (let l = w.0.limit in let s = limit_small c.kind Q in omega arith)
register_by Sdff c e w = (let l = w.0.limit in let s = limit_small c.kind Q in omega arith)
register_by Sdffe c e w = (let l = w.0.limit in let s = limit_small c.kind Q in omega arith)
register_by Sdffce c e w = (let l = w.0.limit in let s = limit_small c.kind Q in omega arith)
register_by Adff c e w = (let l = w.0.limit in let s = limit_small c.kind Q in omega arith)
register_by Adffe c e w = (let l = w.0.limit in let s = limit_small c.kind Q in omega arith)
register_by _ c e w = absurd (false≢true e)

register_no_memory : (k : Kind) → is_register (role_of k) ≡ true → k ≢ Mem
register_no_memory k e = λ h. false≢true (sym (ap (λ (j : Kind). is_register (role_of j)) h) ∙ e)

register_fitted : (c : Cell) → IsFitted c → is_register (role_of c.kind) ≡ true → width c ≤ 65536
register_fitted c f e = register_by c.kind c e (f.outputs_within (register_no_memory c.kind e))

pub register_small : (raw : Raw) (name : List ℕ) (c : Cell) → IsAccepted raw → Some c ≡ register_named (netlist_of raw) name → width c ≤ 65536
unfolding register_named
register_small raw name c h is =
    let n = netlist_of raw in
    let found = cell_found is_register (find (λ (x : Cell). bytes_eq x.name name) n.cells) c is in
    let at = found_place (λ (x : Cell). bytes_eq x.name name) n.cells c no_cell found.0 in
    let P : Cell → Type 0 = λ x. IsFitted x in
    register_fitted c (subst P at.1.1 (fitted raw h at.0 at.1.0)) found.1

-- ---- memories

only_memory : (k : Kind) → is_memory (role_of k) ≡ true → k ≡ Mem
only_memory Mem e = refl
only_memory _ e = absurd (false≢true e)

second_false : (a b : Bool) → (a || b) ≡ false → b ≡ false
second_false true b h = absurd (false≢true (sym h))
second_false false b h = h

word_given : (cell : RawCell) → known_cell_fault cell Mem ≡ None → number_or_0 cell Width ≤ 4096
unfolding ports_of operands_of outputs_of clocks_of
word_given cell h =
    let forms = parameters_fault cell Mem else_by memory_form cell (role_of Mem) in
    let zeros = forms else_by first_fault (zero_width cell Mem) (ports_of Mem) in
    let wide = zeros else_by first_fault (too_wide cell Mem) (ports_of Mem) in
    let missing = wide else_by first_fault (missing_port cell) (ports_of Mem) in
    let wrong = missing else_by first_fault (wrong_width cell) (ports_of Mem) in
    let five = first_passes wrong (first_fault (constant_output cell) (outputs_of Mem)) h in
    let four = first_passes missing (first_fault (wrong_width cell) (ports_of Mem)) five in
    let three = first_passes wide (first_fault (missing_port cell) (ports_of Mem)) four in
    let none_wide = next_passes zeros (first_fault (too_wide cell Mem) (ports_of Mem)) three in
    let at_enable = each_passes (too_wide cell Mem) (ports_of Mem) (record { port = WrEn; width = Product WrPorts Width }) none_wide (inr (inl refl)) in
    let low : nat_lt 4096 (number_or_0 cell Width) ≡ false = second_false _ (nat_lt 4096 (number_or_0 cell Width)) (test_passes _ _ at_enable) in
    grind (arith, nat_tests)

word_kept : (ns : List ℕ) (cell : RawCell) → number_of (cell_by ns cell (Some Mem)) Width ≡ number_or_0 cell Width
unfolding parameters_of
word_kept ns cell = number_is cell Width (parameters_of Mem) refl

memory_by : (ns : List ℕ) (cell : RawCell) (o : Option Kind) → cell_fault_by cell o ≡ None → is_memory (role_of (cell_by ns cell o).kind) ≡ true → width (cell_by ns cell o) ≤ 65536
memory_by ns cell None h e = absurd (cc)
memory_by ns cell (Some k) h e =
    let same = only_memory k e in
    let given = word_given cell (ap (known_cell_fault cell) (sym same) ∙ h) in
    let kept = ap (λ (j : Kind). number_of (cell_by ns cell (Some j)) Width) same ∙ word_kept ns cell in
    omega arith

memory_passes : (ns : List ℕ) (cell : RawCell) → cell_fault cell ≡ None → is_memory (role_of (cell_of ns cell).kind) ≡ true → width (cell_of ns cell) ≤ 65536
unfolding cell_of cell_fault
memory_passes ns cell h e = memory_by ns cell (kind_of cell.kind) h e

each_memory : (ns : List ℕ) (cells : List RawCell) → first_fault cell_fault cells ≡ None → (i : ℕ) → i < length (map (cell_of ns) cells) → is_memory (role_of (get_or (map (cell_of ns) cells) i no_cell).kind) ≡ true → width (get_or (map (cell_of ns) cells) i no_cell) ≤ 65536
each_memory ns [] h i l e = absurd (omega arith)
each_memory ns (cell ∷ cells) h zero l e = memory_passes ns cell (first_passes (cell_fault cell) (first_fault cell_fault cells) h) e
each_memory ns (cell ∷ cells) h (suc i) l e = each_memory ns cells (next_passes (cell_fault cell) (first_fault cell_fault cells) h) i (omega arith) e

memory_at : (raw : Raw) → IsAccepted raw → (i : ℕ) → i < length (netlist_of raw).cells → is_memory (role_of (cell_at (netlist_of raw) i).kind) ≡ true → width (cell_at (netlist_of raw) i) ≤ 65536
unfolding netlist_of
memory_at raw h i l e = each_memory (net_numbers raw) raw.cells (passed raw h).cells i l e

pub memory_small : (raw : Raw) (name : List ℕ) (c : Cell) → IsAccepted raw → Some c ≡ memory_named (netlist_of raw) name → width c ≤ 65536
unfolding memory_named
memory_small raw name c h is =
    let n = netlist_of raw in
    let found = cell_found is_memory (find (λ (x : Cell). bytes_eq x.name name) n.cells) c is in
    let at = found_place (λ (x : Cell). bytes_eq x.name name) n.cells c no_cell found.0 in
    let low = memory_at raw h at.0 at.1.0 (ap (λ (x : Cell). is_memory (role_of x.kind)) at.1.1 ∙ found.1) in
    let same = ap width at.1.1 in
    omega arith

-- ---- what is found has the name

pub register_name : (raw : Raw) (name : List ℕ) (c : Cell) → Some c ≡ register_named (netlist_of raw) name → c.name ≡ name
unfolding register_named
register_name raw name c is =
    let cells = (netlist_of raw).cells in
    let at = found_place (λ (x : Cell). bytes_eq x.name name) cells c no_cell (cell_found is_register (find (λ (x : Cell). bytes_eq x.name name) cells) c is).0 in
    (bytes_eq-Decides c.name name).0 at.1.2

pub memory_name : (raw : Raw) (name : List ℕ) (c : Cell) → Some c ≡ memory_named (netlist_of raw) name → c.name ≡ name
unfolding memory_named
memory_name raw name c is =
    let cells = (netlist_of raw).cells in
    let at = found_place (λ (x : Cell). bytes_eq x.name name) cells c no_cell (cell_found is_memory (find (λ (x : Cell). bytes_eq x.name name) cells) c is).0 in
    (bytes_eq-Decides c.name name).0 at.1.2

pub port_name_is : (raw : Raw) (name : List ℕ) (w : Wire) → Some w ≡ settable (netlist_of raw) name → w.name ≡ name
unfolding settable
port_name_is raw name w is =
    let n = netlist_of raw in
    let at = found_place (λ (x : Wire). bytes_eq x.name name) n.inputs w no_wire (port_found n (find (λ (x : Wire). bytes_eq x.name name) n.inputs) w is) in
    (bytes_eq-Decides w.name name).0 at.1.2

wire_name_by : (raw : Raw) (name : List ℕ) (bits : List RawBit) (two : Bool) (w : Wire) → a_wire w ≡ found_as (Some (if two then Some (record { name = name; bits = map (source (net_numbers raw)) bits }) else None)) → w.name ≡ name
wire_name_by raw name bits true w h = (let same : w ≡ record { name = name; bits = map (source (net_numbers raw)) bits } = cc in ap (λ (x : Wire). x.name) same)
wire_name_by raw name bits false w h = absurd (cc)

wire_name_in : (raw : Raw) (name : List ℕ) (o : Option (List RawBit)) (w : Wire) → a_wire w ≡ found_as (option_map (wire_if raw name) o) → w.name ≡ name
wire_name_in raw name None w h = absurd (cc)
wire_name_in raw name (Some bits) w h = wire_name_by raw name bits (are_two_valued raw bits) w h

pub wire_name : (raw : Raw) (name : List ℕ) (w : Wire) → a_wire w ≡ found_of raw name → w.name ≡ name
unfolding found_of
wire_name raw name w h = wire_name_in raw name (bits_under name (all_named raw)) w h
