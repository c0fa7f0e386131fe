-- The clock that is read is that of the first cell with a clock.
use Rattle.std.specs.Prelude.{ℕ, ◌≡◌, nat_lt, ◌==◌, Bool, true, false, not, ◌&&◌, List, [], ◌∷◌, ◌++◌, length, map, filter, Option, Some, None, option_map, refl}
use Rattle.std.specs.List.{flat_map}
use Rattle.std.proofs.Common.{arith, sym, ap, ◌∙◌, cond, inl}
use Rattle.std.proofs.lemmas.Bool.{eqb-true, lt-ltb, not-false}
use Rattle.std.proofs.lemmas.List.{append-nil}
use Rattle.cif_defs.specs.Kinds.{role_of}
use Rattle.cif_defs.specs.Table.{row, clocks_of, kind_of, operands_of, outputs_of, ports_of, port_text}
use Rattle.cif_defs.specs.RawModule.{bits_by, clock_bits, net_numbers, port_bits}
use Rattle.cif_defs.specs.Accepted.{all_clock_bits, place_of}
use Rattle.cif_defs.specs.declared.kinds.Kind.{Kind}
use Rattle.cif_defs.specs.declared.kinds.Kind.TheVariants.{Dff, Dffe, Sdff, Sdffe, Sdffce, Adff, Adffe, Mem}
use Rattle.cif_defs.specs.declared.kinds.CellPort.TheVariants.{Clk, WrClk}
use Rattle.cif_defs.specs.declared.kinds.Param.TheVariants.{WrPorts}
use Rattle.cif_defs.specs.declared.kinds.PortRow.{PortRow}
use Rattle.cif_defs.specs.declared.kinds.PortWidth.TheVariants.{Of}
use Rattle.cif_defs.specs.declared.kinds.PortWidth.TheVariants.{One as OneBit}
use Rattle.cif_defs.specs.declared.raw_module.RawBit.{RawBit}
use Rattle.cif_defs.specs.declared.raw_module.RawBit.TheVariants.{Net, Zero, One, X, Z}
use Rattle.cif_defs.specs.declared.raw_module.RawCell.{RawCell}
use Rattle.cif_defs.specs.declared.raw_module.RawPort.{RawPort}
use Rattle.cif_defs.specs.declared.raw_module.Raw.{Raw}
use Rattle.cif_cells.specs.Building.{clock_number, first_number}
use Rattle.cif_checks.specs.Checks.{◌else_by◌, fault_if, first_fault, cell_fault, known_cell_fault, parameters_fault, memory_form, zero_width, too_wide, missing_port, wrong_width, constant_output, row_width, clock_fault, clock_uses, clocks_fault, data_fault, is_clock_input, is_same_bit, uses_fault, ClockUse, IsAccepted}
use Rattle.cif_cells.specs.ClockBit.{clock_among, clock_of, first_place, is_clocked, is_clocked_as, is_clocked_by}
use Rattle.cif_checks.specs.declared.fault.BuildFault.TheVariants.{NoClockInput, TwoClocks, WidthMismatch}
use Rattle.cif_nets.proofs.FewBits.{known_passes}
use Rattle.cif_nets.proofs.Passed.{all_uses, each_passes, first_passes, next_passes, passed, test_passes}
use Rattle.cif_nets.proofs.Places.{Has, Has-left, Has-right}

-- ---- the clock ports of a cell that passes its checks

same_width : (c : RawCell) (k : Kind) (r : PortRow) → known_cell_fault c k ≡ None → Has (ports_of k) r → length (port_bits c r) ≡ row_width c r
same_width c k r h has =
    let forms = parameters_fault c k else_by memory_form c (role_of k) in
    let zeros = forms else_by first_fault (zero_width c k) (ports_of k) in
    let wide = zeros else_by first_fault (too_wide c k) (ports_of k) in
    let missing = wide else_by first_fault (missing_port c) (ports_of k) in
    let wrong = missing else_by first_fault (wrong_width c) (ports_of k) in
    let five = first_passes wrong (first_fault (constant_output c) (outputs_of k)) h in
    let here = each_passes (wrong_width c) (ports_of k) r (next_passes missing (first_fault (wrong_width c) (ports_of k)) five) has in
    eqb-true (length (port_bits c r)) (row_width c r) (not-false (length (port_bits c r) == row_width c r) (test_passes (not (length (port_bits c r) == row_width c r)) (WidthMismatch c.name (port_text r.port)) here))

clocks_in_ports : (k : Kind) (r : PortRow) → Has (clocks_of k) r → Has (ports_of k) r
unfolding ports_of
clocks_in_ports Mem r h = Has-right (operands_of Mem ++ outputs_of Mem) (clocks_of Mem) r h
clocks_in_ports k r h = Has-left (clocks_of k ++ operands_of k) (outputs_of k) r (Has-left (clocks_of k) (operands_of k) r h)

abbrev has_bits : List RawBit → Bool
has_bits [] = false
has_bits (b ∷ bs) = true

has_bits_is : (bits : List RawBit) → has_bits bits ≡ nat_lt 0 (length bits)
has_bits_is [] = refl
has_bits_is (b ∷ bs) = sym (lt-ltb 0 (length (b ∷ bs)) (omega arith))

one_row : (c : RawCell) (k : Kind) (r : PortRow) → known_cell_fault c k ≡ None → Has (clocks_of k) r → has_bits (port_bits c r ++ []) ≡ nat_lt 0 (row_width c r)
one_row c k r h has = ap has_bits (append-nil (port_bits c r)) ∙ has_bits_is (port_bits c r) ∙ ap (nat_lt 0) (same_width c k r h (clocks_in_ports k r has))

clocked_kind : (c : RawCell) (k : Kind) → known_cell_fault c k ≡ None → has_bits (flat_map (port_bits c) (clocks_of k)) ≡ is_clocked_as c (role_of k)
unfolding clocks_of
clocked_kind c Dff h = one_row c Dff (row Clk OneBit) h (inl refl)
clocked_kind c Dffe h = one_row c Dffe (row Clk OneBit) h (inl refl)
clocked_kind c Sdff h = one_row c Sdff (row Clk OneBit) h (inl refl)
clocked_kind c Sdffe h = one_row c Sdffe (row Clk OneBit) h (inl refl)
clocked_kind c Sdffce h = one_row c Sdffce (row Clk OneBit) h (inl refl)
clocked_kind c Adff h = one_row c Adff (row Clk OneBit) h (inl refl)
clocked_kind c Adffe h = one_row c Adffe (row Clk OneBit) h (inl refl)
clocked_kind c Mem h = one_row c Mem (row WrClk (Of WrPorts)) h (inl refl)
clocked_kind c _ h = refl

clocked_by : (c : RawCell) (o : Option Kind) → kind_of c.kind ≡ o → cell_fault c ≡ None → has_bits (bits_by clocks_of c o) ≡ is_clocked_by c o
clocked_by c None e h = refl
clocked_by c (Some k) e h = clocked_kind c k (known_passes c k h e)

clocked : (c : RawCell) → cell_fault c ≡ None → has_bits (clock_bits c) ≡ is_clocked c
clocked c h = clocked_by c (kind_of c.kind) refl h

-- ---- the first clock bit of all cells

abbrev starts_with_net : List RawBit → Bool
starts_with_net [] = true
starts_with_net (Net x ∷ bs) = true
starts_with_net (Zero ∷ bs) = false
starts_with_net (One ∷ bs) = false
starts_with_net (X ∷ bs) = false
starts_with_net (Z ∷ bs) = false

input_is_net : (ports : List RawPort) (b : RawBit) (bs : List RawBit) → is_clock_input ports b ≡ true → starts_with_net (b ∷ bs) ≡ true
input_is_net ports (Net x) bs h = refl
input_is_net ports Zero bs h = absurd (cc)
input_is_net ports One bs h = absurd (cc)
input_is_net ports X bs h = absurd (cc)
input_is_net ports Z bs h = absurd (cc)

uses_start : (raw : Raw) (uses : List ClockUse) → uses_fault raw uses ≡ None → starts_with_net (map (λ (u : ClockUse). u.bit) uses) ≡ true
uses_start raw [] h = refl
uses_start raw (u ∷ us) h =
    let all = first_passes (first_fault (clock_fault raw.ports u) (u ∷ us)) (data_fault raw u.bit) h in
    let here = first_passes (clock_fault raw.ports u u) (first_fault (clock_fault raw.ports u) us) all in
    let input : is_clock_input raw.ports u.bit ≡ true = not-false (is_clock_input raw.ports u.bit) (test_passes (not (is_clock_input raw.ports u.bit)) (NoClockInput u.user.name) (first_passes (fault_if (not (is_clock_input raw.ports u.bit)) (NoClockInput u.user.name)) (fault_if (not (is_same_bit u.bit u.bit && u.polarity == u.polarity)) (TwoClocks u.user.name)) here)) in
    input_is_net raw.ports u.bit (map (λ (v : ClockUse). v.bit) us) input

bits_start : (raw : Raw) → clocks_fault raw ≡ None → starts_with_net (all_clock_bits raw) ≡ true
unfolding clocks_fault
bits_start raw h = sym (ap starts_with_net (all_uses raw.cells)) ∙ uses_start raw (clock_uses raw) h

-- ---- the clock of the first cell with a clock

first_step : (ns : List ℕ) (c : RawCell) (cs : List RawCell) (b : Bool) (bits rest : List RawBit) → clock_bits c ≡ bits → has_bits bits ≡ b → starts_with_net (bits ++ rest) ≡ true
    → (starts_with_net rest ≡ true → option_map (place_of ns) (first_number rest) ≡ clock_among ns cs)
    → option_map (place_of ns) (first_number (bits ++ rest)) ≡ clock_among ns (cond b (c ∷ cs) cs)
first_step ns c cs true [] rest q h s later = absurd (cc)
first_step ns c cs true (Net x ∷ bits) rest q h s later = ap (λ (bs : List RawBit). Some (first_place ns bs)) (sym q)
first_step ns c cs true (Zero ∷ bits) rest q h s later = absurd (cc)
first_step ns c cs true (One ∷ bits) rest q h s later = absurd (cc)
first_step ns c cs true (X ∷ bits) rest q h s later = absurd (cc)
first_step ns c cs true (Z ∷ bits) rest q h s later = absurd (cc)
first_step ns c cs false [] rest q h s later = later s
first_step ns c cs false (b ∷ bits) rest q h s later = absurd (cc)

among_cells : (ns : List ℕ) (cells : List RawCell) → first_fault cell_fault cells ≡ None → starts_with_net (flat_map clock_bits cells) ≡ true
    → option_map (place_of ns) (first_number (flat_map clock_bits cells)) ≡ clock_among ns (filter is_clocked cells)
among_cells ns [] h s = refl
among_cells ns (c ∷ cs) h s =
    first_step ns c (filter is_clocked cs) (is_clocked c) (clock_bits c) (flat_map clock_bits cs) refl (clocked c (first_passes (cell_fault c) (first_fault cell_fault cs) h)) s
    (among_cells ns cs (next_passes (cell_fault c) (first_fault cell_fault cs) h))

pub clock_is : (raw : Raw) → IsAccepted raw → option_map (place_of (net_numbers raw)) (clock_number raw) ≡ clock_of raw
unfolding clock_of
clock_is raw h =
    let p = passed raw h in
    among_cells (net_numbers raw) raw.cells p.cells (bits_start raw p.clocks)

-- the same by what is read of a module and of its net numbers
pub clock_place_is : (raw nets : Raw) (ns : List ℕ) (number place : ℕ) → IsAccepted nets → raw ≡ nets → ns ≡ net_numbers nets → Some number ≡ clock_number raw → place ≡ place_of ns number → Some place ≡ clock_of nets
clock_place_is raw nets ns number place accepted same numbers h p =
    ap (λ (x : ℕ). Some x) p ∙ ap (λ (ms : List ℕ). Some (place_of ms number)) numbers ∙ ap (option_map (place_of (net_numbers nets))) (h ∙ ap clock_number same) ∙ clock_is nets accepted

pub no_clock_is : (raw nets : Raw) → IsAccepted nets → raw ≡ nets → None ≡ clock_number raw → None ≡ clock_of nets
no_clock_is raw nets accepted same h = ap (option_map (place_of (net_numbers nets))) (h ∙ ap clock_number same) ∙ clock_is nets accepted
