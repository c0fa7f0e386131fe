-- How many bits the ports of a cell have that passes its checks.
use Rattle.std.specs.Prelude.{ℕ, zero, suc, ◌+◌, ◌<◌, ◌≤◌, ◌≡◌, ◌≢◌, nat_lt, ◌==◌, false, not, ◌||◌, List, [], ◌∷◌, ◌++◌, length, get_or, Option, Some, None, refl}
use Rattle.std.specs.List.{All}
use Rattle.std.proofs.Common.{arith, sym, ap, subst, ◌∙◌, inl, inr, lit≤}
use Rattle.std.proofs.lemmas.List.{length-map}
use Rattle.std.proofs.lemmas.List.Elements.{All-map}
use Rattle.cif_defs.specs.declared.raw_module.RawBit.{RawBit}
use Rattle.cif_checks.specs.Known.{bits_at}
use Rattle.cif_checks.proofs.KnownCells.{ports_are}
use Rattle.std.proofs.lemmas.Bool.{or_parts, eqb-true, ltb-false, not-false}
use Rattle.cif_defs.specs.Kinds.{role_of}
use Rattle.cif_defs.specs.Table.{kind_of, ports_of, operands_of, outputs_of, clocks_of, port_text, width_limit, joined_at, shift_limit, shiftx_limit, lut_limit}
use Rattle.cif_defs.specs.RawModule.{port_bits}
use Rattle.cif_defs.specs.declared.kinds.Kind.{Kind}
use Rattle.cif_defs.specs.declared.kinds.Kind.TheVariants.{Shl, Sshl, Shr, Sshr, Shift, Shiftx, Pmux, Bmux, Demux, Mem}
use Rattle.cif_defs.specs.declared.kinds.Kind.TheVariants.{Lut as LutKind}
use Rattle.cif_defs.specs.declared.kinds.CellPort.{CellPort}
use Rattle.cif_defs.specs.declared.kinds.CellPort.TheVariants.{A, B, Y}
use Rattle.cif_defs.specs.declared.kinds.Role.TheVariants.{MemoryBlock}
use Rattle.cif_defs.specs.declared.kinds.Param.TheVariants.{Width}
use Rattle.cif_defs.specs.declared.kinds.PortRow.{PortRow}
use Rattle.cif_defs.specs.declared.raw_module.RawCell.{RawCell}
use Rattle.cif_defs.specs.declared.raw_module.Raw.{Raw}
use Rattle.cif_checks.specs.Checks.{◌else_by◌, first_fault, cell_fault, cells_fault, memory_bits_fault, known_cell_fault, parameters_fault, memory_form, zero_width, too_wide, missing_port, wrong_width, constant_output, row_width, is_wide_memory, cell_spot, number_or_0}
use Rattle.cif_checks.specs.declared.fault.BuildFault.{BuildFault}
use Rattle.cif_checks.specs.declared.fault.BuildFault.TheVariants.{WidthLimit, WidthMismatch}
use Rattle.cif_nets.proofs.Places.{Has, Has-left, Has-right}
use Rattle.cif_nets.proofs.Passed.{first_passes, next_passes, test_passes, each_passes, known_memory, is_formed}

limit_of_joined : (p q : CellPort) → joined_at p q ≤ 65536
limit_of_joined A A = lit≤ tt
limit_of_joined B B = lit≤ tt
limit_of_joined Y Y = lit≤ tt
limit_of_joined _ _ = lit≤ tt

limit_of_shift : (p : CellPort) → shift_limit p ≤ 65536
limit_of_shift B = lit≤ tt
limit_of_shift _ = lit≤ tt

limit_of_shiftx : (p : CellPort) → shiftx_limit p ≤ 65536
limit_of_shiftx A = lit≤ tt
limit_of_shiftx B = lit≤ tt
limit_of_shiftx _ = lit≤ tt

limit_of_lut : (p : CellPort) → lut_limit p ≤ 65536
limit_of_lut A = lit≤ tt
limit_of_lut _ = lit≤ tt

limit_is_low : (k : Kind) (p : CellPort) → width_limit k p ≤ 65536
unfolding width_limit
limit_is_low Shl p = limit_of_shift p
limit_is_low Sshl p = limit_of_shift p
limit_is_low Shr p = limit_of_shift p
limit_is_low Sshr p = limit_of_shift p
limit_is_low Shift p = limit_of_shift p
limit_is_low Shiftx p = limit_of_shiftx p
limit_is_low Pmux p = limit_of_joined B p
limit_is_low Bmux p = limit_of_joined A p
limit_is_low Demux p = limit_of_joined Y p
limit_is_low LutKind p = limit_of_lut p
limit_is_low _ p = lit≤ tt

few_in_row : (cell : RawCell) (k : Kind) (r : PortRow) → too_wide cell k r ≡ None → wrong_width cell r ≡ None → length (port_bits cell r) ≤ 65536
few_in_row cell k r h e =
    let low : nat_lt (width_limit k r.port) (row_width cell r) ≡ false = (or_parts (nat_lt (width_limit k r.port) (row_width cell r)) (is_wide_memory cell k r) (test_passes (nat_lt (width_limit k r.port) (row_width cell r) || is_wide_memory cell k r) (WidthLimit (cell_spot cell r)) h)).0 in
    let narrow : row_width cell r ≤ width_limit k r.port = ltb-false (width_limit k r.port) (row_width cell r) low in
    let same : length (port_bits cell r) ≡ row_width cell r = eqb-true (length (port_bits cell r)) (row_width cell r) (not-false (length (port_bits cell r) == row_width cell r) (test_passes (not (length (port_bits cell r) == row_width cell r)) (WidthMismatch cell.name (port_text r.port)) e)) in
    let limit = limit_is_low k r.port in
    omega arith

few_in_known : (cell : RawCell) (k : Kind) (r : PortRow) → known_cell_fault cell k ≡ None → Has (ports_of k) r → length (port_bits cell r) ≤ 65536
few_in_known cell k r h has =
    let forms = parameters_fault cell k else_by memory_form cell (role_of k) in
    let zeros = forms else_by first_fault (zero_width cell k) (ports_of k) in
    let wide = zeros else_by first_fault (too_wide cell k) (ports_of k) in
    let missing = wide else_by first_fault (missing_port cell) (ports_of k) in
    let wrong = missing else_by first_fault (wrong_width cell) (ports_of k) in
    let five = first_passes wrong (first_fault (constant_output cell) (outputs_of k)) h in
    let four = first_passes missing (first_fault (wrong_width cell) (ports_of k)) five in
    let three = first_passes wide (first_fault (missing_port cell) (ports_of k)) four in
    few_in_row cell k r
    (each_passes (too_wide cell k) (ports_of k) r (next_passes zeros (first_fault (too_wide cell k) (ports_of k)) three) has)
    (each_passes (wrong_width cell) (ports_of k) r (next_passes missing (first_fault (wrong_width cell) (ports_of k)) five) has)

-- a cell that passes has a kind of the table
pub known_passes : (cell : RawCell) (k : Kind) → cell_fault cell ≡ None → kind_of cell.kind ≡ Some k → known_cell_fault cell k ≡ None
unfolding cell_fault
known_passes cell k h e = rw e at h

outputs_in_ports : (k : Kind) (r : PortRow) → Has (outputs_of k) r → Has (ports_of k) r
unfolding ports_of
outputs_in_ports Mem r h = Has-left (operands_of Mem ++ outputs_of Mem) (clocks_of Mem) r (Has-right (operands_of Mem) (outputs_of Mem) r h)
outputs_in_ports k r h = Has-right (clocks_of k ++ operands_of k) (outputs_of k) r h

operands_in_ports : (k : Kind) (r : PortRow) → Has (operands_of k) r → Has (ports_of k) r
unfolding ports_of
operands_in_ports Mem r h = Has-left (operands_of Mem ++ outputs_of Mem) (clocks_of Mem) r (Has-left (operands_of Mem) (outputs_of Mem) r h)
operands_in_ports k r h = Has-left (clocks_of k ++ operands_of k) (outputs_of k) r (Has-right (clocks_of k) (operands_of k) r h)

at_index : {A : Type 0} (xs : List A) (i : ℕ) (d : A) → i < length xs → Has xs (get_or xs i d)
at_index [] i d l = absurd (omega arith)
at_index (x ∷ xs) zero d l = inl refl
at_index (x ∷ xs) (suc i) d l = inr (at_index xs i d (omega arith))

pub few_at_outputs : (cell : RawCell) (k : Kind) → cell_fault cell ≡ None → kind_of cell.kind ≡ Some k → All (λ r. length (port_bits cell r) ≤ 65536) (outputs_of k)
few_at_outputs cell k h e i d l = few_in_known cell k (get_or (outputs_of k) i d) (known_passes cell k h e) (outputs_in_ports k (get_or (outputs_of k) i d) (at_index (outputs_of k) i d l))

pub few_at_operands : (cell : RawCell) (k : Kind) → cell_fault cell ≡ None → kind_of cell.kind ≡ Some k → All (λ r. length (port_bits cell r) ≤ 65536) (operands_of k)
few_at_operands cell k h e i d l = few_in_known cell k (get_or (operands_of k) i d) (known_passes cell k h e) (operands_in_ports k (get_or (operands_of k) i d) (at_index (operands_of k) i d l))

pub all_pass : {A : Type 0} (check : A → Option BuildFault) (xs : List A) → first_fault check xs ≡ None → All (λ x. check x ≡ None) xs
all_pass check xs h i d l = each_passes check xs (get_or xs i d) h (at_index xs i d l)

few_outputs : (k : Kind) → length (outputs_of k) ≤ 3
unfolding outputs_of
few_outputs Mem = lit≤ tt
few_outputs _ = lit≤ tt

-- the same of what a cell connects to some ports
pub few_at_ports : (cell : RawCell) (rows : Kind → List PortRow) (k : Kind) (ports : List (List RawBit)) → ports ≡ bits_at rows cell → kind_of cell.kind ≡ Some k → All (λ r. length (port_bits cell r) ≤ 65536) (rows k)
    → All (λ (bits : List RawBit). length bits ≤ 65536) ports
few_at_ports cell rows k ports each is few =
    let P : List (List RawBit) → Type 0 = λ ps. All (λ (bits : List RawBit). length bits ≤ 65536) ps in
    subst P (sym (ports_are rows cell k ports each is)) (All-map (λ (bits : List RawBit). length bits ≤ 65536) (port_bits cell) (rows k) few)

pub few_output_ports : (cell : RawCell) (k : Kind) (ports : List (List RawBit)) → ports ≡ bits_at outputs_of cell → kind_of cell.kind ≡ Some k → length ports ≤ 3
few_output_ports cell k ports each is =
    let n : length ports ≡ length (outputs_of k) = ap length (ports_are outputs_of cell k ports each is) ∙ length-map (outputs_of k) (port_bits cell) in
    let few : length (outputs_of k) ≤ 3 = few_outputs k in
    omega arith

pub memory_has_width : (cell : RawCell) (k : Kind) → cell_fault cell ≡ None → kind_of cell.kind ≡ Some k → role_of k ≡ MemoryBlock → 0 < number_or_0 cell Width
memory_has_width cell k h e r = (let ne : number_or_0 cell Width ≢ 0 = (is_formed cell (known_memory cell k r (known_passes cell k h e))).width in omega arith)

pub all_cells_pass : (raw : Raw) → cells_fault raw ≡ None → All (λ c. cell_fault c ≡ None) raw.cells
unfolding cells_fault
all_cells_pass raw h = all_pass cell_fault raw.cells (first_passes (first_fault cell_fault raw.cells) (memory_bits_fault raw) h)
