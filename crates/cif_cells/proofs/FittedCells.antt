-- The ports of the cells of an accepted module have the widths that the table of kinds says.
use Rattle.std.specs.Prelude.{ℕ, zero, suc, ◌+◌, ◌*◌, ◌^◌, ◌<◌, ◌≤◌, ◌≡◌, ◌≢◌, ◌==◌, nat_lt, Bool, true, false, not, ◌&&◌, List, [], ◌∷◌, ◌++◌, map, length, get_or, Option, Some, None, refl, if◌then◌else◌}
use Rattle.std.specs.List.{list_all}
use Rattle.std.proofs.Common.{arith, sym, ap, subst, ◌∙◌}
use Rattle.std.proofs.lemmas.Bool.{and_parts, or_parts, eqb-true, eqb-false, ltb-false, not-false}
use Rattle.std.proofs.lemmas.List.{length-map}
use Rattle.cif_defs.specs.Kinds.{role_of}
use Rattle.cif_defs.specs.Table.{kind_of, parameters_of, ports_of, operands_of, outputs_of, clocks_of, width_by, width_limit}
use Rattle.cif_defs.specs.RawModule.{net_numbers, port_bits}
use Rattle.cif_defs.specs.Accepted.{netlist_of, cell_of, cell_by, source, target}
use Rattle.cif_defs.specs.Cells.{Cell, number_of}
use Rattle.cif_defs.specs.Netlist.{cell_at, no_cell}
use Rattle.cif_defs.specs.Fitted.{IsFitted, IsWithin, AllWithin, row_width}
use Rattle.cif_defs.specs.declared.kinds.Kind.{Kind}
use Rattle.cif_defs.specs.declared.kinds.Kind.TheVariants.{Mem, Slice}
use Rattle.cif_defs.specs.declared.kinds.Param.{Param}
use Rattle.cif_defs.specs.declared.kinds.Param.TheVariants.{AWidth, YWidth, Offset}
use Rattle.cif_defs.specs.declared.kinds.PortWidth.{PortWidth}
use Rattle.cif_defs.specs.declared.kinds.PortWidth.TheVariants.{One, Of, Sum, Product, Blocks}
use Rattle.cif_defs.specs.declared.kinds.PortRow.{PortRow}
use Rattle.cif_defs.specs.declared.raw_module.RawBit.{RawBit}
use Rattle.cif_defs.specs.declared.raw_module.RawCell.{RawCell}
use Rattle.cif_defs.specs.declared.raw_module.Raw.{Raw}
use Rattle.cif_checks.specs.Checks.{◌else_by◌, first_fault, cell_fault, cell_fault_by, known_cell_fault, parameters_fault, slice_fault, memory_form, zero_width, too_wide, missing_port, wrong_width, constant_output, is_wide_memory, may_be_empty, number_or_0, IsAccepted}
use Rattle.cif_checks.specs.Checks.{row_width as given_width}
use Rattle.cif_cells.specs.NetlistView.{AreFitted}
use Rattle.cif_checks.specs.declared.fault.BuildFault.{BuildFault}
use Rattle.cif_nets.proofs.Passed.{first_passes, next_passes, test_passes, passed}
use Rattle.cif_checks.proofs.FirstFaults.{first_fault-append}
use Rattle.cif_checks.proofs.CellChecks.{limit_small, outputs_part}
use Rattle.cif_nets.proofs.InitLaws.{is_plain, is_among, number_is}
use Rattle.cif_kinds.proofs.OperandWidths.{length-at}

-- ---- the widths of the table ask only for numbers that a cell of the kind keeps

abbrev pub is_asked : List Param → Param → Bool
is_asked ps p = is_plain p && is_among p ps

abbrev is_known : List Param → PortWidth → Bool
is_known ps One = true
is_known ps (Of p) = is_asked ps p
is_known ps (Sum p q) = is_asked ps p && is_asked ps q
is_known ps (Product p q) = is_asked ps p && is_asked ps q
is_known ps (Blocks p q) = is_asked ps p && is_asked ps q

abbrev are_known : Kind → List PortRow → Bool
are_known k rows = list_all (λ (r : PortRow). is_known (parameters_of k) r.width) rows

operands_known : (k : Kind) → are_known k (operands_of k) ≡ true
unfolding parameters_of operands_of
operands_known Mem = refl
operands_known _ = refl

outputs_known : (k : Kind) → are_known k (outputs_of k) ≡ true
unfolding parameters_of outputs_of
outputs_known Mem = refl
outputs_known _ = refl

-- ---- the numbers of the cell are those that the module gives

pub number_kept : (ns : List ℕ) (cell : RawCell) (k : Kind) (p : Param) → is_asked (parameters_of k) p ≡ true → number_of (cell_by ns cell (Some k)) p ≡ number_or_0 cell p
number_kept ns cell k p h =
    let parts = and_parts (is_plain p) (is_among p (parameters_of k)) h in
    number_is cell p (parameters_of k) parts.0 ∙ ap (λ (b : Bool). if b then number_or_0 cell p else 0) parts.1

two_kept : (ns : List ℕ) (cell : RawCell) (k : Kind) (f : ℕ → ℕ → ℕ) (p q : Param) → is_asked (parameters_of k) p && is_asked (parameters_of k) q ≡ true
    → f (number_of (cell_by ns cell (Some k)) p) (number_of (cell_by ns cell (Some k)) q) ≡ f (number_or_0 cell p) (number_or_0 cell q)
two_kept ns cell k f p q h =
    let parts = and_parts (is_asked (parameters_of k) p) (is_asked (parameters_of k) q) h in
    ap (λ (x : ℕ). f x (number_of (cell_by ns cell (Some k)) q)) (number_kept ns cell k p parts.0)
    ∙ ap (λ (x : ℕ). f (number_or_0 cell p) x) (number_kept ns cell k q parts.1)

width_kept : (ns : List ℕ) (cell : RawCell) (k : Kind) (w : PortWidth) → is_known (parameters_of k) w ≡ true → width_by (number_of (cell_by ns cell (Some k))) w ≡ width_by (number_or_0 cell) w
width_kept ns cell k One h = refl
width_kept ns cell k (Of p) h = number_kept ns cell k p h
width_kept ns cell k (Sum p q) h = two_kept ns cell k (λ x y. x + y) p q h
width_kept ns cell k (Product p q) h = two_kept ns cell k (λ x y. x * y) p q h
width_kept ns cell k (Blocks p q) h = two_kept ns cell k (λ x y. x * 2 ^ y) p q h

-- ---- what the checks leave known of some ports of a cell

pub record RowsPass (cell : RawCell) (k : Kind) (rows : List PortRow) : Type 0 where
  pub known : are_known k rows ≡ true
  pub zeros : first_fault (zero_width cell k) rows ≡ None
  pub wide : first_fault (too_wide cell k) rows ≡ None
  pub widths : first_fault (wrong_width cell) rows ≡ None

record RowPasses (cell : RawCell) (k : Kind) (r : PortRow) : Type 0 where
  known : is_known (parameters_of k) r.width ≡ true
  zero_is : zero_width cell k r ≡ None
  wide : too_wide cell k r ≡ None
  width : wrong_width cell r ≡ None

first_row : (cell : RawCell) (k : Kind) (r : PortRow) (rows : List PortRow) → RowsPass cell k (r ∷ rows) → RowPasses cell k r
first_row cell k r rows s = record {
  known = (and_parts (is_known (parameters_of k) r.width) (are_known k rows) s.known).0;
  zero_is = first_passes (zero_width cell k r) (first_fault (zero_width cell k) rows) s.zeros;
  wide = first_passes (too_wide cell k r) (first_fault (too_wide cell k) rows) s.wide;
  width = first_passes (wrong_width cell r) (first_fault (wrong_width cell) rows) s.widths;
}

next_rows : (cell : RawCell) (k : Kind) (r : PortRow) (rows : List PortRow) → RowsPass cell k (r ∷ rows) → RowsPass cell k rows
next_rows cell k r rows s = record {
  known = (and_parts (is_known (parameters_of k) r.width) (are_known k rows) s.known).1;
  zeros = next_passes (zero_width cell k r) (first_fault (zero_width cell k) rows) s.zeros;
  wide = next_passes (too_wide cell k r) (first_fault (too_wide cell k) rows) s.wide;
  widths = next_passes (wrong_width cell r) (first_fault (wrong_width cell) rows) s.widths;
}

-- ---- each port has its width

row_length : {B : Type 0} (f : RawBit → B) (ns : List ℕ) (cell : RawCell) (k : Kind) (r : PortRow) → RowPasses cell k r → length (map f (port_bits cell r)) ≡ row_width (cell_by ns cell (Some k)) r
row_length f ns cell k r s =
    length-map (port_bits cell r) f
    ∙ eqb-true (length (port_bits cell r)) (given_width cell r) (not-false (length (port_bits cell r) == given_width cell r) (test_passes _ _ s.width))
    ∙ sym (width_kept ns cell k r.width s.known)

two_joined : (x y : ℕ) (xs ys : List ℕ) → x ≡ y → xs ≡ ys → x ∷ xs ≡ y ∷ ys
two_joined x y xs ys e h = cc

row_lengths : {B : Type 0} (f : RawBit → B) (ns : List ℕ) (cell : RawCell) (k : Kind) (rows : List PortRow) → RowsPass cell k rows
    → map length (map (λ (r : PortRow). map f (port_bits cell r)) rows) ≡ map (row_width (cell_by ns cell (Some k))) rows
row_lengths f ns cell k [] s = refl
row_lengths f ns cell k (r ∷ rows) s = two_joined _ _ _ _ (row_length f ns cell k r (first_row cell k r rows s)) (row_lengths f ns cell k rows (next_rows cell k r rows s))

-- ---- each port is within its limits

never_empty : (k : Kind) → k ≢ Mem → may_be_empty (role_of k) ≡ false
never_empty Mem h = absurd (h refl)
never_empty _ h = refl

has_bits : (b e : Bool) → (b && not e) ≡ false → e ≡ false → b ≡ false
has_bits true true h k = absurd (cc)
has_bits true false h k = h
has_bits false e h k = refl

-- no port has more than its limit, and none has more than 65,536 bits
row_below : (ns : List ℕ) (cell : RawCell) (k : Kind) (r : PortRow) → RowPasses cell k r → row_width (cell_by ns cell (Some k)) r ≤ width_limit k r.port
row_below ns cell k r s =
    let same : row_width (cell_by ns cell (Some k)) r ≡ given_width cell r = width_kept ns cell k r.width s.known in
    let low : given_width cell r ≤ width_limit k r.port = ltb-false (width_limit k r.port) (given_width cell r) (or_parts (nat_lt (width_limit k r.port) (given_width cell r)) (is_wide_memory cell k r) (test_passes _ _ s.wide)).0 in
    omega arith

pub rows_below : (ns : List ℕ) (cell : RawCell) (k : Kind) (rows : List PortRow) → RowsPass cell k rows → (p : ℕ) → get_or (map (row_width (cell_by ns cell (Some k))) rows) p 0 ≤ 65536
rows_below ns cell k [] s p = omega arith
rows_below ns cell k (r ∷ rows) s zero = (let here = row_below ns cell k r (first_row cell k r rows s) in let limit = limit_small k r.port in omega arith)
rows_below ns cell k (r ∷ rows) s (suc p) = rows_below ns cell k rows (next_rows cell k r rows s) p

row_within : (ns : List ℕ) (cell : RawCell) (k : Kind) (r : PortRow) → k ≢ Mem → RowPasses cell k r → IsWithin (cell_by ns cell (Some k)) r
row_within ns cell k r n s =
    let same : row_width (cell_by ns cell (Some k)) r ≡ given_width cell r = width_kept ns cell k r.width s.known in
    let some : given_width cell r ≢ 0 = eqb-false (given_width cell r) 0 (has_bits (given_width cell r == 0) (may_be_empty (role_of k)) (test_passes _ _ s.zero_is) (never_empty k n)) in
    let low = row_below ns cell k r s in
    record { some = omega arith; limit = low }

rows_within : (ns : List ℕ) (cell : RawCell) (k : Kind) (rows : List PortRow) → k ≢ Mem → RowsPass cell k rows → AllWithin (cell_by ns cell (Some k)) rows
rows_within ns cell k [] n s = tt
rows_within ns cell k (r ∷ rows) n s = (row_within ns cell k r n (first_row cell k r rows s), rows_within ns cell k rows n (next_rows cell k r rows s))

-- ---- a slice lies inside its operand

slice_within : (ns : List ℕ) (cell : RawCell) (k : Kind) → k ≡ Slice → slice_fault cell k ≡ None
    → number_of (cell_by ns cell (Some k)) Offset + number_of (cell_by ns cell (Some k)) YWidth ≤ number_of (cell_by ns cell (Some k)) AWidth
unfolding parameters_of
slice_within ns cell k e h =
    let inside : number_or_0 cell Offset + number_or_0 cell YWidth ≤ number_or_0 cell AWidth = ltb-false (number_or_0 cell AWidth) (number_or_0 cell Offset + number_or_0 cell YWidth) (test_passes _ _ (sym (ap (slice_fault cell) e) ∙ h)) in
    let offset : number_of (cell_by ns cell (Some k)) Offset ≡ number_or_0 cell Offset = number_kept ns cell k Offset (ap (λ (j : Kind). is_asked (parameters_of j) Offset) e) in
    let result : number_of (cell_by ns cell (Some k)) YWidth ≡ number_or_0 cell YWidth = number_kept ns cell k YWidth (ap (λ (j : Kind). is_asked (parameters_of j) YWidth) e) in
    let operand : number_of (cell_by ns cell (Some k)) AWidth ≡ number_or_0 cell AWidth = number_kept ns cell k AWidth (ap (λ (j : Kind). is_asked (parameters_of j) AWidth) e) in
    omega arith

-- ---- a cell that passes its checks

operands_part : (f : PortRow → Option BuildFault) (k : Kind) → first_fault f (ports_of k) ≡ None → first_fault f (operands_of k) ≡ None
unfolding ports_of
operands_part f Mem h =
    first_passes (first_fault f (operands_of Mem)) (first_fault f (outputs_of Mem)) (sym (first_fault-append f (operands_of Mem) (outputs_of Mem))
    ∙ first_passes (first_fault f (operands_of Mem ++ outputs_of Mem)) (first_fault f (clocks_of Mem)) (sym (first_fault-append f (operands_of Mem ++ outputs_of Mem) (clocks_of Mem)) ∙ h))
operands_part f k h =
    next_passes (first_fault f (clocks_of k)) (first_fault f (operands_of k)) (sym (first_fault-append f (clocks_of k) (operands_of k))
    ∙ first_passes (first_fault f (clocks_of k ++ operands_of k)) (first_fault f (outputs_of k)) (sym (first_fault-append f (clocks_of k ++ operands_of k) (outputs_of k)) ∙ h))

pub record CellPasses (cell : RawCell) (k : Kind) : Type 0 where
  pub slice : slice_fault cell k ≡ None
  pub operands : RowsPass cell k (operands_of k)
  pub outputs : RowsPass cell k (outputs_of k)

pub cell_passes : (cell : RawCell) (k : Kind) → known_cell_fault cell k ≡ None → CellPasses cell k
cell_passes cell k h =
    let forms = parameters_fault cell k else_by memory_form cell (role_of k) in
    let zeros = forms else_by first_fault (zero_width cell k) (ports_of k) in
    let wide = zeros else_by first_fault (too_wide cell k) (ports_of k) in
    let missing = wide else_by first_fault (missing_port cell) (ports_of k) in
    let wrong = missing else_by first_fault (wrong_width cell) (ports_of k) in
    let five = first_passes wrong (first_fault (constant_output cell) (outputs_of k)) h in
    let four = first_passes missing (first_fault (wrong_width cell) (ports_of k)) five in
    let three = first_passes wide (first_fault (missing_port cell) (ports_of k)) four in
    let two = first_passes zeros (first_fault (too_wide cell k) (ports_of k)) three in
    let one = first_passes forms (first_fault (zero_width cell k) (ports_of k)) two in
    let no_zeros = next_passes forms (first_fault (zero_width cell k) (ports_of k)) two in
    let none_wide = next_passes zeros (first_fault (too_wide cell k) (ports_of k)) three in
    let none_wrong = next_passes missing (first_fault (wrong_width cell) (ports_of k)) five in
    record {
      slice = next_passes _ (slice_fault cell k) (first_passes (parameters_fault cell k) (memory_form cell (role_of k)) one);
      operands = record {
        known = operands_known k;
        zeros = operands_part (zero_width cell k) k no_zeros;
        wide = operands_part (too_wide cell k) k none_wide;
        widths = operands_part (wrong_width cell) k none_wrong;
      };
      outputs = record {
        known = outputs_known k;
        zeros = outputs_part (zero_width cell k) k no_zeros;
        wide = outputs_part (too_wide cell k) k none_wide;
        widths = outputs_part (wrong_width cell) k none_wrong;
      };
    }

known_fitted : (ns : List ℕ) (cell : RawCell) (k : Kind) → known_cell_fault cell k ≡ None → IsFitted (cell_by ns cell (Some k))
known_fitted ns cell k h = (let s = cell_passes cell k h in record {
  operands = row_lengths (source ns) ns cell k (operands_of k) s.operands;
  outputs = row_lengths (target ns) ns cell k (outputs_of k) s.outputs;
  operands_within = λ n. rows_within ns cell k (operands_of k) n s.operands;
  outputs_within = λ n. rows_within ns cell k (outputs_of k) n s.outputs;
  slice = λ e. slice_within ns cell k e s.slice;
})

fitted_by : (ns : List ℕ) (cell : RawCell) (o : Option Kind) → cell_fault_by cell o ≡ None → IsFitted (cell_by ns cell o)
fitted_by ns cell None h = absurd (cc)
fitted_by ns cell (Some k) h = known_fitted ns cell k h

pub cell_fitted : (ns : List ℕ) (cell : RawCell) → cell_fault cell ≡ None → IsFitted (cell_of ns cell)
unfolding cell_of cell_fault
cell_fitted ns cell h = fitted_by ns cell (kind_of cell.kind) h

-- ---- the cells of an accepted module

pub each_cell : (P : Cell → Type 0) (ns : List ℕ) (cells : List RawCell) → ((cell : RawCell) → cell_fault cell ≡ None → P (cell_of ns cell)) → first_fault cell_fault cells ≡ None
    → (i : ℕ) → i < length (map (cell_of ns) cells) → P (get_or (map (cell_of ns) cells) i no_cell)
each_cell P ns [] law h i l = absurd (omega arith)
each_cell P ns (cell ∷ cells) law h zero l = law cell (first_passes (cell_fault cell) (first_fault cell_fault cells) h)
each_cell P ns (cell ∷ cells) law h (suc i) l = each_cell P ns cells law (next_passes (cell_fault cell) (first_fault cell_fault cells) h) i (omega arith)

-- the widths of the table of kinds
pub fitted : (raw : Raw) → IsAccepted raw → (i : ℕ) → i < length (netlist_of raw).cells → IsFitted (cell_at (netlist_of raw) i)
unfolding netlist_of
fitted raw h i l = each_cell IsFitted (net_numbers raw) raw.cells (cell_fitted (net_numbers raw)) (passed raw h).cells i l

-- the same of a list that holds the cells
pub all_fitted : (raw : Raw) (cells : List Cell) → cells ≡ (netlist_of raw).cells → IsAccepted raw → AreFitted cells
unfolding AreFitted
all_fitted raw cells e h =
    let P : List Cell → Type 0 = λ cs. (i : ℕ) → i < length cs → IsFitted (get_or cs i no_cell) in
    subst P (sym e) (fitted raw h)

pub fitted_at : (cells : List Cell) → AreFitted cells → (i : ℕ) → i < length cells → IsFitted (get_or cells i no_cell)
unfolding AreFitted
fitted_at cells h = h

-- ---- no port of an accepted cell has more than 65,536 bits

abbrev IsNarrow : Cell → Type 0
IsNarrow c = (p : ℕ) → (length (get_or c.operands p []) ≤ 65536) × (length (get_or c.outputs p []) ≤ 65536)

known_narrow : (ns : List ℕ) (cell : RawCell) (k : Kind) → known_cell_fault cell k ≡ None → IsNarrow (cell_by ns cell (Some k))
known_narrow ns cell k h p =
    let s = cell_passes cell k h in
    let c = cell_by ns cell (Some k) in
    let ins : length (get_or c.operands p []) ≡ get_or (map (row_width c) (operands_of k)) p 0 = length-at c.operands p ∙ ap (λ xs. get_or xs p 0) (row_lengths (source ns) ns cell k (operands_of k) s.operands) in
    let outs : length (get_or c.outputs p []) ≡ get_or (map (row_width c) (outputs_of k)) p 0 = length-at c.outputs p ∙ ap (λ xs. get_or xs p 0) (row_lengths (target ns) ns cell k (outputs_of k) s.outputs) in
    let ins_low = rows_below ns cell k (operands_of k) s.operands p in
    let outs_low = rows_below ns cell k (outputs_of k) s.outputs p in
    (omega arith, omega arith)

narrow_by : (ns : List ℕ) (cell : RawCell) (o : Option Kind) → cell_fault_by cell o ≡ None → IsNarrow (cell_by ns cell o)
narrow_by ns cell None h = absurd (cc)
narrow_by ns cell (Some k) h = known_narrow ns cell k h

cell_narrow : (ns : List ℕ) (cell : RawCell) → cell_fault cell ≡ None → IsNarrow (cell_of ns cell)
unfolding cell_of cell_fault
cell_narrow ns cell h = narrow_by ns cell (kind_of cell.kind) h

narrow_at : (raw : Raw) → IsAccepted raw → (i : ℕ) → i < length (netlist_of raw).cells → IsNarrow (cell_at (netlist_of raw) i)
unfolding netlist_of
narrow_at raw h i l = each_cell IsNarrow (net_numbers raw) raw.cells (cell_narrow (net_numbers raw)) (passed raw h).cells i l

pub narrow_operand : (raw : Raw) → IsAccepted raw → (i p : ℕ) → i < length (netlist_of raw).cells → length (get_or (cell_at (netlist_of raw) i).operands p []) ≤ 65536
narrow_operand raw h i p l = (narrow_at raw h i l p).0

pub narrow_output : (raw : Raw) → IsAccepted raw → (i p : ℕ) → i < length (netlist_of raw).cells → length (get_or (cell_at (netlist_of raw) i).outputs p []) ≤ 65536
narrow_output raw h i p l = (narrow_at raw h i l p).1
