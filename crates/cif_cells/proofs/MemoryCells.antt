-- The ports and the numbers of memories.
use Rattle.std.specs.Prelude.{ℕ, ◌*◌, ◌<◌, ◌≤◌, ◌≡◌, ◌≢◌, List, [], map, length, get_or, Option, Some, None, refl}
use Rattle.std.proofs.Common.{arith, sym, ap, subst, ◌∙◌}
use Rattle.std.proofs.lemmas.List.{length-map}
use Rattle.std.proofs.Math.Nat.{mul-le-mul_left}
use Rattle.cif_defs.specs.Words.{Word}
use Rattle.cif_defs.specs.Kinds.{role_of}
use Rattle.cif_defs.specs.Cells.{Cell, number_of, width, state_bits, state_bits_by}
use Rattle.cif_defs.specs.Fitted.{IsFitted, operand_widths, row_width}
use Rattle.cif_defs.specs.Table.{kind_of, parameters_of, operands_of, outputs_of}
use Rattle.cif_defs.specs.RawModule.{net_numbers}
use Rattle.cif_defs.specs.Accepted.{netlist_of, cell_by, cell_of}
use Rattle.cif_defs.specs.Netlist.{cell_at, role_at, no_cell}
use Rattle.cif_defs.specs.declared.kinds.Kind.{Kind}
use Rattle.cif_defs.specs.declared.kinds.Kind.TheVariants.{Mem}
use Rattle.cif_defs.specs.declared.kinds.Role.{Role}
use Rattle.cif_defs.specs.declared.kinds.Role.TheVariants.{MemoryBlock}
use Rattle.cif_defs.specs.declared.kinds.Param.TheVariants.{Width, Size, Offset, Abits, RdPorts, WrPorts}
use Rattle.cif_defs.specs.declared.raw_module.RawCell.{RawCell}
use Rattle.cif_defs.specs.declared.raw_module.Raw.{Raw}
use Rattle.cif_checks.specs.Checks.{known_cell_fault, cell_fault, cell_fault_by, number_or_0, IsAccepted}
use Rattle.cif_cells.specs.NetlistView.{HaveMemoryNumbers}
use Rattle.cif_kinds.specs.StateCells.{HasMemoryPorts, HasMemoryNumbers}
use Rattle.cif_checks.proofs.CellChecks.{memory_narrow}
use Rattle.cif_cells.proofs.FittedCells.{number_kept, cell_passes, rows_below, each_cell}
use Rattle.cif_kinds.proofs.OperandWidths.{length-at, operand_width}
use Rattle.cif_nets.proofs.Passed.{IsFormed, is_formed, known_memory, passed}
use Rattle.cif_checks.proofs.RawLaws.{number_small}
use Rattle.cif_cells.proofs.StateLaws.{few_state_bits}
use Rattle.cif_nets.proofs.Wired.{memory_kind}

-- ---- ports

pub read_data_width : (c : Cell) → role_of c.kind ≡ MemoryBlock → IsFitted c → length (get_or c.outputs 0 []) ≡ number_of c RdPorts * width c
unfolding outputs_of
read_data_width c e f = length-at c.outputs 0 ∙ ap (λ ns. get_or ns 0 0) (f.outputs ∙ ap (λ (q : Kind). map (row_width c) (outputs_of q)) (memory_kind c.kind e))

pub memory_ports : (c : Cell) (us : List Word) → role_of c.kind ≡ MemoryBlock → IsFitted c → map length us ≡ operand_widths c → HasMemoryPorts c us
unfolding operands_of
memory_ports c us e f h =
    let k : Mem ≡ c.kind = sym (memory_kind c.kind e) in
    let ins : map length us ≡ map (row_width c) (operands_of Mem) = h ∙ f.operands ∙ ap (λ (q : Kind). map (row_width c) (operands_of q)) (sym k) in
    record {
      operands = sym (length-map us length) ∙ ap length ins;
      read_address = operand_width c us Mem 0 k f h;
      write_enable = operand_width c us Mem 1 k f h;
      write_address = operand_width c us Mem 2 k f h;
      write_data = operand_width c us Mem 3 k f h;
      read_data = read_data_width c e f;
    }

-- ---- numbers

few_ports : (p w : ℕ) → 1 ≤ w → p * w ≤ 65536 → p ≤ 65536
few_ports p w h l = omega (arith, mul-le-mul_left p h)

-- the numbers of a memory of the module, as far as they are its own
record IsMemory (cell : RawCell) (c : Cell) : Type 0 where
  bits : width c ≡ number_or_0 cell Width
  size : number_of c Size ≡ number_or_0 cell Size
  address : number_of c Abits ≡ number_or_0 cell Abits
  offset : number_of c Offset ≡ number_or_0 cell Offset
  read_data : number_of c RdPorts * width c ≤ 65536
  write_data : number_of c WrPorts * width c ≤ 65536

is_memory : (ns : List ℕ) (cell : RawCell) → known_cell_fault cell Mem ≡ None → IsMemory cell (cell_by ns cell (Some Mem))
unfolding parameters_of operands_of outputs_of
is_memory ns cell h = record {
  bits = number_kept ns cell Mem Width refl;
  size = number_kept ns cell Mem Size refl;
  address = number_kept ns cell Mem Abits refl;
  offset = number_kept ns cell Mem Offset refl;
  read_data = rows_below ns cell Mem (outputs_of Mem) (cell_passes cell Mem h).outputs 0;
  write_data = rows_below ns cell Mem (operands_of Mem) (cell_passes cell Mem h).operands 1;
}

numbers_of_memory : (cell : RawCell) (c : Cell) → IsMemory cell c → IsFormed cell → number_or_0 cell Width ≤ 4096 → number_of c Size * width c ≤ 16777216 → HasMemoryNumbers c
numbers_of_memory cell c m form narrow few =
    let width_is : width c ≡ number_or_0 cell Width = m.bits in
    let size_is : number_of c Size ≡ number_or_0 cell Size = m.size in
    let address_is : number_of c Abits ≡ number_or_0 cell Abits = m.address in
    let offset_is : number_of c Offset ≡ number_or_0 cell Offset = m.offset in
    let no_width : number_or_0 cell Width ≢ 0 = form.width in
    let no_size : number_or_0 cell Size ≢ 0 = form.size in
    let no_address : number_or_0 cell Abits ≢ 0 = form.address in
    let low_address : number_or_0 cell Abits ≤ 32 = form.address_limit in
    let low_offset : number_or_0 cell Offset < 4294967296 = number_small cell Offset in
    let some : 1 ≤ width c = omega arith in
    record {
      some_bits = some;
      width_limit = omega arith;
      some_rows = omega arith;
      some_address = omega arith;
      address_limit = omega arith;
      offset_limit = omega arith;
      read_ports_limit = few_ports (number_of c RdPorts) (width c) some m.read_data;
      write_ports_limit = few_ports (number_of c WrPorts) (width c) some m.write_data;
      bits_limit = few;
    }

-- what is to be shown of each cell
abbrev HasNumbers : Cell → Type 0
HasNumbers c = role_of c.kind ≡ MemoryBlock → number_of c Size * width c ≤ 16777216 → HasMemoryNumbers c

known_numbers : (ns : List ℕ) (cell : RawCell) (k : Kind) → known_cell_fault cell k ≡ None → HasNumbers (cell_by ns cell (Some k))
known_numbers ns cell Mem h e few = numbers_of_memory cell (cell_by ns cell (Some Mem)) (is_memory ns cell h) (is_formed cell (known_memory cell Mem refl h)) (memory_narrow cell h) few
known_numbers ns cell _ h e few = absurd (cc)

numbers_by : (ns : List ℕ) (cell : RawCell) (o : Option Kind) → cell_fault_by cell o ≡ None → HasNumbers (cell_by ns cell o)
numbers_by ns cell None h e few = absurd (cc)
numbers_by ns cell (Some k) h e few = known_numbers ns cell k h e few

cell_numbers : (ns : List ℕ) (cell : RawCell) → cell_fault cell ≡ None → HasNumbers (cell_of ns cell)
unfolding cell_of cell_fault
cell_numbers ns cell h = numbers_by ns cell (kind_of cell.kind) h

numbers_at : (raw : Raw) → IsAccepted raw → (i : ℕ) → i < length (netlist_of raw).cells → HasNumbers (cell_at (netlist_of raw) i)
unfolding netlist_of
numbers_at raw h i l = each_cell HasNumbers (net_numbers raw) raw.cells (cell_numbers (net_numbers raw)) (passed raw h).cells i l

-- a memory of an accepted module
pub memory_numbers : (raw : Raw) → IsAccepted raw → (i : ℕ) → i < length (netlist_of raw).cells → role_at (netlist_of raw) i ≡ MemoryBlock → HasMemoryNumbers (cell_at (netlist_of raw) i)
memory_numbers raw h i l e =
    let few : state_bits (cell_at (netlist_of raw) i) ≤ 16777216 = few_state_bits raw h i l in
    let same : state_bits (cell_at (netlist_of raw) i) ≡ number_of (cell_at (netlist_of raw) i) Size * width (cell_at (netlist_of raw) i) = ap (λ (r : Role). state_bits_by r (cell_at (netlist_of raw) i)) e in
    numbers_at raw h i l e (omega arith)

-- the same of a list that holds the cells
pub all_memory_numbers : (raw : Raw) (cells : List Cell) → cells ≡ (netlist_of raw).cells → IsAccepted raw → HaveMemoryNumbers cells
unfolding HaveMemoryNumbers
all_memory_numbers raw cells e h =
    let P : List Cell → Type 0 = λ cs. (i : ℕ) → i < length cs → role_of (get_or cs i no_cell).kind ≡ MemoryBlock → HasMemoryNumbers (get_or cs i no_cell) in
    subst P (sym e) (memory_numbers raw h)

pub memory_numbers_at : (cells : List Cell) → HaveMemoryNumbers cells → (i : ℕ) → i < length cells → role_of (get_or cells i no_cell).kind ≡ MemoryBlock → HasMemoryNumbers (get_or cells i no_cell)
unfolding HaveMemoryNumbers
memory_numbers_at cells h = h
