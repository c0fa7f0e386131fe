use Rattle.cif_defs.specs.Words.{bit}
use Rattle.cif_defs.specs.Accepted.{netlist_of}
use Rattle.cif_defs.specs.declared.kinds.Role.TheVariants.{MemoryBlock}
use Rattle.cif_cells.proofs.MemoryCells.{memory_ports}
use Rattle.cif_starts.proofs.StartWords.{cell_read}
use Rattle.cif_seq.proofs.CellStates.{fitted_read, narrow_read, role_found, numbers_read, values_long, taints_long}
use Rattle.cif_seq.proofs.memory.next_memory_state.Goals as goal

pub value_words-requires : goal.value_words-requires
value_words-requires c = narrow_read c.args.netlist.now c.args.number _ c.cells.ensures.accepted c.requires.number (cell_read (netlist_of c.args.netlist.now) c.cells.result.now c.args.number c.index-cells-number.result c.cells.ensures.are c.index-cells-number.is c.requires.number)

pub taint_words-requires : goal.taint_words-requires
taint_words-requires c = narrow_read c.args.netlist.now c.args.number _ c.cells.ensures.accepted c.requires.number (cell_read (netlist_of c.args.netlist.now) c.cells.result.now c.args.number c.index-cells-number.result c.cells.ensures.are c.index-cells-number.is c.requires.number)

pub next_memory-requires-clause-numbers : goal.next_memory-requires-clause-numbers
next_memory-requires-clause-numbers c =
    let found = cell_read (netlist_of c.args.netlist.now) c.cells.result.now c.args.number c.index-cells-number.result c.cells.ensures.are c.index-cells-number.is c.requires.number in
    numbers_read c.args.netlist.now c.args.number _ c.cells.ensures.accepted c.requires.number found (role_found (netlist_of c.args.netlist.now) c.args.number c.index-cells-number.result MemoryBlock (cell_read (netlist_of c.args.netlist.now) c.cells.result.now c.args.number c.index-cells-number.result c.cells.ensures.are c.index-cells-number.is c.requires.number) c.requires.role)

pub next_memory-requires-clause-values : goal.next_memory-requires-clause-values
next_memory-requires-clause-values c =
    memory_ports c.index-cells-number.result c.deref.result.now (role_found (netlist_of c.args.netlist.now) c.args.number c.index-cells-number.result MemoryBlock (cell_read (netlist_of c.args.netlist.now) c.cells.result.now c.args.number c.index-cells-number.result c.cells.ensures.are c.index-cells-number.is c.requires.number) c.requires.role)
    (fitted_read c.args.netlist.now c.cells.result.now c.args.number _ c.cells.ensures.fitted c.cells.ensures.are c.index-cells-number.is c.requires.number)
    (values_long (bit c.args.values.now) c.index-cells-number.result _ _ c.deref.ensures.value c.in_ok-operands.ensures)

pub next_memory-requires-clause-taints : goal.next_memory-requires-clause-taints
next_memory-requires-clause-taints c =
    memory_ports c.index-cells-number.result c.deref-2.result.now (role_found (netlist_of c.args.netlist.now) c.args.number c.index-cells-number.result MemoryBlock (cell_read (netlist_of c.args.netlist.now) c.cells.result.now c.args.number c.index-cells-number.result c.cells.ensures.are c.index-cells-number.is c.requires.number) c.requires.role)
    (fitted_read c.args.netlist.now c.cells.result.now c.args.number _ c.cells.ensures.fitted c.cells.ensures.are c.index-cells-number.is c.requires.number)
    (taints_long (bit c.args.taints.now) c.index-cells-number.result _ _ c.deref-2.ensures.value c.in_ok-operand_taints.ensures)
