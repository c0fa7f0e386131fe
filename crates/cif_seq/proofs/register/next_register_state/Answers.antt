-- What is stored next is what the register of the netlist stores.
use Rattle.cif_defs.specs.Words.{bit}
use Rattle.cif_defs.specs.Accepted.{netlist_of}
use Rattle.cif_defs.specs.Netlist.{cell_at, role_at}
use Rattle.cif_starts.proofs.StartWords.{cell_read}
use Rattle.cif_seq.proofs.CellStates.{fitted_read, register_stores, register_taints}
use Rattle.cif_seq.proofs.register.next_register_state.Goals as goal

pub next_register-requires-clause-fitted : goal.next_register-requires-clause-fitted
next_register-requires-clause-fitted c = fitted_read c.args.netlist.now c.cells.result.now c.args.number _ c.cells.ensures.fitted c.cells.ensures.are c.index-cells-number.is c.requires.number

pub returns-clause-value : goal.returns-clause-value
returns-clause-value c =
    let found = cell_read (netlist_of c.args.netlist.now) c.cells.result.now c.args.number c.index-cells-number.result c.cells.ensures.are c.index-cells-number.is c.requires.number in
    register_stores (role_at (netlist_of c.args.netlist.now) c.args.number) (cell_at (netlist_of c.args.netlist.now) c.args.number) c.index-cells-number.result (bit c.args.values.now) _ _ c.requires.role found c.in_ok-next_register.ensures.value

pub returns-clause-taint : goal.returns-clause-taint
returns-clause-taint c =
    let found = cell_read (netlist_of c.args.netlist.now) c.cells.result.now c.args.number c.index-cells-number.result c.cells.ensures.are c.index-cells-number.is c.requires.number in
    register_taints (role_at (netlist_of c.args.netlist.now) c.args.number) (cell_at (netlist_of c.args.netlist.now) c.args.number) c.index-cells-number.result (bit c.args.values.now) (bit c.args.taints.now) _ _ _ c.requires.role found c.in_ok-next_register.ensures.taint
