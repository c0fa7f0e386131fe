use Rattle.std.proofs.Common.{refl}
use Rattle.cif_cells.proofs.BuildLaws.{holds}
use Rattle.cif_nets.proofs.NetLaws.{numbers_increase}
use Rattle.cif_nets.proofs.Passed.{passed}
use Rattle.cif_cells.proofs.netlist.Parts.of.Goals as goal

pub inputs_of-requires-clause-rising : goal.inputs_of-requires-clause-rising
inputs_of-requires-clause-rising c = numbers_increase c.args.nets.now c.numbers-numbers.result.now c.numbers-numbers.ensures.is

pub outputs_of-requires-clause-rising : goal.outputs_of-requires-clause-rising
outputs_of-requires-clause-rising c = numbers_increase c.args.nets.now c.numbers-numbers.result.now c.numbers-numbers.ensures.is

pub cells_of-requires-clause-rising : goal.cells_of-requires-clause-rising
cells_of-requires-clause-rising c = numbers_increase c.args.nets.now c.numbers-numbers.result.now c.numbers-numbers.ensures.is

pub drivers_of-requires : goal.drivers_of-requires
drivers_of-requires c = (passed c.args.nets.now c.requires.accepted).drivers

pub returns : goal.returns
returns c =
    holds c.args.nets.now c.args.nets.now c.known-known.result.now c.numbers-numbers.result.now _ _ _ _ _ _ _ _ _ _
    refl c.known-known.ensures.is c.requires.in_order c.requires.accepted c.known-known.ensures.few_cells c.known-known.ensures.few_bits
    c.numbers-numbers.ensures.is c.ports.ensures c.ports-2.ensures c.cells.ensures
    c.in_ok-inputs_of.ensures c.in_ok-outputs_of.ensures c.in_ok-cells_of.ensures c.in_ok-drivers_of.ensures c.in_ok-initial_words.ensures c.clock_bit.ensures c.in_ok-wires_of.ensures
