-- The part of a port in the joined addresses.
use Rattle.cif_defs.specs.Words.{bit}
use Rattle.cif_cycle.proofs.MemoryReads.{address_taint, address_value, has_operand, narrow_part, port_inside}
use Rattle.cif_cycle.proofs.memory.read_address.Goals as goal

pub operand-requires : goal.operand-requires
operand-requires c = has_operand c.args.cell.now c.requires.role c.requires.fitted

pub part-sources-requires : goal.part-sources-requires
part-sources-requires c = port_inside c.args.cell.now c.operand.result.now c.args.port c.number-size.result c.requires.role c.requires.fitted c.operand.ensures c.number-size.ensures c.requires.port

pub value_word-requires : goal.value_word-requires
value_word-requires c = narrow_part c.operand.result.now c.part-sources.result.now _ _ _ c.part-sources.ensures c.number-size.ensures c.requires.numbers.address_limit

pub taint_word-requires : goal.taint_word-requires
taint_word-requires c = narrow_part c.operand.result.now c.part-sources.result.now _ _ _ c.part-sources.ensures c.number-size.ensures c.requires.numbers.address_limit

pub returns-clause-value : goal.returns-clause-value
returns-clause-value c =
    address_value c.args.cell.now (bit c.args.values.now) c.operand.result.now c.part-sources.result.now _ c.args.port c.number-size.result c.operand.ensures c.part-sources.ensures c.number-size.ensures
    (port_inside c.args.cell.now c.operand.result.now c.args.port c.number-size.result c.requires.role c.requires.fitted c.operand.ensures c.number-size.ensures c.requires.port) c.in_ok-value.ensures

pub returns-clause-taint : goal.returns-clause-taint
returns-clause-taint c =
    address_taint c.args.cell.now (bit c.args.taints.now) c.operand.result.now c.part-sources.result.now _ c.args.port c.number-size.result c.operand.ensures c.part-sources.ensures c.number-size.ensures
    (port_inside c.args.cell.now c.operand.result.now c.args.port c.number-size.result c.requires.role c.requires.fitted c.operand.ensures c.number-size.ensures c.requires.port) c.in_ok-taint.ensures
