use Rattle.std.proofs.Common.{sym, subst, ◌∙◌, ◌<◌, ℕ}
use Rattle.cif_defs.specs.Table.{outputs_of}
use Rattle.cif_checks.proofs.KnownCells.{ports_are}
use Rattle.cif_nets.specs.Drives.{driven_more}
use Rattle.cif_nets.proofs.DriveLaws.{carried_recorded, memory_recorded, register_recorded, ports_recorded}
use Rattle.cif_nets.proofs.FewBits.{few_at_outputs, few_at_ports, few_output_ports, memory_has_width}
use Rattle.cif_nets.proofs.Kept.{few_kept_bits, memory_is_kept, register_is_kept}
use Rattle.cif_nets.proofs.drives.record_kind.Goals as goal

pub record_ports-requires-clause-few : goal.record_ports-requires-clause-few
record_ports-requires-clause-few c = few_at_ports c.args.cell.now outputs_of c.args.kind c.outputs.result.now c.outputs.ensures c.requires.known (few_at_outputs c.args.cell.now c.args.kind c.requires.passed c.requires.known)

pub record_ports-requires-clause-few_ports : goal.record_ports-requires-clause-few_ports
record_ports-requires-clause-few_ports c = few_output_ports c.args.cell.now c.args.kind c.outputs.result.now c.outputs.ensures c.requires.known

pub record_bits-requires-clause-few : goal.record_bits-requires-clause-few
record_bits-requires-clause-few c = few_kept_bits c.args.cell.now c.args.kind c.kept_bits.result.now c.requires.passed c.requires.known (register_is_kept c.role.result c.args.kind c.in-PlainRegister.is c.role.ensures) (c.kept_bits.ensures c.args.kind c.requires.known (register_is_kept c.role.result c.args.kind c.in-PlainRegister.is c.role.ensures))

pub record_bits-requires-in-MemoryBlock-clause-width : goal.record_bits-requires-in-MemoryBlock-clause-width
record_bits-requires-in-MemoryBlock-clause-width c =
    let P : ℕ → Type 0 = λ w. 0 < w in
    subst P (sym c.number-width.ensures.is) (memory_has_width c.args.cell.now c.args.kind c.requires.passed c.requires.known (sym c.role.ensures ∙ c.in-MemoryBlock.is))

pub record_bits-requires-in-MemoryBlock-clause-few : goal.record_bits-requires-in-MemoryBlock-clause-few
record_bits-requires-in-MemoryBlock-clause-few c = few_kept_bits c.args.cell.now c.args.kind c.kept_bits-in-MemoryBlock.result.now c.requires.passed c.requires.known (memory_is_kept c.role.result c.args.kind c.in-MemoryBlock.is c.role.ensures) (c.kept_bits-in-MemoryBlock.ensures c.args.kind c.requires.known (memory_is_kept c.role.result c.args.kind c.in-MemoryBlock.is c.role.ensures))

pub returns-in-PlainRegister : goal.returns-in-PlainRegister
returns-in-PlainRegister c =
    register_recorded driven_more c.args.numbers.now c.args.drives.now c.record_bits.new.drives c.args.index c.role.result _ c.args.cell.now c.args.kind c.kept_bits.result.now c.in-PlainRegister.is c.role.ensures (c.kept_bits.ensures c.args.kind c.requires.known (register_is_kept c.role.result c.args.kind c.in-PlainRegister.is c.role.ensures)) c.record_bits.ensures

pub returns-in-MemoryBlock : goal.returns-in-MemoryBlock
returns-in-MemoryBlock c =
    memory_recorded driven_more c.args.numbers.now c.args.drives.now _ c.args.index c.number-width.result c.role.result _ c.args.cell.now c.args.kind c.kept_bits-in-MemoryBlock.result.now c.in-MemoryBlock.is c.role.ensures c.number-width.ensures.is (c.kept_bits-in-MemoryBlock.ensures c.args.kind c.requires.known (memory_is_kept c.role.result c.args.kind c.in-MemoryBlock.is c.role.ensures)) c.record_bits-in-MemoryBlock.ensures

pub returns-in-CarriedOver : goal.returns-in-CarriedOver
returns-in-CarriedOver c = carried_recorded driven_more c.args.numbers.now c.args.drives.now c.args.index c.role.result _ c.args.cell.now c.args.kind c.requires.same c.in-CarriedOver.is c.role.ensures

pub returns-in-Combinational : goal.returns-in-Combinational
returns-in-Combinational c =
    ports_recorded driven_more c.args.numbers.now c.args.drives.now _ c.args.index c.role.result _ c.args.cell.now c.args.kind c.outputs.result.now c.in-Combinational.is c.role.ensures
    (ports_are outputs_of c.args.cell.now c.args.kind c.outputs.result.now c.outputs.ensures c.requires.known) c.record_ports.ensures
