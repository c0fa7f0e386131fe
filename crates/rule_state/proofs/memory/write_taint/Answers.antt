-- The addressed word is written, and any other stays.
use Rattle.std.proofs.Common.{sym, ◌∙◌}
use Rattle.cif_defs.specs.Cells.{shape_of, width}
use Rattle.rule_state.proofs.MemoryLaws.{write_defined}
use Rattle.rule_state.proofs.StoredTaintWords.{kept, written}
use Rattle.rule_state.proofs.memory.write_taint.Goals as goal

pub returns-then-is_addressed-clause-is : goal.returns-then-is_addressed-clause-is
returns-then-is_addressed-clause-is c = written (width c.args.cell.now) c.width-width.result c.args.port.now c.args.address c.args.stored.now _
    (sym c.if-is_addressed.ensures) (c.width-width.ensures.value ∙ c.requires.stored) c.write_bits.ensures

pub returns-then-is_addressed-clause-defined : goal.returns-then-is_addressed-clause-defined
returns-then-is_addressed-clause-defined c = write_defined (shape_of c.args.cell.now) c.args.port.now c.args.address c.args.stored.now _ c.requires.from_offset c.requires.inside
    (written (width c.args.cell.now) c.width-width.result c.args.port.now c.args.address c.args.stored.now _
    (sym c.if-is_addressed.ensures) (c.width-width.ensures.value ∙ c.requires.stored) c.write_bits.ensures)

pub returns-else-is_addressed-clause-is : goal.returns-else-is_addressed-clause-is
returns-else-is_addressed-clause-is c = kept (width c.args.cell.now) c.args.port.now c.args.address c.args.stored.now (sym c.if-is_addressed.ensures) c.requires.stored

pub returns-else-is_addressed-clause-defined : goal.returns-else-is_addressed-clause-defined
returns-else-is_addressed-clause-defined c = write_defined (shape_of c.args.cell.now) c.args.port.now c.args.address c.args.stored.now _ c.requires.from_offset c.requires.inside
    (kept (width c.args.cell.now) c.args.port.now c.args.address c.args.stored.now (sym c.if-is_addressed.ensures) c.requires.stored)
