-- The cells of a register's term compute its next taint.
use Rattle.std.proofs.Common.{◌∙◌, sym}
use Rattle.cif_defs.specs.Cells.{width}
use Rattle.cif_term.specs.TermView.{formula_of}
use Rattle.cif_next_taints.proofs.RegisterLaws.{formed_over, register_emitted, taint_widths, value_widths}
use Rattle.cif_next_taints.proofs.registers.next_register.Goals as goal

pub emit-requires : goal.emit-requires
emit-requires c = record {
  formed = (width c.args.cell.now, formed_over c.args.cell.now (formula_of c.in_ok-term.term) c.args.operands.now c.args.stored c.in_ok-operands.operands c.in_ok-term.ensures c.requires.operands c.in_ok-operands.ensures);
  shape = taint_widths c.args.cell.now c.args.operands.now c.args.stored c.in_ok-operands.operands c.requires.operands c.in_ok-operands.ensures
      ∙ sym (value_widths c.args.cell.now c.args.operands.now c.args.stored c.in_ok-operands.operands c.requires.operands c.in_ok-operands.ensures);
  begun = c.requires.begun;
}

pub returns-clause-ok : goal.returns-clause-ok
returns-clause-ok c =
    register_emitted c.args.cell.now (formula_of c.in_ok-term.term) c.args.operands.now c.args.stored c.in_ok-operands.operands _ c.in_ok-term.ensures c.requires.operands c.in_ok-operands.ensures c.in_ok-bits.ensures.ok
    (c.in_ok-from_slice.ensures.items ∙ c.items.ensures)
