-- What is written is what the cell of the netlist gives.
use Rattle.std.proofs.Common.{ap, ◌∙◌}
use Rattle.cif_defs.specs.Words.{bit}
use Rattle.cif_defs.specs.Fitted.{operand_widths}
use Rattle.cif_defs.specs.Stimulus.{is_released}
use Rattle.cif_seq.specs.Cases.{net_of}
use Rattle.cif_seq.proofs.CaseLaws.{narrow_found, values_found}
use Rattle.cif_seq.proofs.Found.{outputs_taints_found, outputs_values_found}
use Rattle.cif_seq.proofs.combinational.evaluate_wide.Goals as goal

pub value_words-requires : goal.value_words-requires
value_words-requires c = narrow_found c.cell-cell.result.now _ c.cell-cell.ensures.is c.cell-cell.ensures.fitted c.requires.role

pub meaning-requires-clause-shape : goal.meaning-requires-clause-shape
meaning-requires-clause-shape c = values_found (bit c.args.values.now) c.cell-cell.result.now _ _ c.deref.ensures.value c.in_ok-operand_values.ensures

pub output_taints-requires-clause-operands : goal.output_taints-requires-clause-operands
output_taints-requires-clause-operands c = values_found (bit c.args.values.now) c.cell-cell.result.now _ _ c.deref-2.ensures.value c.in_ok-operand_values.ensures ∙ ap operand_widths c.cell-cell.ensures.is

pub returns-clause-values : goal.returns-clause-values
returns-clause-values c = λ _ stored.
    outputs_values_found (net_of c.args.case.now) c.args.number c.cell-cell.result.now stored c.deref.result.now _ _ c.deref-3.result.now c.outputs.result.now c.args.values.now _ c.cell-cell.ensures.wired c.requires.role c.requires.as_many_values c.cell-cell.ensures.is
    c.outputs.ensures c.deref.ensures.value c.in_ok-operand_values.ensures c.in_ok-words.ensures c.deref-3.ensures.value c.write_words.ensures.values

pub returns-clause-taints : goal.returns-clause-taints
returns-clause-taints c = λ _ stored t.
    outputs_taints_found (net_of c.args.case.now) c.args.number c.cell-cell.result.now stored t (is_released c.args.case.now.stimulus.lines) c.released-released.result.now c.deref-2.result.now _ _ c.deref-4.result.now c.outputs.result.now c.args.values.now c.args.taints.now _
    c.cell-cell.ensures.wired c.requires.role c.requires.as_many_taints c.released-released.ensures c.cell-cell.ensures.is c.cell-cell.ensures.fitted
    c.outputs.ensures c.deref-2.ensures.value c.in_ok-operand_values.ensures c.in_ok-word_taints.ensures c.deref-4.ensures.value c.write_words.ensures.taints
