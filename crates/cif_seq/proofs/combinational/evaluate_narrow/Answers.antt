-- What is written is what the cell of the netlist gives.
use Rattle.std.proofs.Common.{ap, refl, length, map}
use Rattle.cif_defs.specs.Words.{bit}
use Rattle.cif_defs.specs.Cells.{meaning}
use Rattle.cif_defs.specs.Fitted.{operand_widths}
use Rattle.cif_defs.specs.Netlist.{cell_at}
use Rattle.cif_defs.specs.Stimulus.{is_released}
use Rattle.word_numbers.specs.HeldWords.{words_held}
use Rattle.cif_seq.specs.Cases.{net_of}
use Rattle.cif_seq.proofs.Found.{outputs_taints_found, outputs_values_found}
use Rattle.cif_seq.proofs.NarrowGiven.{given_taints, given_values}
use Rattle.cif_seq.proofs.combinational.evaluate_narrow.Goals as goal

pub returns-clause-values : goal.returns-clause-values
returns-clause-values c = λ stored.
    let given = words_held (operand_widths c.cell-cell.result.now) c.operand_values-operands.result in
    let held = given_values c.cell-cell.result.now (bit c.args.values.now) given (map length c.outputs.result.now) c.value_words-words.result c.cell-cell.ensures.fitted (ap (λ ts. map length ts) c.outputs.ensures) c.operand_values-operands.ensures.held c.value_words-words.ensures.words in
    outputs_values_found (net_of c.args.case.now) c.args.number c.cell-cell.result.now stored given given (meaning c.cell-cell.result.now given) _ c.outputs.result.now c.args.values.now _ c.cell-cell.ensures.wired c.requires.role c.requires.as_many_values c.cell-cell.ensures.is
    c.outputs.ensures refl c.operand_values-operands.ensures.held refl held c.write_numbers.ensures.values

pub returns-clause-taints : goal.returns-clause-taints
returns-clause-taints c = λ stored t.
    let given = words_held (operand_widths c.cell-cell.result.now) c.operand_values-operands.result in
    let tainted = words_held (operand_widths c.cell-cell.result.now) c.operand_taints-tainted.result in
    let held = given_taints c.cell-cell.result.now (cell_at (net_of c.args.case.now) c.args.number) (bit c.args.taints.now) given tainted (map length c.outputs.result.now) c.taint_words-word_taints.result c.cell-cell.ensures.fitted c.cell-cell.ensures.is (ap (λ ts. map length ts) c.outputs.ensures) c.operand_taints-tainted.ensures.held c.taint_words-word_taints.ensures.words in
    outputs_taints_found (net_of c.args.case.now) c.args.number c.cell-cell.result.now stored t (is_released c.args.case.now.stimulus.lines) c.released-released.result.now given given _ _ c.outputs.result.now c.args.values.now c.args.taints.now _
    c.cell-cell.ensures.wired c.requires.role c.requires.as_many_taints c.released-released.ensures c.cell-cell.ensures.is c.cell-cell.ensures.fitted
    c.outputs.ensures refl c.operand_values-operands.ensures.held held refl c.write_numbers.ensures.taints
