-- The words that are read are as wide as the operands.
use Rattle.std.proofs.Common.{◌∙◌, sym}
use Rattle.cif_defs.specs.Words.{bit}
use Rattle.cif_defs.specs.Run.{operand_words}
use Rattle.cif_defs.specs.TaintRun.{operand_taints}
use Rattle.cif_register_bits.proofs.SourceWidths.{taints_wide, words_wide}
use Rattle.cif_register_bits.proofs.SteeringLaws.{same_controls, shown, steered}
use Rattle.cif_register_bits.proofs.controls.Controls.of.Goals as goal

pub returns-clause-next : goal.returns-clause-next
returns-clause-next c =
    let vs = operand_words (bit c.args.values.now) c.args.cell.now in
    let ts = operand_taints (bit c.args.taints.now) c.args.cell.now in
    steered c.args.cell.now vs ts _ c.requires.role c.requires.fitted (words_wide (bit c.args.values.now) c.args.cell.now.operands) (taints_wide (bit c.args.taints.now) c.args.cell.now.operands)
    (same_controls c.args.cell.now vs ts c.kind-kind.result _ _ _ _ c.kind-kind.ensures c.enable_of.ensures c.reset_of.ensures c.reset_value_of.ensures c.precedence_of.ensures)

pub returns-clause-shown : goal.returns-clause-shown
returns-clause-shown c = λ r.
    let vs = operand_words (bit c.args.values.now) c.args.cell.now in
    let ts = operand_taints (bit c.args.taints.now) c.args.cell.now in
    shown c.args.cell.now vs ts _ r (words_wide (bit c.args.values.now) c.args.cell.now.operands ∙ sym (taints_wide (bit c.args.taints.now) c.args.cell.now.operands))
    (same_controls c.args.cell.now vs ts c.kind-kind.result _ _ _ _ c.kind-kind.ensures c.enable_of.ensures c.reset_of.ensures c.reset_value_of.ensures c.precedence_of.ensures)
