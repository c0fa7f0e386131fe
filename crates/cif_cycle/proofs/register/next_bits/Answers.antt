-- One more bit at each turn; a register has at most 4,096.
use Rattle.std.proofs.Common.{arith, ◌<◌, ◌≡◌, ◌≤◌}
use Rattle.cif_defs.specs.Words.{bit}
use Rattle.cif_defs.specs.Cells.{width}
use Rattle.cif_defs.specs.Run.{operand_words}
use Rattle.cif_defs.specs.TaintRun.{operand_taints}
use Rattle.cif_defs.proofs.WordLaws.{word_push}
use Rattle.cif_kinds.proofs.RegisterCells.{register_width_fits}
use Rattle.cif_register_bits.proofs.SteeringLaws.{next_bit_is}
use Rattle.cif_cycle.proofs.RegisterWords.{next_taint_done, next_word_done}
use Rattle.cif_cycle.proofs.register.next_bits.Goals as goal

pub loop-i-preserved : goal.loop-i-preserved
loop-i-preserved c =
    let vs = operand_words (bit c.args.values.now) c.args.cell.now in
    let ts = operand_taints (bit c.args.taints.now) c.args.cell.now in
    let inside : c.loop-i.i < width c.args.cell.now = omega (arith, c.number-width.ensures) in
    let b = next_bit_is c.args.cell.now vs ts c.of-controls.result c.args.prior.value.now c.args.prior.taint.now c.loop-i.i _ _ c.next_bit-next.result
    c.of-controls.ensures.next c.requires.value c.requires.taint inside c.operand_bit-at_d.ensures c.stored_bit-stored.ensures c.next_bit-next.ensures in
    record {
      value = word_push _ _ _ _ _ c.loop-i.invariant.value c.in_ok-push.ensures.items b.value;
      taint = word_push _ _ _ _ _ c.loop-i.invariant.taint c.in_ok-push-2.ensures.items b.taint;
    }

pub returns-clause-value : goal.returns-clause-value
returns-clause-value c =
    let vs = operand_words (bit c.args.values.now) c.args.cell.now in
    let all : c.loop-i.i ≡ width c.args.cell.now = omega (arith, c.number-width.ensures) in
    next_word_done c.args.cell.now vs c.args.prior.value.now c.loop-i.i _ c.loop-i.invariant.value all

pub returns-clause-taint : goal.returns-clause-taint
returns-clause-taint c =
    let vs = operand_words (bit c.args.values.now) c.args.cell.now in
    let ts = operand_taints (bit c.args.taints.now) c.args.cell.now in
    let all : c.loop-i.i ≡ width c.args.cell.now = omega (arith, c.number-width.ensures) in
    next_taint_done c.args.cell.now vs ts c.args.prior.value.now c.args.prior.taint.now c.loop-i.i _ c.loop-i.invariant.taint all

pub overflow_cast-width : goal.overflow_cast-width
overflow_cast-width c =
    let few : width c.args.cell.now ≤ 4096 = (register_width_fits c.args.cell.now c.requires.role c.requires.fitted).limit in
    omega (arith, c.number-width.ensures)
