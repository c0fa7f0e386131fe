use Rattle.std.proofs.Common.{arith, ap, ◌+◌, ◌*◌, ◌<◌, refl, length}
use Rattle.cif_defs.specs.Cells.{shape_of, width}
use Rattle.cif_cycle.proofs.WrittenPorts.{value_next, value_stays, taint_next, taint_stays}
use Rattle.cif_cycle.proofs.memory.write_port.Goals as goal

pub returns-in_ok-write_row_taint-clause-value : goal.returns-in_ok-write_row_taint-clause-value
returns-in_ok-write_row_taint-clause-value c = λ vs ts p stored h before.
    let pos : 0 < width c.args.cell.now = (let some = c.requires.numbers.some_bits in omega arith) in
    value_next (shape_of c.args.cell.now) vs ts p (length c.args.port.now.enable) c.in-Some.row (c.in-Some.row * c.number.result) c.args.port.now stored c.args.value.now c.write_value.new.stored pos h
    c.requires.port.enable c.in-Some.ensures.0 c.in-Some.ensures.1 (ap (λ x. c.in-Some.row * x) c.number.ensures) before c.in_ok-write_value.ensures

pub returns-in_ok-write_row_taint-clause-taint : goal.returns-in_ok-write_row_taint-clause-taint
returns-in_ok-write_row_taint-clause-taint c = λ vs ts p stored h before.
    let pos : 0 < width c.args.cell.now = (let some = c.requires.numbers.some_bits in omega arith) in
    taint_next (shape_of c.args.cell.now) vs ts p (width c.args.cell.now) c.in-Some.row (c.in-Some.row * c.number.result) _ c.args.port.now stored c.args.taint.now c.write_row_taint.new.stored pos h
    refl c.in-Some.ensures.0 c.in-Some.ensures.1 (ap (λ x. c.in-Some.row * x) c.number.ensures) (ap (λ x. c.in-Some.row + x) c.number-in-Some.ensures) before c.in_ok-write_row_taint.ensures

pub returns-in_default-clause-value : goal.returns-in_default-clause-value
returns-in_default-clause-value c = λ vs ts p stored h before. value_stays (shape_of c.args.cell.now) vs ts p c.args.port.now stored c.args.value.now h c.in_default.ensures before

pub returns-in_default-clause-taint : goal.returns-in_default-clause-taint
returns-in_default-clause-taint c = λ vs ts p stored h before. taint_stays (shape_of c.args.cell.now) vs ts p c.args.port.now stored c.args.taint.now h c.in_default.ensures before
