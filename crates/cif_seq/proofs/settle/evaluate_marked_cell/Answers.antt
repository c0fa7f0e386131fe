-- A cell that isn't marked is passed over.
use Rattle.std.proofs.Common.{◌≡◌, false}
use Rattle.cif_defs.specs.Words.{bit}
use Rattle.cif_defs.proofs.Orders.{in_range}
use Rattle.cif_seq.specs.Cases.{net_of}
use Rattle.cif_seq.specs.GivenAt.{given_with}
use Rattle.cif_seq.proofs.Settling.{evaluated_place, passed_place}
use Rattle.cif_seq.proofs.settle.evaluate_marked_cell.Goals as goal

pub evaluate_cell-requires-clause-inside : goal.evaluate_cell-requires-clause-inside
evaluate_cell-requires-clause-inside c = in_range (net_of c.args.case.now) c.args.number c.requires.passing

pub returns-then-not-bit_of-clause-shown : goal.returns-then-not-bit_of-clause-shown
returns-then-not-bit_of-clause-shown c = λ _ covered cells place input taint_input k l at h.
    let clear : bit c.args.marks.now c.args.number ≡ false = (let e = c.bit_of.ensures in let t = c.if-not-bit_of.true in cc) in
    passed_place (net_of c.args.case.now) (given_with c.args.case.now c.args.stored.now input taint_input) cells covered place c.args.number c.args.values.now c.args.taints.now c.args.marks.now at clear h

pub returns-clause-shown : goal.returns-clause-shown
returns-clause-shown c = λ ok covered cells place input taint_input k l at h.
    evaluated_place (net_of c.args.case.now) (given_with c.args.case.now c.args.stored.now input taint_input) c.args.case.now.order cells covered place c.args.number c.args.values.now c.args.taints.now _ _ c.args.marks.now _
    c.levels-levels.ensures.wired c.levels-levels.ensures.levelled k l at (c.evaluate_cell.ensures.values ok) (c.evaluate_cell.ensures.taints ok) (c.evaluate_cell.ensures.notes ok) h
