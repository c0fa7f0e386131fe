use Rattle.std.proofs.Common.{◌∙◌, arith, refl}
use Rattle.std.proofs.lemmas.Result.{err_from_is_err_and}
use Rattle.cif_desk.specs.Commands.{eval}
use Rattle.cif_desk.proofs.CycleLaws.{Rose-since}
use Rattle.cif_desk.proofs.AnswerLaws.{out_at_file, out_nothing, out_of_case, cause_at_netlist, cause_at_stimulus, StimulusTold-along, apart}
use Rattle.cif_desk.proofs.desk.eval.Goals as goal

pub returns-in_err-accepted-clause-out : goal.returns-in_err-accepted-clause-out
returns-in_err-accepted-clause-out g c =
    let p = err_from_is_err_and c.from_residual.result c.from_residual.ensures.1 in
    rw (p.1, p.2) (out_at_file _ _ _ _ _ _ _ c.in_err-accepted.field-0.0 c.in_err-accepted.ensures.err refl)

pub returns-in_err-accepted-clause-cause : goal.returns-in_err-accepted-clause-cause
returns-in_err-accepted-clause-cause g c =
    let p = err_from_is_err_and c.from_residual.result c.from_residual.ensures.1 in
    rw (p.1, p.2) (cause_at_netlist _ (eval c.args.net.now c.args.stim.now) c.args.net.now _ _ _ c.in_err-accepted.field-0.0 refl c.in_err-accepted.ensures.err)

pub returns-in_err-stimulus-clause-out : goal.returns-in_err-stimulus-clause-out
returns-in_err-stimulus-clause-out g c =
    let p = err_from_is_err_and c.from_residual-in_err-stimulus.result c.from_residual-in_err-stimulus.ensures.1 in
    rw (p.1, p.2) (out_at_file _ _ _ _ _ _ _ c.in_err-stimulus.field-0.0 c.in_err-stimulus.ensures.err refl)

pub returns-in_err-stimulus-clause-cause : goal.returns-in_err-stimulus-clause-cause
returns-in_err-stimulus-clause-cause g c =
    let p = err_from_is_err_and c.from_residual-in_err-stimulus.result c.from_residual-in_err-stimulus.ensures.1 in
    rw (p.1, p.2) (cause_at_stimulus _ _ (eval c.args.net.now c.args.stim.now) c.args.stim.now _ c.in_ok-accepted.accepted.netlist _ _ _ c.in_err-stimulus.field-0.0 refl
    c.in_ok-accepted.ensures.same_files (Rose-since _ _ _ c.in_ok-accepted.ensures.kept) c.in_ok-accepted.ensures.ok c.in_err-stimulus.ensures.err)

pub returns-in_err-case-clause-out : goal.returns-in_err-case-clause-out
returns-in_err-case-clause-out g c =
    let p = err_from_is_err_and c.from_residual-in_err-case.result c.from_residual-in_err-case.ensures.1 in
    rw (p.1, p.2) (out_nothing _ _ 5 _ _ (omega arith) refl)

pub returns-in_err-case-2-clause-out : goal.returns-in_err-case-2-clause-out
returns-in_err-case-2-clause-out g c =
    let p = err_from_is_err_and c.from_residual-in_err-case-2.result c.from_residual-in_err-case-2.ensures.1 in
    rw (p.1, p.2) (out_nothing _ _ 5 _ _ (omega arith) refl)

pub returns-clause-out : goal.returns-clause-out
returns-clause-out g c =
    out_of_case _ c.args.net.now c.in_ok-accepted.accepted.netlist c.in_ok-accepted.ensures.ok c.args.stim.now c.in_ok-stimulus.stimulus
    c.in_ok-accepted.accepted.levels c.in_ok-case-2.case.value _ _ _ c.write_cycles.result
    (c.in_ok-case-2.ensures.ok ∙ c.in_ok-case.ensures)
    (StimulusTold-along _ _ c.args.stim.now _ c.in_ok-stimulus.stimulus c.in_ok-accepted.ensures.same_files c.in_ok-stimulus.ensures.ok)
    c.write_cycles.ensures.all c.write_cycles.ensures.err

pub returns-clause-noninterference : goal.returns-clause-noninterference
returns-clause-noninterference g c =
    apart _ c.args.net.now c.args.stim.now c.in_ok-accepted.accepted.netlist c.in_ok-accepted.accepted.levels _ _ c.write_cycles.result
    c.in_ok-accepted.ensures.ok c.in_ok-accepted.ensures.levelled (returns-clause-out g c)
