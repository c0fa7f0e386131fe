use Rattle.std.proofs.Common.{◌∙◌, arith, refl}
use Rattle.std.proofs.lemmas.Result.{err_from_is_err_and}
use Rattle.cif_desk.specs.CommandView.{run_seen}
use Rattle.cif_desk.proofs.CycleLaws.{Rose-since}
use Rattle.cif_desk.proofs.AnswerLaws.{out_at_file, out_nothing, out_of_run, run_of_case, cause_at_netlist, cause_at_stimulus, cause_at_script, StimulusTold-along, ScriptTold-along, run_apart}
use Rattle.cif_desk.proofs.live.run.Goals as goal

pub returns-in_err-accepted-clause-out : goal.returns-in_err-accepted-clause-out
returns-in_err-accepted-clause-out g c =
    let p = err_from_is_err_and c.from_residual.result c.from_residual.ensures.1 in
    rw (p.1, p.2) (out_at_file _ _ _ _ _ _ _ c.in_err-accepted.field-0.0 c.in_err-accepted.ensures.err refl)

pub returns-in_err-accepted-clause-cause : goal.returns-in_err-accepted-clause-cause
returns-in_err-accepted-clause-cause g c =
    let p = err_from_is_err_and c.from_residual.result c.from_residual.ensures.1 in
    rw (p.1, p.2) (cause_at_netlist _ (run_seen c.args.files c.args.size) c.args.files.net.now _ _ _ c.in_err-accepted.field-0.0 refl c.in_err-accepted.ensures.err)

pub returns-in_err-stimulus-clause-out : goal.returns-in_err-stimulus-clause-out
returns-in_err-stimulus-clause-out g c =
    let p = err_from_is_err_and c.from_residual-in_err-stimulus.result c.from_residual-in_err-stimulus.ensures.1 in
    rw (p.1, p.2) (out_at_file _ _ _ _ _ _ _ c.in_err-stimulus.field-0.0 c.in_err-stimulus.ensures.err refl)

pub returns-in_err-stimulus-clause-cause : goal.returns-in_err-stimulus-clause-cause
returns-in_err-stimulus-clause-cause g c =
    let p = err_from_is_err_and c.from_residual-in_err-stimulus.result c.from_residual-in_err-stimulus.ensures.1 in
    rw (p.1, p.2) (cause_at_stimulus _ _ (run_seen c.args.files c.args.size) c.args.files.stim.now _ c.in_ok-accepted.accepted.netlist _ _ _ c.in_err-stimulus.field-0.0 refl
    c.in_ok-accepted.ensures.same_files (Rose-since _ _ _ c.in_ok-accepted.ensures.kept) c.in_ok-accepted.ensures.ok c.in_err-stimulus.ensures.err)

pub returns-in_err-script-clause-out : goal.returns-in_err-script-clause-out
returns-in_err-script-clause-out g c =
    let p = err_from_is_err_and c.from_residual-in_err-script.result c.from_residual-in_err-script.ensures.1 in
    rw (p.1, p.2) (out_at_file _ _ _ _ _ _ _ c.in_err-script.field-0.0 c.in_err-script.ensures.err refl)

pub returns-in_err-script-clause-cause : goal.returns-in_err-script-clause-cause
returns-in_err-script-clause-cause g c =
    let p = err_from_is_err_and c.from_residual-in_err-script.result c.from_residual-in_err-script.ensures.1 in
    rw (p.1, p.2) (cause_at_script _ _ c.args.files.net.now c.args.files.stim.now c.args.files.sessions.now _ c.args.size c.in_ok-accepted.accepted.netlist c.in_ok-stimulus.stimulus _ _ _ c.in_err-script.field-0.0
    (c.in_ok-stimulus.ensures.same_files ∙ c.in_ok-accepted.ensures.same_files)
    (λ rose. Rose-since _ _ _ c.in_ok-accepted.ensures.kept (Rose-since _ _ _ c.in_ok-stimulus.ensures.kept rose)) c.in_ok-accepted.ensures.ok
    (StimulusTold-along _ _ c.args.files.stim.now _ c.in_ok-stimulus.stimulus c.in_ok-accepted.ensures.same_files c.in_ok-stimulus.ensures.ok) c.in_err-script.ensures.err)

pub returns-in_err-case-clause-out : goal.returns-in_err-case-clause-out
returns-in_err-case-clause-out g c =
    let p = err_from_is_err_and c.from_residual-in_err-case.result c.from_residual-in_err-case.ensures.1 in
    rw (p.1, p.2) (out_nothing _ _ 5 _ _ (omega arith) refl)

pub returns-in_err-told-clause-out : goal.returns-in_err-told-clause-out
returns-in_err-told-clause-out g c =
    let p = err_from_is_err_and c.from_residual-in_err-told.result c.from_residual-in_err-told.ensures.1 in
    rw (p.1, p.2) (out_nothing _ _ 5 _ _ (omega arith) refl)

pub returns-in_err-text-clause-out : goal.returns-in_err-text-clause-out
returns-in_err-text-clause-out g c =
    let p = err_from_is_err_and c.from_residual-in_err-text.result c.from_residual-in_err-text.ensures.1 in
    rw (p.1, p.2) (out_nothing _ _ 5 _ _ (omega arith) refl)

pub returns-clause-out : goal.returns-clause-out
returns-clause-out g c =
    out_of_run _ c.args.files.net.now c.in_ok-accepted.accepted.netlist c.in_ok-accepted.ensures.ok c.args.files.stim.now c.args.files.sessions.now c.args.size
    c.in_ok-stimulus.stimulus c.in_ok-script.script c.in_ok-told.told c.deref.result.now _ _ _ c.write.result
    (StimulusTold-along _ _ c.args.files.stim.now _ c.in_ok-stimulus.stimulus c.in_ok-accepted.ensures.same_files c.in_ok-stimulus.ensures.ok)
    (ScriptTold-along _ _ c.args.files.sessions.now _ c.in_ok-script.script (c.in_ok-stimulus.ensures.same_files ∙ c.in_ok-accepted.ensures.same_files) c.in_ok-script.ensures.ok)
    (run_of_case _ c.in_ok-accepted.accepted.levels _ c.in_ok-case.case c.in_ok-script.script c.args.size c.in_ok-told.told c.in_ok-case.ensures c.in_ok-told.ensures)
    (c.deref.ensures.value ∙ c.in_ok-text.ensures) c.write.ensures.all c.write.ensures.err c.write.ensures.unwritten

pub returns-clause-noninterference : goal.returns-clause-noninterference
returns-clause-noninterference g c =
    run_apart _ c.args.files.net.now c.args.files.stim.now c.args.files.sessions.now c.args.size c.in_ok-accepted.accepted.netlist c.in_ok-accepted.accepted.levels
    c.in_ok-stimulus.stimulus c.in_ok-script.script c.in_ok-told.told c.deref.result.now _ _ c.write.result c.in_ok-accepted.ensures.ok c.in_ok-accepted.ensures.levelled
    (StimulusTold-along _ _ c.args.files.stim.now _ c.in_ok-stimulus.stimulus c.in_ok-accepted.ensures.same_files c.in_ok-stimulus.ensures.ok)
    (ScriptTold-along _ _ c.args.files.sessions.now _ c.in_ok-script.script (c.in_ok-stimulus.ensures.same_files ∙ c.in_ok-accepted.ensures.same_files) c.in_ok-script.ensures.ok)
    (run_of_case _ c.in_ok-accepted.accepted.levels _ c.in_ok-case.case c.in_ok-script.script c.args.size c.in_ok-told.told c.in_ok-case.ensures c.in_ok-told.ensures)
    (c.deref.ensures.value ∙ c.in_ok-text.ensures) c.write.ensures.all
