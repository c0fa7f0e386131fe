use Rattle.std.proofs.Common.{◌∙◌, arith, refl}
use Rattle.std.proofs.lemmas.Result.{err_from_is_err_and}
use Rattle.cif_desk.specs.Commands.{augstim}
use Rattle.cif_desk.proofs.CycleLaws.{Rose-since}
use Rattle.cif_desk.proofs.AnswerLaws.{out_at_file, out_nothing, out_of_augstim, cause_at_netlist, cause_at_stimulus, StimulusTold-along}
use Rattle.cif_desk.proofs.desk.augstim.Goals as goal

pub returns-in_err-accepted-clause-out : goal.returns-in_err-accepted-clause-out
returns-in_err-accepted-clause-out g c =
    let p = err_from_is_err_and c.from_residual.result c.from_residual.ensures.1 in
    rw (p.1, p.2) (out_at_file _ _ _ _ _ _ _ c.in_err-accepted.field-0.0 c.in_err-accepted.ensures.err refl)

pub returns-in_err-accepted-clause-cause : goal.returns-in_err-accepted-clause-cause
returns-in_err-accepted-clause-cause g c =
    let p = err_from_is_err_and c.from_residual.result c.from_residual.ensures.1 in
    rw (p.1, p.2) (cause_at_netlist _ (augstim c.args.net.now c.args.stim.now) c.args.net.now _ _ _ c.in_err-accepted.field-0.0 refl c.in_err-accepted.ensures.err)

pub returns-in_err-original-clause-out : goal.returns-in_err-original-clause-out
returns-in_err-original-clause-out g c =
    let p = err_from_is_err_and c.from_residual-in_err-original.result c.from_residual-in_err-original.ensures.1 in
    rw (p.1, p.2) (out_at_file _ _ _ _ _ _ _ c.in_err-original.field-0.0 c.in_err-original.ensures.err refl)

pub returns-in_err-original-clause-cause : goal.returns-in_err-original-clause-cause
returns-in_err-original-clause-cause g c =
    let p = err_from_is_err_and c.from_residual-in_err-original.result c.from_residual-in_err-original.ensures.1 in
    rw (p.1, p.2) (cause_at_stimulus _ _ (augstim c.args.net.now c.args.stim.now) c.args.stim.now _ c.in_ok-accepted.accepted.netlist _ _ _ c.in_err-original.field-0.0 refl
    c.in_ok-accepted.ensures.same_files (Rose-since _ _ _ c.in_ok-accepted.ensures.kept) c.in_ok-accepted.ensures.ok c.in_err-original.ensures.err)

pub returns-in_err-augmented-clause-out : goal.returns-in_err-augmented-clause-out
returns-in_err-augmented-clause-out g c =
    let p = err_from_is_err_and c.from_residual-in_err-augmented.result c.from_residual-in_err-augmented.ensures.1 in
    rw (p.1, p.2) (out_nothing _ _ 5 _ _ (omega arith) refl)

pub returns-in_err-text-clause-out : goal.returns-in_err-text-clause-out
returns-in_err-text-clause-out g c =
    let p = err_from_is_err_and c.from_residual-in_err-text.result c.from_residual-in_err-text.ensures.1 in
    rw (p.1, p.2) (out_nothing _ _ 5 _ _ (omega arith) refl)

pub returns-clause-out : goal.returns-clause-out
returns-clause-out g c =
    out_of_augstim _ c.args.net.now c.in_ok-accepted.accepted.netlist c.in_ok-accepted.ensures.ok c.args.stim.now c.in_ok-original.original c.in_ok-augmented.augmented c.deref.result.now _ _ _ c.write.result
    (StimulusTold-along _ _ c.args.stim.now _ c.in_ok-original.original c.in_ok-accepted.ensures.same_files c.in_ok-original.ensures.ok)
    c.in_ok-augmented.ensures (c.deref.ensures.value ∙ c.in_ok-text.ensures.text) c.write.ensures.all c.write.ensures.err c.write.ensures.unwritten
