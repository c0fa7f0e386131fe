use Rattle.std.proofs.Common.{◌∙◌, arith, refl}
use Rattle.std.proofs.lemmas.Result.{err_from_is_err_and}
use Rattle.cif_desk.specs.Commands.{check}
use Rattle.cif_desk.proofs.AnswerLaws.{out_at_file, out_nothing, out_of_check, cause_at_netlist}
use Rattle.cif_desk.proofs.desk.check.Goals as goal

pub returns-in_err-accepted-clause-out : goal.returns-in_err-accepted-clause-out
returns-in_err-accepted-clause-out g c =
    let p = err_from_is_err_and c.from_residual.result c.from_residual.ensures.1 in
    rw (p.1, p.2) (out_at_file _ _ _ _ _ _ _ c.in_err-accepted.field-0.0 c.in_err-accepted.ensures.err refl)

pub returns-in_err-accepted-clause-cause : goal.returns-in_err-accepted-clause-cause
returns-in_err-accepted-clause-cause g c =
    let p = err_from_is_err_and c.from_residual.result c.from_residual.ensures.1 in
    rw (p.1, p.2) (cause_at_netlist _ (check c.args.net.now) c.args.net.now _ _ _ c.in_err-accepted.field-0.0 refl c.in_err-accepted.ensures.err)

pub returns-in_err-text-clause-out : goal.returns-in_err-text-clause-out
returns-in_err-text-clause-out g c =
    let p = err_from_is_err_and c.from_residual-in_err-text.result c.from_residual-in_err-text.ensures.1 in
    rw (p.1, p.2) (out_nothing _ _ 5 _ _ (omega arith) refl)

pub returns-clause-out : goal.returns-clause-out
returns-clause-out g c =
    out_of_check _ c.args.net.now c.in_ok-accepted.accepted.netlist c.in_ok-accepted.ensures.ok c.deref.result.now _ _ _ c.write.result
    (c.deref.ensures.value ∙ c.in_ok-text.ensures) c.write.ensures.all c.write.ensures.err c.write.ensures.unwritten
