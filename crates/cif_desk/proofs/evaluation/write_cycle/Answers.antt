use Rattle.std.proofs.Common.{refl}
use Rattle.std.proofs.lemmas.Result.{err_from_is_err_and}
use Rattle.cif_io.proofs.OutsideLaws.{AppendsPrefix-nothing}
use Rattle.cif_desk.proofs.evaluation.write_cycle.Goals as goal

pub returns-in_err-set_cycle-clause-err : goal.returns-in_err-set_cycle-clause-err
returns-in_err-set_cycle-clause-err g c =
    let p = err_from_is_err_and c.from_residual.result c.from_residual.ensures.1 in
    rw (p.1, p.2) (AppendsPrefix-nothing _ refl)
