use Rattle.cif_desk.proofs.FileLaws.{StopsBy-weaker, script_first}
use Rattle.cif_desk.proofs.files.script_of_bytes.Goals as goal

pub returns-in-Err-clause-err : goal.returns-in-Err-clause-err
returns-in-Err-clause-err c =
    StopsBy-weaker _ _ c.script_stop.result
    (λ r e. (c.in-Err.fault, script_first _ c.in-Err.fault r c.in-Err.ensures.err e, e)) c.script_stop.ensures
