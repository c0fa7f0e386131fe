use Rattle.cif_desk.proofs.FileLaws.{StopsBy-weaker, read_first}
use Rattle.cif_desk.proofs.files.stimulus_of_bytes.Goals as goal

pub returns-in-Err-clause-err : goal.returns-in-Err-clause-err
returns-in-Err-clause-err c =
    StopsBy-weaker _ _ c.stim_stop.result
    (λ r e. (c.in-Err.fault, read_first _ c.in-Err.fault r c.in-Err.ensures.err e, e)) c.stim_stop.ensures
