use Rattle.std.proofs.lemmas.Result.{IfOk-at_ok}
use Rattle.cif_desk.specs.Refusals.{stim_refusal}
use Rattle.cif_desk.proofs.RefusalLaws.{StopsBy-found}
use Rattle.cif_desk.proofs.refusal.stim_stop.Goals as goal

pub returns : goal.returns
returns c = StopsBy-found (stim_refusal c.args.fault) c.stim_line.result c.stop_by.result (λ v e. IfOk-at_ok _ e c.stim_line.ensures) c.stop_by.ensures
