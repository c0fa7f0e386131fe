use Rattle.std.proofs.lemmas.Result.{IfOk-at_ok}
use Rattle.cif_desk.specs.Refusals.{script_refusal}
use Rattle.cif_desk.proofs.RefusalLaws.{StopsBy-found}
use Rattle.cif_desk.proofs.refusal.script_stop.Goals as goal

pub returns : goal.returns
returns c = StopsBy-found (script_refusal c.args.fault) c.script_line.result c.stop_by.result (λ v e. IfOk-at_ok _ e c.script_line.ensures) c.stop_by.ensures
