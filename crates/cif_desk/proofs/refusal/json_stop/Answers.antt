use Rattle.std.proofs.lemmas.Result.{IfOk-at_ok}
use Rattle.cif_desk.specs.Refusals.{json_refusal}
use Rattle.cif_desk.proofs.RefusalLaws.{StopsBy-found}
use Rattle.cif_desk.proofs.refusal.json_stop.Goals as goal

pub returns : goal.returns
returns c = StopsBy-found (json_refusal c.args.fault) c.json_line.result c.stop_by.result (λ v e. IfOk-at_ok _ e c.json_line.ensures) c.stop_by.ensures
