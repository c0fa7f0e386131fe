use Rattle.std.proofs.Common.{◌≡◌, Ok, sym, refl, subst}
use Rattle.cif_defs.specs.declared.raw_module.Raw.{Raw}
use Rattle.cif_defs.specs.Accepted.{netlist_of}
use Rattle.cif_checks.specs.Checks.{IsAccepted}
use Rattle.cif_level.specs.LevelFaults.{IsReal, HasLeastNameFirst}
use Rattle.cif_level.specs.declared.fault.LevelFault.{LevelFault}
use Rattle.cif_json.specs.Answers.{ComesTo}
use Rattle.cif_desk.specs.Permitted.{FailsNetlist, unread, unaccepted}
use Rattle.cif_desk.proofs.FileLaws.{StopsBy-weaker, first_found, fails_by_loop}
use Rattle.cif_desk.proofs.files.netlist_of_bytes.Goals as goal

pub returns-in-Err-clause-err : goal.returns-in-Err-clause-err
returns-in-Err-clause-err c =
    StopsBy-weaker _ (FailsNetlist c.args.bytes.now) c.json_stop.result (λ r e. unread c.in-Err.fault c.in-Err.ensures.err e) c.json_stop.ensures

pub returns-in-Err-build-clause-err : goal.returns-in-Err-build-clause-err
returns-in-Err-build-clause-err c =
    StopsBy-weaker _ (FailsNetlist c.args.bytes.now) c.build_stop.result
    (λ r e. unaccepted c.in-Ok.raw c.in-Err-build.fault c.in-Ok.ensures.ok (first_found _ c.in-Err-build.fault r c.in-Err-build.ensures.err e) e) c.build_stop.ensures

pub returns-in-Err-Loop-clause-err : goal.returns-in-Err-Loop-clause-err
returns-in-Err-Loop-clause-err c =
    let built : c.in-Ok-build.netlist ≡ c.in-Ok.raw = c.in-Ok-build.ensures.ok in
    let Real : LevelFault → Type 0 = IsReal (netlist_of c.in-Ok-build.netlist) in
    let loop = subst Real c.in-Err-Loop.field-0-is c.in-Err-Loop.ensures.err in
    let Least : LevelFault → Type 0 = HasLeastNameFirst (netlist_of c.in-Ok-build.netlist) in
    let least = subst Least c.in-Err-Loop.field-0-is c.in-Err-Loop.ensures.least_name in
    let Read : Raw → Type 0 = λ raw. ComesTo c.args.bytes.now (Ok raw) in
    StopsBy-weaker _ (FailsNetlist c.args.bytes.now) c.loop_stop.result
    (λ r is. fails_by_loop c.args.bytes.now c.in-Ok-build.netlist c.in-Err-Loop.cells c.items.result.now r
    (subst Read (sym built) c.in-Ok.ensures.ok) (subst IsAccepted (sym built) (c.in-Ok-build.ensures.accepted refl)) loop least c.items.ensures is) c.loop_stop.ensures
