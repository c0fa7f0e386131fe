use Rattle.std.proofs.lemmas.Result.{IfOk-weaker, IfErr-weaker}
use Rattle.cif_desk.proofs.FileLaws.{StopsAtFile-by, netlist_told, bad_netlist_refused}
use Rattle.cif_desk.proofs.files.netlist_file.Goals as goal

pub returns-clause-ok : goal.returns-clause-ok
returns-clause-ok g c = IfOk-weaker c.netlist_of_bytes.result _ _
    (λ a passes. netlist_told _ c.args.name.now c.deref.result.now c.in_ok-bytes.bytes.items a.netlist c.in_ok-bytes.ensures.ok c.deref.ensures.value passes) c.netlist_of_bytes.ensures.ok

pub returns-clause-err : goal.returns-clause-err
returns-clause-err g c = IfErr-weaker c.netlist_of_bytes.result _ _
    (λ stop h. StopsAtFile-by _ _ _ c.args.name.now stop
    (λ r fails. bad_netlist_refused _ c.args.name.now c.deref.result.now c.in_ok-bytes.bytes.items r c.in_ok-bytes.ensures.ok c.deref.ensures.value fails) h) c.netlist_of_bytes.ensures.err
