use Rattle.std.proofs.lemmas.Result.{IfOk-weaker, IfErr-weaker}
use Rattle.cif_desk.proofs.FileLaws.{StopsAtFile-by, script_told, bad_script_refused}
use Rattle.cif_desk.proofs.files.script_file.Goals as goal

pub returns-clause-ok : goal.returns-clause-ok
returns-clause-ok g c = IfOk-weaker c.script_of_bytes.result _ _
    (λ s read. script_told _ c.args.name.now c.deref.result.now c.in_ok-bytes.bytes.items _ s c.in_ok-bytes.ensures.ok c.deref.ensures.value read) c.script_of_bytes.ensures.ok

pub returns-clause-err : goal.returns-clause-err
returns-clause-err g c = IfErr-weaker c.script_of_bytes.result _ _
    (λ stop h. StopsAtFile-by _ _ _ c.args.name.now stop
    (λ r none. bad_script_refused _ c.args.name.now c.deref.result.now c.in_ok-bytes.bytes.items _ r c.in_ok-bytes.ensures.ok c.deref.ensures.value none) h) c.script_of_bytes.ensures.err
