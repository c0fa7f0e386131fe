use Rattle.std.proofs.lemmas.Result.{IfOk-weaker, IfErr-weaker}
use Rattle.cif_desk.proofs.FileLaws.{StopsAtFile-by, stimulus_told, bad_stimulus_refused, some_cycles}
use Rattle.cif_desk.proofs.files.stimulus_file.Goals as goal

pub returns-clause-ok : goal.returns-clause-ok
returns-clause-ok g c = IfOk-weaker c.stimulus_of_bytes.result _ _
    (λ s read. stimulus_told _ c.args.name.now c.deref.result.now c.in_ok-bytes.bytes.items _ s c.in_ok-bytes.ensures.ok c.deref.ensures.value read) c.stimulus_of_bytes.ensures.ok

pub returns-clause-cycles : goal.returns-clause-cycles
returns-clause-cycles g c = IfOk-weaker c.stimulus_of_bytes.result _ _ (λ s ordered. some_cycles s.cycles ordered.cycles) c.stimulus_of_bytes.ensures.ordered

pub returns-clause-err : goal.returns-clause-err
returns-clause-err g c = IfErr-weaker c.stimulus_of_bytes.result _ _
    (λ stop h. StopsAtFile-by _ _ _ c.args.name.now stop
    (λ r none. bad_stimulus_refused _ c.args.name.now c.deref.result.now c.in_ok-bytes.bytes.items _ r c.in_ok-bytes.ensures.ok c.deref.ensures.value none) h) c.stimulus_of_bytes.ensures.err
