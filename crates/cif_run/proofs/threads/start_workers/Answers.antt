use Rattle.cif_run.proofs.Crossing.{roles_cross}
use Rattle.cif_run.proofs.threads.start_workers.Goals as goal

pub spawn_with-requires-send-F : goal.spawn_with-requires-send-F
spawn_with-requires-send-F g c κs = λ h.
    let sent = c.type_bounds.send-N in let shown = c.type_bounds.sync-N in let runtime = c.type_bounds.sync-R in let gate = c.type_bounds.sync-G in
    search roles_cross depth 20
