use Rattle.std.proofs.lemmas.Result.{err_from_is_err_and}
use Rattle.cif_stim_read.proofs.Heads.{read_fits}
use Rattle.cif_stim_read.proofs.read.read_stimulus.Goals as goal

pub returns-in_err-head-clause-err : goal.returns-in_err-head-clause-err
returns-in_err-head-clause-err c =
    let p = err_from_is_err_and c.from_residual.result c.from_residual.ensures.1 in
    rw (p.1, p.2) (c.in_err-head.ensures.err c.args.netlist.now)

pub returns-clause-fits : goal.returns-clause-fits
returns-clause-fits c = read_fits c.args.netlist.now _ _ c.in_ok-stimulus.stimulus c.in_ok-stimulus.ensures.lines
