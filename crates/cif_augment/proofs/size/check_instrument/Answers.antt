use Rattle.std.proofs.lemmas.Result.{err_from_is_err_and}
use Rattle.cif_augment.proofs.Faults.{names_first, size_ok, size_err}
use Rattle.cif_augment.proofs.size.check_instrument.Goals as goal

pub returns-in_err-check_names-clause-err : goal.returns-in_err-check_names-clause-err
returns-in_err-check_names-clause-err c =
    let p = err_from_is_err_and c.from_residual.result c.from_residual.ensures.1 in
    rw (p.1, p.2) (names_first c.args.netlist.now _ c.in_err-check_names.ensures.err)

pub returns-clause-ok : goal.returns-clause-ok
returns-clause-ok c = size_ok c.args.netlist.now c.check_size.result c.in_ok-check_names.ensures.ok c.check_size.ensures.ok

pub returns-clause-err : goal.returns-clause-err
returns-clause-err c = size_err c.args.netlist.now c.check_size.result c.in_ok-check_names.ensures.ok c.check_size.ensures.err
