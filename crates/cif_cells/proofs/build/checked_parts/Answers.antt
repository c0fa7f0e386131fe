use Rattle.std.proofs.Common.{refl}
use Rattle.std.proofs.lemmas.Result.{err_from_is_err_and}
use Rattle.cif_cells.proofs.BuildLaws.{early_first, later_first, no_fault}
use Rattle.cif_nets.proofs.NetLaws.{numbers_increase}
use Rattle.cif_cells.proofs.build.checked_parts.Goals as goal

pub returns-in_err-nets-clause-err : goal.returns-in_err-nets-clause-err
returns-in_err-nets-clause-err c =
    let p = err_from_is_err_and c.from_residual.result c.from_residual.ensures.1 in
    rw (p.1, p.2) (early_first c.args.raw.now _ c.in_err-nets.ensures.err)

pub all_inits-requires : goal.all_inits-requires
all_inits-requires c = numbers_increase c.in_ok-nets.nets c.numbers.result.now c.numbers.ensures.is

pub returns-in_err-check_nets-clause-err : goal.returns-in_err-check_nets-clause-err
returns-in_err-check_nets-clause-err c =
    let p = err_from_is_err_and c.from_residual-in_err-check_nets.result c.from_residual-in_err-check_nets.ensures.1 in
    rw (p.1, p.2) (later_first c.args.raw.now c.in_ok-nets.nets _ c.in_ok-nets.ensures.is c.known.ensures.counts c.known.ensures.ports c.known.ensures.cells c.in_err-check_nets.ensures.err)

pub of-requires-clause-accepted : goal.of-requires-clause-accepted
of-requires-clause-accepted c = no_fault c.in_ok-nets.nets c.known.ensures.counts c.known.ensures.ports c.known.ensures.cells (c.in_ok-check_nets.ensures.ok refl)
