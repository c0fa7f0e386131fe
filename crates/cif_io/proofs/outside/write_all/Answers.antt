use Rattle.std.proofs.Common.{arith, refl}
use Rattle.std.proofs.lemmas.Result.{err_from_is_err_and}
use Rattle.cif_io.proofs.OutsideLaws.{Appends-nothing, Appends-rest, AppendsPrefix-stop}
use Rattle.cif_io.proofs.outside.write_all.Goals as goal

pub loop-done-init : goal.loop-done-init
loop-done-init g c = record { within = omega arith; appended = Appends-nothing refl; kept = refl }

pub returns-in_err-done-clause-part : goal.returns-in_err-done-clause-part
returns-in_err-done-clause-part g c =
    let p = err_from_is_err_and c.from_residual.result c.from_residual.ensures.1 in
    rw (p.1) (AppendsPrefix-stop _ _ c.loop-done.invariant.appended c.in_err-done.ensures.took_nothing)

pub loop-done-preserved : goal.loop-done-preserved
loop-done-preserved g c = record {
  within = omega (arith, c.in_ok-done.ensures.within);
  appended = Appends-rest _ _ _ c.loop-done.invariant.appended c.in_ok-done.ensures.took;
  kept = cc (c.in_ok-done.ensures.kept);
}
