use Rattle.std.proofs.Common.{ap, sym, subst, ◌∙◌, Option}
use Rattle.std.specs.Prelude.{IfErr}
use Rattle.cif_checks.specs.Checks.{IsFirst, drivers_fault}
use Rattle.cif_checks.specs.declared.fault.BuildFault.{BuildFault}
use Rattle.cif_nets.proofs.NetLaws.{drivers_checked}
use Rattle.cif_nets.proofs.nets.Nets.check_drivers.Goals as goal

pub returns-clause-ok : goal.returns-clause-ok
returns-clause-ok c h =
    let same = drivers_checked c.self.inside.known c.deref.result.now c.deref-2.result.now (c.deref.ensures.value ∙ c.self.invariant.same_numbers) (c.deref-2.ensures.value ∙ c.self.invariant.same_drives) ∙ ap drivers_fault c.self.view_is in
    sym same ∙ c.check_single.ensures.ok h

pub returns-clause-err : goal.returns-clause-err
returns-clause-err c =
    let same = drivers_checked c.self.inside.known c.deref.result.now c.deref-2.result.now (c.deref.ensures.value ∙ c.self.invariant.same_numbers) (c.deref-2.ensures.value ∙ c.self.invariant.same_drives) ∙ ap drivers_fault c.self.view_is in
    let P : Option BuildFault → Type 0 = λ o. IfErr c.check_single.result (λ e. IsFirst o e) in
    subst P same c.check_single.ensures.err
