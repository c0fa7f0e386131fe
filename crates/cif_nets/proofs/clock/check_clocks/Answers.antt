use Rattle.std.specs.Prelude.{Option, IfErr}
use Rattle.std.proofs.Common.{sym, ap, subst, ◌∙◌}
use Rattle.cif_defs.specs.declared.raw_module.Raw.{Raw}
use Rattle.cif_checks.specs.Checks.{IsFirst}
use Rattle.cif_checks.specs.declared.fault.BuildFault.{BuildFault}
use Rattle.cif_nets.specs.Clocks.{edge_faults}
use Rattle.cif_nets.proofs.ClockLaws.{clocks_checked, no_clocks}
use Rattle.cif_nets.proofs.clock.check_clocks.Goals as goal

pub returns-in-Some-clause-ok : goal.returns-in-Some-clause-ok
returns-in-Some-clause-ok c h =
    sym (ap (λ (r : Raw). edge_faults r c.in-Some.edge) c.known.ensures.is ∙ clocks_checked c.args.nets.now c.in-Some.edge c.in-Some.ensures) ∙ c.check_edge.ensures.ok h

pub returns-in-Some-clause-err : goal.returns-in-Some-clause-err
returns-in-Some-clause-err c =
    let P : Option BuildFault → Type 0 = λ o. IfErr c.check_edge.result (λ e. IsFirst o e) in
    subst P (ap (λ (r : Raw). edge_faults r c.in-Some.edge) c.known.ensures.is ∙ clocks_checked c.args.nets.now c.in-Some.edge c.in-Some.ensures) c.check_edge.ensures.err

pub returns-in-None-clause-ok : goal.returns-in-None-clause-ok
returns-in-None-clause-ok c h = no_clocks c.args.nets.now c.in-None.ensures
