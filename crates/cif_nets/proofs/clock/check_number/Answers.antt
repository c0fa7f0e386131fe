use Rattle.std.proofs.Common.{ap, refl, subst, sym, ◌∙◌, List, Option, None, ◌≡◌}
use Rattle.std.specs.List.{filter}
use Rattle.std.specs.Prelude.{IfErr}
use Rattle.std.proofs.lemmas.Result.{err_from_is_err_and}
use Rattle.cif_defs.specs.Accepted.{is_output}
use Rattle.cif_defs.specs.declared.raw_module.RawPort.{RawPort}
use Rattle.cif_checks.specs.Checks.{first_fault, IsFirst}
use Rattle.cif_nets.specs.Clocks.{operand_fault, port_fault}
use Rattle.cif_checks.specs.declared.fault.BuildFault.{BuildFault}
use Rattle.cif_checks.proofs.FirstFaults.{both_pass, IsFirst-left, IsFirst-same}
use Rattle.cif_nets.proofs.clock.check_number.Goals as goal

pub returns-in_err-check_operands-clause-err : goal.returns-in_err-check_operands-clause-err
returns-in_err-check_operands-clause-err c =
    let p = err_from_is_err_and c.from_residual.result c.from_residual.ensures.1 in
    rw (p.1, p.2) (IsFirst-left (first_fault (operand_fault c.args.number) c.args.known.now.cells) (first_fault (port_fault c.args.number) (filter is_output c.args.known.now.ports)) _
    (IsFirst-same (first_fault (operand_fault c.args.number) c.cells.result.now) (first_fault (operand_fault c.args.number) c.args.known.now.cells) _ (ap (first_fault (operand_fault c.args.number)) c.cells.ensures) c.in_err-check_operands.ensures.err))

pub returns-clause-ok : goal.returns-clause-ok
returns-clause-ok c h =
    both_pass (first_fault (operand_fault c.args.number) c.args.known.now.cells) (first_fault (port_fault c.args.number) (filter is_output c.args.known.now.ports))
    (sym (ap (first_fault (operand_fault c.args.number)) c.cells.ensures) ∙ c.in_ok-check_operands.ensures.ok refl)
    (sym (ap (λ (ps : List RawPort). first_fault (port_fault c.args.number) (filter is_output ps)) c.ports.ensures) ∙ c.check_outputs.ensures.ok h)

pub returns-clause-err : goal.returns-clause-err
returns-clause-err c =
    let none : first_fault (operand_fault c.args.number) c.args.known.now.cells ≡ None = sym (ap (first_fault (operand_fault c.args.number)) c.cells.ensures) ∙ c.in_ok-check_operands.ensures.ok refl in
    let P : Option BuildFault → Type 0 = λ o. IfErr c.check_outputs.result (λ e. IsFirst o e) in
    let ports : P (first_fault (port_fault c.args.number) (filter is_output c.args.known.now.ports)) = subst P (ap (λ (ps : List RawPort). first_fault (port_fault c.args.number) (filter is_output ps)) c.ports.ensures) c.check_outputs.ensures.err in
    rw none ports
