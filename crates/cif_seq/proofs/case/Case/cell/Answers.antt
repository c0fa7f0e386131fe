-- The cell stands at its number in the netlist.
use Rattle.std.proofs.Common.{sym, subst, length, ◌<◌}
use Rattle.cif_seq.specs.Cases.{CaseOf, net_of}
use Rattle.cif_seq.proofs.CaseLaws.{fitted_found, numbers_found}
use Rattle.cif_seq.proofs.case.Case.cell.Goals as goal

pub returns-clause-fitted : goal.returns-clause-fitted
returns-clause-fitted c =
    let inside = subst (λ (x : CaseOf). c.args.number < length (net_of x).cells) (sym c.self.view_is) c.requires in
    fitted_found c.self.inside.netlist c.cells.result.now c.args.number c.index-cells-number.result c.cells.ensures.fitted c.cells.ensures.are c.index-cells-number.is inside

pub returns-clause-numbers : goal.returns-clause-numbers
returns-clause-numbers c =
    let inside = subst (λ (x : CaseOf). c.args.number < length (net_of x).cells) (sym c.self.view_is) c.requires in
    numbers_found c.self.inside.netlist c.cells.result.now c.args.number c.index-cells-number.result c.cells.ensures.accepted c.cells.ensures.are c.index-cells-number.is inside
