use Rattle.std.specs.Prelude.{IfErr}
use Rattle.std.proofs.Common.{List, ℕ, subst, sym, rules}
use Rattle.cif_defs.specs.Accepted.{netlist_of}
use Rattle.cif_defs.specs.Loop.{IsLevelled}
use Rattle.cif_defs.proofs.Orders.{loop_excludes_order}
use Rattle.cif_level.proofs.SearchSteps.{kept_levelled}
use Rattle.cif_level.specs.LevelFaults.{IsReal}
use Rattle.cif_level.proofs.LeastNames.{least_name_first}
use Rattle.cif_level.proofs.Outputs.{one_output}
use Rattle.cif_level.proofs.search.levels.Goals as goal

pub returns-clause-order : goal.returns-clause-order
returns-clause-order c =
    subst (λ (cells : List ℕ). IsLevelled (netlist_of c.args.netlist.now) cells) (sym c.of.ensures)
    (kept_levelled _ _ _ _ _ c.cells.ensures.wired (one_output _ c.cells.ensures.accepted) c.in_ok-search.ensures.keeps c.in_ok-search.ensures.placed)

pub returns-clause-no_loop : goal.returns-clause-no_loop
returns-clause-no_loop c = λ cells loop. loop_excludes_order _ cells _ loop
    (kept_levelled _ _ _ _ _ c.cells.ensures.wired (one_output _ c.cells.ensures.accepted) c.in_ok-search.ensures.keeps c.in_ok-search.ensures.placed)

pub returns-in_err-search-clause-least_name : goal.returns-in_err-search-clause-least_name
returns-in_err-search-clause-least_name c =
    let real : IfErr c.from_residual.result (IsReal (netlist_of c.args.netlist.now)) = search rules in
    least_name_first (netlist_of c.args.netlist.now) c.cells.result.now c.from_residual.result c.cells.ensures.are c.cells.ensures.in_order real
