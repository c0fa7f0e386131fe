use Rattle.cif_defs.specs.Accepted.{netlist_of}
use Rattle.cif_checks.specs.Checks.{IsWellFormed}
use Rattle.cif_nets.proofs.Wired.{wired}
use Rattle.cif_augment.specs.Augmented.{Adds}
use Rattle.cif_built_whole.proofs.Passes.{names_are_free, size_is_small}
use Rattle.cif_built_whole.proofs.Runnable.{accepted_form, runs_by_ranks}
use Rattle.cif_built_whole.proofs.built_modules_augment.Goals as goal

pub returns-clause-augments : goal.returns-clause-augments
returns-clause-augments c = λ n a released order sorted accepted passes levelled built.
    (let names = c.built_modules_add.ensures in
    let orders = c.ranks_and_orders.ensures in
    let free = names_are_free n passes in
    let adds : Adds n a = names.adds n a released sorted accepted free built in
    let form : IsWellFormed a = c.built_modules_are_well_formed.ensures n a released order accepted levelled built in
    let ranks = c.built_modules_have_ranks.ensures n a released order sorted accepted levelled adds built form in
    let runs = orders.runnable n order (accepted_form n accepted) sorted (wired n accepted) levelled in
    let built_runs = runs_by_ranks a ranks.0 form adds.in_order ranks.1 in
    record {
      adds = adds;
      checks = record {
        form = form;
        few_cells = names.few n a released sorted accepted (size_is_small n passes) built;
        no_loop = λ cells. orders.no_loop (netlist_of a) ranks.0 cells ranks.1;
      };
      shows = λ s k fits releases. c.built_modules_show_taint.ensures n a released runs.0 ranks.0 s k accepted runs.1 built_runs free adds built fits releases;
    })

pub returns-clause-cleared : goal.returns-clause-cleared
returns-clause-cleared c = λ n a released order sorted accepted passes levelled built.
    c.built_modules_add.ensures.cleared n a released sorted accepted (names_are_free n passes) built
