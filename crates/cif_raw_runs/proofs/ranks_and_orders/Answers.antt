use Rattle.cif_defs.proofs.Orders.{place_in}
use Rattle.cif_raw_runs.proofs.RankLaws.{no_loop, runnable}
use Rattle.cif_raw_runs.proofs.ranks_and_orders.Goals as goal

pub returns-clause-runnable : goal.returns-clause-runnable
returns-clause-runnable c = λ raw order form in_order wired levelled. (place_in order, runnable raw order form in_order wired levelled)

pub returns-clause-no_loop : goal.returns-clause-no_loop
returns-clause-no_loop c = no_loop
