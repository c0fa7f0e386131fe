use Rattle.std.proofs.Common.{◌∙◌, ap}
use Rattle.cif_defs.specs.RawModule.{net_numbers, rising}
use Rattle.cif_nets.proofs.NumberLaws.{sorted_numbers}
use Rattle.cif_nets.proofs.numbers.net_numbers.Goals as goal

pub returns : goal.returns
unfolding net_numbers
returns c = sorted_numbers _ _ _ c.sort_unstable.ensures.permutation c.sort_unstable.ensures.sorted c.dedup.ensures.filtered ∙ ap rising c.in_ok-numbers.ensures
