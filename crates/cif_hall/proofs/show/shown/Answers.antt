use Rattle.cif_hall.proofs.ShownWords.{short-values, short-taints}
use Rattle.cif_hall.proofs.show.shown.Goals as goal

pub of-value-requires : goal.of-value-requires
of-value-requires c = short-values _ _ _ _ c.in_ok-source_values.ensures c.items.ensures c.requires

pub of-taint-requires : goal.of-taint-requires
of-taint-requires c = short-taints _ _ _ _ c.in_ok-source_taints.ensures c.items-2.ensures c.requires
