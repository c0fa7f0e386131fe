use Rattle.cif_shown.proofs.Unique.{taints_settled_too, values_unique}
use Rattle.cif_shown.proofs.settled_is_unique.Goals as goal

pub returns-clause-values : goal.returns-clause-values
returns-clause-values c = λ n order g values taints w o h b. values_unique n order g values taints w o h b

pub returns-clause-taints : goal.returns-clause-taints
returns-clause-taints c = λ n order g values taints w o h b. taints_settled_too n order g values taints w o h b
