use Rattle.std.proofs.Common.{◌∙◌, rules}
use Rattle.rule_coarse.proofs.CoarseTerms.{ones_from_replicate}
use Rattle.rule_coarse.proofs.product.all_ones.Goals as goal

pub returns : goal.returns
returns c = (search rules) ∙ ones_from_replicate c.args.width
