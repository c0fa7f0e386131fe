-- A list of ones is the word of ones.
use Rattle.std.proofs.Common.{◌∙◌, rules}
use Rattle.rule_state.proofs.StoredTaintWords.{ones_from_replicate}
use Rattle.rule_state.proofs.memory.ones.Goals as goal

pub returns : goal.returns
returns c = (search rules) ∙ ones_from_replicate c.args.width
