use Rattle.std.proofs.Common.{◌≢◌, ◌∙◌, length, rules}
use Rattle.cif_json.proofs.TopLaws.{chosen_of_many}
use Rattle.cif_json.proofs.top.chosen.Goals as goal

pub returns-else-len-eq1 : goal.returns-else-len-eq1
returns-else-len-eq1 c =
    let many : length c.args.modules.entries ≢ 1 = search rules in
    c.only_top.ensures ∙ chosen_of_many _ many
