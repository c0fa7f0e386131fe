use Rattle.std.proofs.Common.{ap}
use Rattle.cif_desk.specs.Refusals.{json_refusal}
use Rattle.cif_desk.proofs.RefusalLaws.{told}
use Rattle.cif_desk.proofs.refusal.json_line.Goals as goal

pub returns-in-NoModules : goal.returns-in-NoModules
returns-in-NoModules c = told _ _ _ (ap json_refusal c.in-NoModules.is) c.refusal_line-in-NoModules.ensures

pub returns-in-NoTop : goal.returns-in-NoTop
returns-in-NoTop c = told _ _ _ (ap json_refusal c.in-NoTop.is) c.refusal_line-in-NoTop.ensures

pub returns-in-BadShape : goal.returns-in-BadShape
returns-in-BadShape c = told _ _ _ (ap json_refusal c.in-BadShape.is) c.named.ensures
