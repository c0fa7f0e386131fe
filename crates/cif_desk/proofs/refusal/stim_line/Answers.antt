use Rattle.std.proofs.Common.{ap}
use Rattle.cif_desk.specs.Refusals.{stim_refusal}
use Rattle.cif_desk.proofs.RefusalLaws.{told}
use Rattle.cif_desk.proofs.refusal.stim_line.Goals as goal

pub returns-in-BadLine : goal.returns-in-BadLine
returns-in-BadLine c = told _ _ _ (ap stim_refusal c.in-BadLine.is) c.at_number.ensures

pub returns-in-NoSuchName : goal.returns-in-NoSuchName
returns-in-NoSuchName c = told _ _ _ (ap stim_refusal c.in-NoSuchName.is) c.at_number-in-NoSuchName.ensures

pub returns-in-WrongWidth : goal.returns-in-WrongWidth
returns-in-WrongWidth c = told _ _ _ (ap stim_refusal c.in-WrongWidth.is) c.at_number-in-WrongWidth.ensures

pub returns-in-SetTwice : goal.returns-in-SetTwice
returns-in-SetTwice c = told _ _ _ (ap stim_refusal c.in-SetTwice.is) c.at_number-in-SetTwice.ensures

pub returns-in-BadAddress : goal.returns-in-BadAddress
returns-in-BadAddress c = told _ _ _ (ap stim_refusal c.in-BadAddress.is) c.at_number-in-BadAddress.ensures

pub returns-in-NoCycles : goal.returns-in-NoCycles
returns-in-NoCycles c = told _ _ _ (ap stim_refusal c.in-NoCycles.is) c.refusal_line.ensures

pub returns-in-TooManyCycles : goal.returns-in-TooManyCycles
returns-in-TooManyCycles c = told _ _ _ (ap stim_refusal c.in-TooManyCycles.is) c.refusal_line-in-TooManyCycles.ensures
