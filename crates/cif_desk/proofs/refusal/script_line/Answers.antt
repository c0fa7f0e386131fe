use Rattle.std.proofs.Common.{ap}
use Rattle.cif_desk.specs.Refusals.{script_refusal}
use Rattle.cif_desk.proofs.RefusalLaws.{told}
use Rattle.cif_desk.proofs.refusal.script_line.Goals as goal

pub returns-in-BadLine : goal.returns-in-BadLine
returns-in-BadLine c = told _ _ _ (ap script_refusal c.in-BadLine.is) c.at_number.ensures

pub returns-in-NoSuchName : goal.returns-in-NoSuchName
returns-in-NoSuchName c = told _ _ _ (ap script_refusal c.in-NoSuchName.is) c.at_number-in-NoSuchName.ensures

pub returns-in-NotTwoValued : goal.returns-in-NotTwoValued
returns-in-NotTwoValued c = told _ _ _ (ap script_refusal c.in-NotTwoValued.is) c.at_number-in-NotTwoValued.ensures

pub returns-in-TooManySessions : goal.returns-in-TooManySessions
returns-in-TooManySessions c = told _ _ _ (ap script_refusal c.in-TooManySessions.is) c.refusal_line.ensures

pub returns-in-SameName : goal.returns-in-SameName
returns-in-SameName c = told _ _ _ (ap script_refusal c.in-SameName.is) c.at_number-in-SameName.ensures

pub returns-in-ScriptTooLarge : goal.returns-in-ScriptTooLarge
returns-in-ScriptTooLarge c = told _ _ _ (ap script_refusal c.in-ScriptTooLarge.is) c.refusal_line-in-ScriptTooLarge.ensures
