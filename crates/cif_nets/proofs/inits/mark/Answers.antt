use Rattle.std.proofs.Common.{false, sym}
use Rattle.cif_nets.specs.Inits.{marked}
use Rattle.cif_nets.proofs.ToldLaws.{found_told, missed_told}
use Rattle.cif_nets.proofs.inits.mark.Goals as goal

pub returns-in-Some : goal.returns-in-Some
returns-in-Some c = sym (found_told marked c.args.numbers.now c.args.marks.now c.args.number tt c.in-Some.place false c.requires.rising c.in-Some.ensures c.requires.same)

pub returns-in_default : goal.returns-in_default
returns-in_default c = sym (missed_told marked c.args.numbers.now c.args.marks.now c.args.number tt c.requires.rising c.in_default.ensures)
