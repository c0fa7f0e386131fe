use Rattle.std.proofs.Common.{sym, ap, ◌∙◌, set}
use Rattle.cif_nets.specs.Drives.{driven_more}
use Rattle.cif_nets.proofs.ToldLaws.{found_told, missed_told}
use Rattle.cif_nets.proofs.drives.record.Goals as goal

pub returns-in-Some : goal.returns-in-Some
returns-in-Some c =
    ap (set c.args.drives.now c.in-Some.place) c.more.ensures
    ∙ sym (found_told driven_more c.args.numbers.now c.args.drives.now c.args.number c.args.driver c.in-Some.place _ c.requires.rising c.in-Some.ensures c.requires.same)

pub returns-in_default : goal.returns-in_default
returns-in_default c = sym (missed_told driven_more c.args.numbers.now c.args.drives.now c.args.number c.args.driver c.requires.rising c.in_default.ensures)
