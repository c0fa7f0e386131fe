use Rattle.std.proofs.Common.{sym, ap, ◌∙◌, set}
use Rattle.cif_nets.specs.Inits.{init_more}
use Rattle.cif_nets.proofs.ToldLaws.{found_told, missed_told}
use Rattle.cif_nets.proofs.inits.record.Goals as goal

pub returns-in-Some : goal.returns-in-Some
returns-in-Some c =
    ap (set c.args.inits.now c.in-Some.place) c.more.ensures
    ∙ sym (found_told init_more c.args.numbers.now c.args.inits.now c.args.number c.args.digit c.in-Some.place _ c.requires.rising c.in-Some.ensures c.requires.same)

pub returns-in_default : goal.returns-in_default
returns-in_default c = sym (missed_told init_more c.args.numbers.now c.args.inits.now c.args.number c.args.digit c.requires.rising c.in_default.ensures)
