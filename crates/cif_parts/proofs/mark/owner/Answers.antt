use Rattle.cif_parts.proofs.Marks.{owner_below}
use Rattle.cif_parts.proofs.mark.owner.Goals as goal

pub returns-clause-part : goal.returns-clause-part
returns-clause-part c = rw (c.from.ensures, c.from-2.ensures, c.from-3.ensures) (owner_below c.args.cells c.args.parts c.args.number c.requires.inside c.requires.some)
