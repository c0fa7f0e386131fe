use Rattle.std.proofs.Common.{sym, ◌∙◌}
use Rattle.cif_augment.proofs.Digits.{numbered_among, numbered_nowhere}
use Rattle.cif_augment.proofs.taken.is_numbered.Goals as goal

pub returns-in-Some : goal.returns-in-Some
returns-in-Some c = c.is_borne.ensures ∙ sym (numbered_among c.args.name.now c.in-Some.owner.now c.args.cells.now c.in-Some.ensures.some)

pub returns-in-None : goal.returns-in-None
returns-in-None c = sym (numbered_nowhere c.args.name.now c.args.cells.now c.in-None.ensures.none)
