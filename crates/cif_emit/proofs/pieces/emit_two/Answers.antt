use Rattle.cif_emit.proofs.pieces.emit_two.Goals as goal

pub returns-in-Equal-clause-ok : goal.returns-in-Equal-clause-ok
returns-in-Equal-clause-ok c = rw c.in-Equal.is c.equality.ensures.ok
