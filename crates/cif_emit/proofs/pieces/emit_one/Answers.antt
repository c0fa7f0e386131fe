use Rattle.cif_emit.proofs.pieces.emit_one.Goals as goal

pub returns-in-Not-clause-ok : goal.returns-in-Not-clause-ok
returns-in-Not-clause-ok c = rw c.in-Not.is c.complement.ensures.ok

pub returns-in-ReduceAnd-clause-ok : goal.returns-in-ReduceAnd-clause-ok
returns-in-ReduceAnd-clause-ok c = rw c.in-ReduceAnd.is c.reduction.ensures.ok

pub returns-in-ReduceOr-clause-ok : goal.returns-in-ReduceOr-clause-ok
returns-in-ReduceOr-clause-ok c = rw c.in-ReduceOr.is c.reduction-in-ReduceOr.ensures.ok

pub returns-in-ReduceXor-clause-ok : goal.returns-in-ReduceXor-clause-ok
returns-in-ReduceXor-clause-ok c = rw c.in-ReduceXor.is c.reduction-in-ReduceXor.ensures.ok
