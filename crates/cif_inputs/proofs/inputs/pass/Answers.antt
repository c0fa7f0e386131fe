use Rattle.std.proofs.Common.{arith}
use Rattle.cif_inputs.proofs.Cursors.{stops_later, passes_line, if_some}
use Rattle.cif_inputs.proofs.inputs.pass.Goals as goal

pub returns-then-is_later-clause-stops : goal.returns-then-is_later-clause-stops
returns-then-is_later-clause-stops c = stops_later _ _ _ _ _ c.loop-number-test.true c.index-lines-number.is c.is_later.ensures c.if-is_later.true

pub loop-number-preserved : goal.loop-number-preserved
loop-number-preserved c = λ ports same.
    passes_line ports _ _ _ _ _ _ _ _ _ _ (c.loop-number.invariant ports same) c.loop-number-test.true c.index-lines-number.is c.is_later.ensures c.if-is_later.false same
    (if_some _ _ (λ h e. let inside = c.requires.places _ h e in omega arith))
    c.note_setter.ensures
