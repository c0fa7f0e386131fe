use Rattle.std.proofs.Common.{arith, length}
use Rattle.cif_readers.proofs.NoteLaws.{notes_join}
use Rattle.cif_shown.proofs.Passes.{all_shown}
use Rattle.cif_seq.specs.Cases.{net_of}
use Rattle.cif_seq.specs.GivenAt.{given_at}
use Rattle.cif_defs.specs.Run.{input_value}
use Rattle.cif_defs.specs.TaintRun.{input_taint}
use Rattle.cif_inputs.specs.Cursor.{cycle_of}
use Rattle.cif_seq.proofs.settle.settle.Goals as goal

pub returns-clause-shown : goal.returns-clause-shown
returns-clause-shown c = λ ok covered k h.
    all_shown (net_of c.args.case.now) (given_at c.args.case.now c.args.stored.now c.args.inputs.now) c.args.cells.now covered (length c.args.cells.now) _ _ _ (omega arith)
    (c.evaluate_marked.ensures.shown ok covered (input_value (net_of c.args.case.now) c.args.case.now.stimulus (cycle_of c.args.inputs.now)) (input_taint (net_of c.args.case.now) c.args.case.now.stimulus (cycle_of c.args.inputs.now)) k (c.set_sources.ensures.shown covered c.args.cells.now k h))

pub returns-clause-notes : goal.returns-clause-notes
returns-clause-notes c = λ ok. notes_join (net_of c.args.case.now) _ _ _ _ _ _ _ _ _ c.set_sources.ensures.notes (c.evaluate_marked.ensures.notes ok)
