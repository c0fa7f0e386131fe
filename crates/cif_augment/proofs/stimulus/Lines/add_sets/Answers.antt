use Rattle.std.specs.Prelude.{codes}
use Rattle.cif_defs.specs.Accepted.{netlist_of}
use Rattle.cif_augment.specs.Stimuli.{input_bits}
use Rattle.cif_stimulus.specs.StimulusView.{tainted}
use Rattle.cif_augment.proofs.Lines.{value_written, taint_written}
use Rattle.cif_augment.proofs.Marks.{unreleased_long}
use Rattle.cif_augment.proofs.stimulus.Lines.add_sets.Goals as goal

pub add_set-requires-clause-written : goal.add_set-requires-clause-written
add_set-requires-clause-written c = value_written c.args.port.now _ (tainted c.args.value.now c.args.taint.now) c.in_ok-name.ensures c.requires.written

pub add_set-requires-2-clause-written : goal.add_set-requires-2-clause-written
add_set-requires-2-clause-written c = taint_written c.args.port.now (codes "__t") _ (tainted c.args.value.now c.args.taint.now) _ c.in_ok-shadow.ensures (unreleased_long c.args.self.now.stimulus.now.lines (input_bits (netlist_of c.args.self.now.netlist.now) c.args.port.now) c.args.taint.now _ c.in_ok-kept.ensures) c.requires.written
