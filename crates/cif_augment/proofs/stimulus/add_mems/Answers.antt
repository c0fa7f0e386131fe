use Rattle.std.specs.Prelude.{codes}
use Rattle.std.proofs.Common.{refl}
use Rattle.cif_stimulus.specs.StimulusView.{tainted}
use Rattle.cif_augment.proofs.Lines.{value_written, taint_written}
use Rattle.cif_augment.proofs.stimulus.add_mems.Goals as goal

pub add_mem-requires-clause-written : goal.add_mem-requires-clause-written
add_mem-requires-clause-written c = value_written c.args.cell.now _ (tainted c.args.value.now c.args.taint.now) c.in_ok-name.ensures c.requires.written

pub add_mem-requires-2-clause-written : goal.add_mem-requires-2-clause-written
add_mem-requires-2-clause-written c = taint_written c.args.cell.now (codes "__t") _ (tainted c.args.value.now c.args.taint.now) _ c.in_ok-shadow.ensures refl c.requires.written
