use Rattle.std.proofs.Common.{◌≡◌, ◌≤◌, [], drop, length}
use Rattle.cif_defs.specs.Netlist.{Netlist}
use Rattle.cif_readers.specs.Reads.{Notes}
use Rattle.cif_readers.specs.Tables.{AreReaders}
use Rattle.cif_writes.specs.Writes.{put_words}
use Rattle.cif_writes.proofs.write.write_words.Given as goal

abbrev pub invariant-loop-port : goal.invariant-loop-port
invariant-loop-port l = record {
  as_many : length l.taints ≡ length l.values;
  values_length : length l.values ≡ length l.initial.values;
  marks_length : length l.marks ≡ length l.initial.marks;
  values : put_words [] (drop l.port l.outputs) (drop l.port l.words) l.values ≡ put_words [] l.outputs l.words l.initial.values;
  taints : put_words l.released (drop l.port l.outputs) (drop l.port l.word_taints) l.taints ≡ put_words l.released l.outputs l.word_taints l.initial.taints;
  notes : (n : Netlist) → AreReaders n l.readers → length n.cells ≤ length l.initial.marks → Notes n l.initial.values l.initial.taints l.values l.taints l.initial.marks l.marks;
}
