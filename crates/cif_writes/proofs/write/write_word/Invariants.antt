use Rattle.std.proofs.Common.{◌≡◌, ◌≤◌, [], drop, length}
use Rattle.cif_defs.specs.Netlist.{Netlist}
use Rattle.cif_readers.specs.Reads.{Notes}
use Rattle.cif_readers.specs.Tables.{AreReaders}
use Rattle.cif_writes.specs.Writes.{put_word}
use Rattle.cif_writes.proofs.write.write_word.Given as goal

abbrev pub invariant-loop-i : goal.invariant-loop-i
invariant-loop-i l = record {
  as_many : length l.taints ≡ length l.values;
  values_length : length l.values ≡ length l.initial.values;
  marks_length : length l.marks ≡ length l.initial.marks;
  values : put_word [] (drop l.i l.targets) (drop l.i l.word) l.values ≡ put_word [] l.targets l.word l.initial.values;
  taints : put_word l.released (drop l.i l.targets) (drop l.i l.taint) l.taints ≡ put_word l.released l.targets l.taint l.initial.taints;
  notes : (n : Netlist) → AreReaders n l.readers → length n.cells ≤ length l.initial.marks → Notes n l.initial.values l.initial.taints l.values l.taints l.initial.marks l.marks;
}
