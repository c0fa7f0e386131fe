use Rattle.std.proofs.Common.{◌≡◌, take}
use Rattle.cif_defs.specs.Run.{src_word, value}
use Rattle.cif_seq.specs.Cases.{net_of}
use Rattle.cif_hall.proofs.show.source_values.Given as goal

abbrev pub invariant-loop-source : goal.invariant-loop-source
invariant-loop-source l = l.word.items ≡ src_word (value (net_of l.frame.case) l.frame.case.stimulus l.frame.cycle) (take l.source-index l.bits)
