use Rattle.cif_defs.specs.Words.{bit}
use Rattle.cif_bits.proofs.WordForms.{IsNumberBelow}
use Rattle.cif_ports.specs.ReadBits.{read_word}
use Rattle.cif_ports.proofs.gather.gathered.Given as goal

abbrev pub invariant-loop-i : goal.invariant-loop-i
invariant-loop-i l = IsNumberBelow (read_word l.one (bit l.bits) l.sources) l.i l.total
