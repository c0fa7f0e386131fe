use Rattle.std.proofs.Common.{◌≡◌, get_or, []}
use Rattle.cif_defs.specs.Words.{bit, word}
use Rattle.cif_defs.specs.Accepted.{netlist_of}
use Rattle.cif_starts.proofs.starts.given_word.Given as goal

abbrev pub invariant-loop-index : goal.invariant-loop-index
invariant-loop-index l = l.bits.items ≡ word l.index (λ i. bit (get_or (netlist_of l.netlist).initial l.number []) i)
