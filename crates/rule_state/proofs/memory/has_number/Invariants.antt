-- What is left of the word has to be what is left of the number.
use Rattle.std.proofs.Common.{◌≡◌, ◌==◌, drop}
use Rattle.cif_defs.specs.Words.{number}
use Rattle.rule_state.proofs.memory.has_number.Given as goal

abbrev pub invariant-loop-bit : goal.invariant-loop-bit
invariant-loop-bit l = (number (drop l.bit-index l.bits) == l.rest) ≡ (number l.bits == l.wanted)
