use Rattle.std.proofs.Common.{◌≡◌, drop}
use Rattle.cif_defs.specs.Words.{xor, parity}
use Rattle.cif_bits.proofs.lists.is_odd.Given as goal

abbrev pub invariant-loop-bit : goal.invariant-loop-bit
invariant-loop-bit l = xor l.odd (parity (drop l.bit-index l.bits)) ≡ parity l.bits
