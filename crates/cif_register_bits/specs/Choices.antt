-- Bits with their taints, and choices between them.
use Rattle.std.specs.Prelude.{ℕ, Bool, false, ◌||◌, if◌then◌else◌}
use Rattle.cif_defs.specs.Words.{Word, bit, xor}
use Rattle.cif_register_bits.specs.declared.tainted_bit.TaintedBit.{TaintedBit}

abbrev pub untainted : Bool → TaintedBit
untainted b = record { value = b; taint = false }

-- bit i of a word and of its taint
abbrev pub bit_with : Word → Word → ℕ → TaintedBit
bit_with w t i = record { value = bit w i; taint = bit t i }

-- one where the select is 1, else zero: where the select is tainted, the taint is that of both and of their difference
abbrev pub chosen : TaintedBit → TaintedBit → TaintedBit → TaintedBit
chosen select zero one = record {
  value = if select.value then one.value else zero.value;
  taint = if select.taint then zero.taint || one.taint || xor zero.value one.value else (if select.value then one.taint else zero.taint);
}
