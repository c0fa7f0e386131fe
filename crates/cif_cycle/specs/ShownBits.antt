-- What a register with asynchronous reset shows, bit by bit.
use Rattle.std.specs.Prelude.{ℕ}
use Rattle.cif_defs.specs.Words.{Word, bit, word}
use Rattle.cif_defs.specs.Cells.{digits_of}
use Rattle.cif_register_bits.specs.declared.tainted_bit.TaintedBit.{TaintedBit}
use Rattle.cif_register_bits.specs.Choices.{bit_with}
use Rattle.cif_register_bits.specs.Steering.{shown_of}
use Rattle.cif_cycle.specs.declared.register.ShownBits.{ShownBits}

abbrev pub shown_at : ShownBits → ℕ → TaintedBit
shown_at s i = shown_of s.controls (bit (digits_of s.cell.now s.controls.reset_value) i) (bit_with s.stored.value.now s.stored.taint.now i)

-- n of the bits
abbrev pub shown_values : ShownBits → ℕ → Word
shown_values s n = word n (λ i. (shown_at s i).value)

-- and of their taints
abbrev pub shown_taints : ShownBits → ℕ → Word
shown_taints s n = word n (λ i. (shown_at s i).taint)
