-- What raw bits and raw cells say of values of the net numbers: nothing here is computed in an order.
use Rattle.std.specs.Prelude.{ℕ, ◌<◌, ◌≡◌, Bool, true, false, List, [], map, length, get_or, Option, Some, None}
use Rattle.std.specs.List.{AllByRecursion}
use Rattle.cif_defs.specs.Words.{Word, bit, operand}
use Rattle.cif_defs.specs.Table.{kind_of, operands_of, outputs_of}
use Rattle.cif_defs.specs.RawModule.{port_bits}
use Rattle.cif_defs.specs.Cells.{meaning}
use Rattle.cif_defs.specs.Accepted.{cell_of}
use Rattle.cif_defs.specs.declared.kinds.Kind.{Kind}
use Rattle.cif_defs.specs.declared.raw_module.RawBit.{RawBit}
use Rattle.cif_defs.specs.declared.raw_module.RawBit.TheVariants.{Net, Zero, One, X, Z}
use Rattle.cif_defs.specs.declared.raw_module.RawCell.{RawCell}

-- a bit that is read, under values of the net numbers; x and z, which no accepted module reads, are 0
abbrev pub raw_bit : (ℕ → Bool) → RawBit → Bool
raw_bit v (Net x) = v x
raw_bit v Zero = false
raw_bit v One = true
raw_bit v X = false
raw_bit v Z = false

abbrev pub raw_word : (ℕ → Bool) → List RawBit → Word
raw_word v bits = map (raw_bit v) bits

abbrev pub raw_words : (ℕ → Bool) → List (List RawBit) → List Word
raw_words v words = map (raw_word v) words

-- a place at which a cell gives a bit: the net number that stands there has it
abbrev pub TakesBit : (ℕ → Bool) → RawBit → Bool → Type 0
TakesBit v (Net x) b = v x ≡ b
TakesBit v _ b = Unit {0}

abbrev pub TakesWord : (ℕ → Bool) → List RawBit → Word → Type 0
TakesWord v bits w = (i : ℕ) → i < length bits → TakesBit v (get_or bits i X) (bit w i)

-- the words at the operands of a cell of kind k, and the words that it gives for them by its plain meaning
abbrev pub words_read : (ℕ → Bool) → RawCell → Kind → List Word
words_read v c k = raw_words v (map (port_bits c) (operands_of k))

abbrev pub words_given : (ℕ → Bool) → RawCell → Kind → List Word
words_given v c k = meaning (cell_of [] c) (words_read v c k)

abbrev pub IsMetBy : (ℕ → Bool) → RawCell → Option Kind → Type 0
IsMetBy v c None = Unit {0}
IsMetBy v c (Some k) = (p : ℕ) → p < length (outputs_of k) → TakesWord v (get_or (map (port_bits c) (outputs_of k)) p []) (operand (words_given v c k) p)

-- the net numbers at the outputs of a cell have the bits that it gives
unfoldable pub IsMet : (ℕ → Bool) → RawCell → Type 0
IsMet v c = IsMetBy v c (kind_of c.kind)

abbrev pub AreMet : (ℕ → Bool) → List RawCell → Type 0
AreMet v cells = AllByRecursion (IsMet v) cells
