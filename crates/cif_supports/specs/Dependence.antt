-- What it means that operand words agree at some operand bits.
use Rattle.std.specs.Prelude.{ℕ, ◌≡◌, List, [], length, get_or, Contains}
use Rattle.cif_defs.specs.Words.{Word, bit, operand}
use Rattle.cif_defs.specs.Cells.{Cell}
use Rattle.cif_supports.specs.Supports.{OperandBit}

-- words as long as the operands of a cell
abbrev pub AreAsLong : Cell → List Word → Type 0
AreAsLong c us = (p : ℕ) → length (operand us p) ≡ length (get_or c.operands p [])

abbrev pub AgreeAt : List OperandBit → List Word → List Word → Type 0
AgreeAt bits us ws = (b : OperandBit) → Contains bits b → bit (operand us b.0) b.1 ≡ bit (operand ws b.0) b.1
