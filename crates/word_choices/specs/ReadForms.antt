-- What forms read from cells: widths, signs and tables.
use Rattle.std.specs.Prelude.{◌^◌, ◌≤◌, ◌≡◌, Bool, true, false}
use Rattle.cif_defs.specs.Words.{Word, bit, word, word_of}
use Rattle.cif_defs.specs.Cells.{Cell, b_signed, digits_of, number_of, width, y_width}
use Rattle.cif_defs.specs.declared.kinds.Kind.{Kind}
use Rattle.cif_defs.specs.declared.kinds.Kind.TheVariants.{Bmux, Demux, Lut, Shl, Sshl, Shr, Sshr, Shift, Shiftx}
use Rattle.cif_defs.specs.declared.kinds.Param.TheVariants.{AWidth, BWidth, SWidth}
use Rattle.cif_defs.specs.declared.kinds.Param.TheVariants.{Lut as LutTable}
use Rattle.rule_select.specs.Selects.{is_select}
use Rattle.word_choices.specs.declared.shapes.Blocks.{Blocks}
use Rattle.word_choices.specs.declared.shapes.Shift.{Shift as Shifting}
use Rattle.word_choices.specs.declared.shapes.Table.{Table}

-- a cell's table has at most 7 address bits, and so at most 128 digits
abbrev pub HasShortTable : Cell → Type 0
HasShortTable c = c.kind ≡ Lut → width c ≤ 7

-- the cells that have a form, among those with ports of at most 128 bits: those that choose or shift, but no wide tables
pub record HasForm (c : Cell) : Type 0 where
  pub kind : is_select c.kind ≡ true
  pub table : HasShortTable c

-- the kinds that shift
abbrev pub is_shift : Kind → Bool
is_shift Shl = true
is_shift Sshl = true
is_shift Shr = true
is_shift Sshr = true
is_shift Shift = true
is_shift Shiftx = true
is_shift _ = false

-- the kinds with a block for each number of S
abbrev pub has_blocks : Kind → Bool
has_blocks Bmux = true
has_blocks Demux = true
has_blocks _ = false

-- s has the widths of a cell, and the sign of its B; its A is signed or not
pub record IsShiftOf (s : Shifting) (signed : Bool) (c : Cell) : Type 0 where
  pub a : s.a ≡ number_of c AWidth
  pub b : s.b ≡ number_of c BWidth
  pub y : s.y ≡ y_width c
  pub a_signed : s.a_signed ≡ signed
  pub b_signed : s.b_signed ≡ b_signed c

pub record AreBlocksOf (b : Blocks) (c : Cell) : Type 0 where
  pub width : b.width ≡ width c
  pub selects : b.selects ≡ number_of c SWidth

-- the digits of a table, one for each number of its address
abbrev pub table_word : Table → Word
table_word t = word_of (2 ^ t.address) t.digits

-- t has the digits of a cell's table for the numbers of its operand
pub record IsTableOf (t : Table) (c : Cell) : Type 0 where
  pub address : t.address ≡ width c
  pub digits : table_word t ≡ word (2 ^ width c) (bit (digits_of c LutTable))
