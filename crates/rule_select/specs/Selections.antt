-- The taint of $pmux, $bmux, $demux and $lut.
use Rattle.std.specs.Prelude.{ℕ, ◌*◌, ◌^◌, ◌≤◌}
use Rattle.cif_defs.specs.Words.{Word, bit, word, zeros}
use Rattle.cif_defs.specs.Cells.{Cell, digits_of, number_of, width}
use Rattle.cif_defs.specs.declared.kinds.Param.TheVariants.{Lut, SWidth}
use Rattle.cif_term.specs.Formulas.{Formula, Value, Taint, Const, Bound}
use Rattle.rule_select.specs.declared.moves.Moves.TheVariants.{Blocks, Halves}
use Rattle.rule_select.specs.Trees.{tree}
use Rattle.rule_select.specs.Moves.{order_by, parts_by}

-- the block of n bits of A at the number of S, which has m bits: its operands are A and S
abbrev pub bmux_formula : ℕ → ℕ → Formula
bmux_formula n m = tree 1 (order_by (Halves n) m) (parts_by (Halves n)) (Value 0) (Taint 0) m (Bound 0)

-- the n bits of A as the block at the number of S, and zeros elsewhere: its operands are A and S
abbrev pub demux_formula : ℕ → ℕ → Formula
demux_formula n m = tree 1 (order_by (Blocks n) m) (parts_by (Blocks n)) (Value 0) (Taint 0) m (Bound 0)

-- the bit of a table at the number of A, which has m bits: its operand is A
abbrev pub lut_formula : Word → ℕ → Formula
lut_formula table m = tree 0 (order_by (Halves 1) m) (parts_by (Halves 1)) (Const (word (2 ^ m) (bit table))) (Const (zeros (2 ^ m))) m (Bound 0)

abbrev pub cell_bmux : Cell → Formula
cell_bmux c = bmux_formula (width c) (number_of c SWidth)

abbrev pub cell_demux : Cell → Formula
cell_demux c = demux_formula (width c) (number_of c SWidth)

abbrev pub cell_lut : Cell → Formula
cell_lut c = lut_formula (digits_of c Lut) (width c)

-- blocks of at least one bit that are together no wider than a part of a term
pub record AreBlocks (c : Cell) : Type 0 where
  pub some : 1 ≤ width c
  pub narrow : width c ≤ 65536
  pub few : width c * 2 ^ number_of c SWidth ≤ 65536
  pub selects : number_of c SWidth ≤ 4096
