-- The taint of $pmux: its operands are A, B and S.
use Rattle.std.specs.Prelude.{ℕ, zero, suc, ◌+◌, ◌*◌, ◌/◌, ◌%◌, ◌≤◌}
use Rattle.cif_defs.specs.Cells.{Cell, number_of, width}
use Rattle.cif_defs.specs.declared.kinds.Param.TheVariants.{SWidth}
use Rattle.cif_term.specs.Formulas.{Formula, Value, Taint, Bound, Join, Let}
use Rattle.rule_select.specs.declared.moves.Moves.TheVariants.{Chain}
use Rattle.rule_select.specs.Trees.{staged}
use Rattle.rule_select.specs.Moves.{order_by, parts_by}
use Rattle.rule_select.specs.Offsets.{pair_of, pair_taint, pair_value}

-- the stages j, j + 1, .., as many as r, of m, from the highest bit of S to the lowest: from a pair of n bits, Bound 0, to a pair
abbrev pub chain_group : ℕ → ℕ → ℕ → ℕ → Formula
chain_group n m r j = Let (pair_value n (Bound 0)) (Let (pair_taint n (Bound 1)) (staged 2 (order_by (Chain n) m) (parts_by (Chain n)) (pair_of n) r j))

-- groups of r stages, as many as g, from stage j on
abbrev pub chain_groups : ℕ → ℕ → ℕ → ℕ → ℕ → Formula
chain_groups n m r zero j = pair_taint n (Bound 0)
chain_groups n m r (suc g) j = Let (chain_group n m r j) (chain_groups n m r g (j + r))

-- a chain is cut into groups of 64 stages, the first with fewer, so that its term is not deep
abbrev pub group_size : ℕ
group_size = 64

-- A, or the block of n bits of B for the lowest bit of S that is 1: S has m bits
abbrev pub pmux_formula : ℕ → ℕ → Formula
pmux_formula n m = Let (Join (Value 0) (Taint 0)) (Let (chain_group n m (m % group_size) 0) (chain_groups n m group_size (m / group_size) (m % group_size)))

abbrev pub cell_pmux : Cell → Formula
cell_pmux c = pmux_formula (width c) (number_of c SWidth)

-- blocks that are together no wider than a part of a term
pub record IsChain (c : Cell) : Type 0 where
  pub narrow : width c ≤ 65536
  pub few : number_of c SWidth * width c ≤ 65536
  pub selects : number_of c SWidth ≤ 65536
