-- The weight of a cell: how many cells its taint may cost in an augmented netlist.
use Rattle.std.specs.Prelude.{ℕ, ◌+◌, ◌*◌, ◌/◌, ◌^◌}
use Rattle.cif_defs.specs.Cells.{Cell, width, number_of}
use Rattle.cif_defs.specs.declared.kinds.Kind.{Kind}
use Rattle.cif_defs.specs.declared.kinds.Kind.TheVariants.{Neg, Add, Sub, Mul, Div, Mod, DivFloor, ModFloor, Eq, Ne, Eqx, Nex, Lt, Le, Ge, Gt, LogicAnd, LogicOr, Shl, Sshl, Shr, Sshr, Shift, Shiftx, Pmux, Bmux, Demux, Lut, Fa, Alu, ScopeInfo, Dff, Dffe, Sdff, Sdffe, Sdffce, Adff, Adffe, Mem}
use Rattle.cif_defs.specs.declared.kinds.Param.TheVariants.{AWidth, BWidth, SWidth, RdPorts, WrPorts}

-- words wider than 4,096 bits weigh more by each 4,096 bits
abbrev pub wide_steps : ℕ → ℕ
wide_steps n = n / 4096

abbrev pub blocks_width : Cell → ℕ
blocks_width c = width c * 2 ^ number_of c SWidth

unfoldable pub weight_by : Kind → Cell → ℕ
weight_by LogicAnd c = 24
weight_by LogicOr c = 24
weight_by Add c = 72
weight_by Sub c = 72
weight_by Neg c = 40
weight_by Lt c = 40
weight_by Le c = 40
weight_by Ge c = 40
weight_by Gt c = 40
weight_by Fa c = 40
weight_by Eq c = 64
weight_by Ne c = 64
weight_by Eqx c = 64
weight_by Nex c = 64
weight_by Alu c = 224
weight_by Mul c = 32
weight_by Div c = 80
weight_by Mod c = 80
weight_by DivFloor c = 80
weight_by ModFloor c = 80
weight_by Shl c = 12 * (number_of c BWidth + 1)
weight_by Sshl c = 12 * (number_of c BWidth + 1)
weight_by Shr c = 12 * (number_of c BWidth + 1)
weight_by Sshr c = 12 * (number_of c BWidth + 1)
weight_by Shift c = 24 * (number_of c BWidth + 1)
weight_by Shiftx c = 24 * (number_of c BWidth + 1) * (1 + wide_steps (number_of c AWidth))
weight_by Pmux c = 12 * number_of c SWidth
weight_by Bmux c = 16 * (number_of c SWidth + wide_steps (blocks_width c))
weight_by Demux c = 24 * (number_of c SWidth + wide_steps (blocks_width c))
weight_by Lut c = 16 * width c
weight_by Dff c = 32
weight_by Dffe c = 32
weight_by Sdff c = 32
weight_by Sdffe c = 32
weight_by Sdffce c = 32
weight_by Adff c = 48
weight_by Adffe c = 48
weight_by Mem c = 16 * (number_of c RdPorts + number_of c WrPorts) + 8
weight_by ScopeInfo c = 0
-- the bitwise kinds, reductions, $logic_not, $concat, $slice and $mux
weight_by _ c = 12

abbrev pub weight : Cell → ℕ
weight c = weight_by c.kind c
