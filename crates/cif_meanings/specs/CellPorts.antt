-- What a combinational cell's ports have, by the shape of its kind. In each record c is a cell and us are the words of its operands.
use Rattle.std.specs.Prelude.{◌+◌, ◌*◌, ◌^◌, ◌≤◌, ◌≡◌, Bool, true, false, List, length}
use Rattle.cif_defs.specs.Words.{Word, operand}
use Rattle.cif_defs.specs.Cells.{Cell, number_of, y_width, width}
use Rattle.cif_defs.specs.declared.kinds.Kind.{Kind}
use Rattle.cif_defs.specs.declared.kinds.Kind.TheVariants.{Not, Pos, And, Or, Xor, Xnor, ReduceAnd, ReduceOr, ReduceXor, ReduceXnor, ReduceBool, LogicNot, LogicAnd, LogicOr, Shl, Sshl, Shr, Sshr, Shift, Shiftx}
use Rattle.cif_defs.specs.declared.kinds.Param.TheVariants.{AWidth, BWidth, SWidth, Offset}

-- ---- families of kinds of one shape

-- one operand that is no number, and one output of Y_WIDTH bits
abbrev pub is_unary : Kind → Bool
is_unary Not = true
is_unary Pos = true
is_unary ReduceAnd = true
is_unary ReduceOr = true
is_unary ReduceXor = true
is_unary ReduceXnor = true
is_unary ReduceBool = true
is_unary LogicNot = true
is_unary _ = false

-- two operands that are no numbers, and one output of Y_WIDTH bits
abbrev pub is_binary : Kind → Bool
is_binary And = true
is_binary Or = true
is_binary Xor = true
is_binary Xnor = true
is_binary LogicAnd = true
is_binary LogicOr = true
is_binary _ = false

abbrev pub is_shift : Kind → Bool
is_shift Shl = true
is_shift Sshl = true
is_shift Shr = true
is_shift Sshr = true
is_shift Shift = true
is_shift Shiftx = true
is_shift _ = false

-- ---- ports

pub record HasUnaryPorts (c : Cell) (us : List Word) : Type 0 where
  pub operands : length us ≡ 1
  pub a : 1 ≤ length (operand us 0)
  pub y : 1 ≤ y_width c
  pub y_limit : y_width c ≤ 4096

pub record HasBinaryPorts (c : Cell) (us : List Word) : Type 0 where
  pub operands : length us ≡ 2
  pub a : 1 ≤ length (operand us 0)
  pub b : 1 ≤ length (operand us 1)
  pub y : 1 ≤ y_width c
  pub y_limit : y_width c ≤ 4096

-- B is a number
pub record HasShiftPorts (c : Cell) (us : List Word) : Type 0 where
  pub operands : length us ≡ 2
  pub a : 1 ≤ length (operand us 0)
  pub b : 1 ≤ length (operand us 1)
  pub b_limit : length (operand us 1) ≤ 128
  pub y_limit : y_width c ≤ 4096

pub record HasConcatPorts (c : Cell) (us : List Word) : Type 0 where
  pub operands : length us ≡ 2
  pub a : length (operand us 0) ≡ number_of c AWidth
  pub b : length (operand us 1) ≡ number_of c BWidth
  pub a_limit : number_of c AWidth ≤ 4096
  pub b_limit : number_of c BWidth ≤ 4096

pub record HasSlicePorts (c : Cell) (us : List Word) : Type 0 where
  pub operands : length us ≡ 1
  pub inside : number_of c Offset + y_width c ≤ length (operand us 0)
  pub a_limit : length (operand us 0) ≤ 4096

pub record HasFaPorts (c : Cell) (us : List Word) : Type 0 where
  pub operands : length us ≡ 3
  pub first : length (operand us 0) ≡ width c
  pub second : length (operand us 1) ≡ width c
  pub third : length (operand us 2) ≡ width c
  pub limit : width c ≤ 4096

pub record HasMuxPorts (c : Cell) (us : List Word) : Type 0 where
  pub operands : length us ≡ 3
  pub a : length (operand us 0) ≡ width c
  pub b : length (operand us 1) ≡ width c
  pub s : length (operand us 2) ≡ 1
  pub limit : width c ≤ 4096

pub record HasPmuxPorts (c : Cell) (us : List Word) : Type 0 where
  pub operands : length us ≡ 3
  pub a : length (operand us 0) ≡ width c
  pub b : length (operand us 1) ≡ width c * length (operand us 2)
  pub b_limit : length (operand us 1) ≤ 65536
  pub limit : width c ≤ 4096

pub record HasBmuxPorts (c : Cell) (us : List Word) : Type 0 where
  pub operands : length us ≡ 2
  pub a : length (operand us 0) ≡ width c * 2 ^ length (operand us 1)
  pub a_limit : length (operand us 0) ≤ 65536
  pub some : 1 ≤ width c
  pub limit : width c ≤ 4096

pub record HasDemuxPorts (c : Cell) (us : List Word) : Type 0 where
  pub operands : length us ≡ 2
  pub a : length (operand us 0) ≡ width c
  pub s : length (operand us 1) ≡ number_of c SWidth
  pub s_limit : number_of c SWidth ≤ 4096
  pub y_limit : width c * 2 ^ number_of c SWidth ≤ 65536
  pub some : 1 ≤ width c
  pub limit : width c ≤ 4096

pub record HasLutPorts (c : Cell) (us : List Word) : Type 0 where
  pub operands : length us ≡ 1
  pub a_limit : length (operand us 0) ≤ 12
