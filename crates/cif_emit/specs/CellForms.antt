-- The cells that are appended.
use Rattle.std.specs.Prelude.{ℕ, Bool, true, false, List, [], ◌∷◌, pos, if◌then◌else◌}
use Rattle.cif_defs.specs.Table.{type_text, param_text, port_text}
use Rattle.cif_defs.specs.declared.kinds.Kind.{Kind}
use Rattle.cif_defs.specs.declared.kinds.Kind.TheVariants.{Not as NotKind, ReduceAnd as ReduceAndKind, ReduceOr as ReduceOrKind, ReduceXor as ReduceXorKind, And as AndKind, Or as OrKind, Xor as XorKind, Add as AddKind, Mul as MulKind, Div as DivKind, Lt, Eq, Mux}
use Rattle.cif_defs.specs.declared.kinds.Param.{Param}
use Rattle.cif_defs.specs.declared.kinds.Param.TheVariants.{ASigned, BSigned, AWidth, BWidth, YWidth, Width}
use Rattle.cif_defs.specs.declared.kinds.CellPort.{CellPort}
use Rattle.cif_defs.specs.declared.kinds.CellPort.TheVariants.{A, B, S, Y}
use Rattle.cif_defs.specs.declared.raw_module.ParamValue.TheVariants.{Number}
use Rattle.cif_defs.specs.declared.raw_module.RawParam.{RawParam}
use Rattle.cif_defs.specs.declared.raw_module.RawBit.{RawBit}
use Rattle.cif_defs.specs.declared.raw_module.Connection.{Connection}
use Rattle.cif_defs.specs.declared.raw_module.RawCell.{RawCell}
use Rattle.cif_term.specs.declared.ops.Op1.{Op1}
use Rattle.cif_term.specs.declared.ops.Op1.TheVariants.{Not, ReduceAnd, ReduceOr, ReduceXor}
use Rattle.cif_term.specs.declared.ops.Op2.{Op2}
use Rattle.cif_term.specs.declared.ops.Op2.TheVariants.{And, Or, Xor, Add, Mul, Div, LessUnsigned, LessSigned, Equal}

-- ---- operations

-- the kind of cell that computes an operation
abbrev pub one_kind : Op1 → Kind
one_kind Not = NotKind
one_kind ReduceAnd = ReduceAndKind
one_kind ReduceOr = ReduceOrKind
one_kind ReduceXor = ReduceXorKind

abbrev pub two_kind : Op2 → Kind
two_kind And = AndKind
two_kind Or = OrKind
two_kind Xor = XorKind
two_kind Add = AddKind
two_kind Mul = MulKind
two_kind Div = DivKind
two_kind LessUnsigned = Lt
two_kind LessSigned = Lt
two_kind Equal = Eq

abbrev pub is_signed : Op2 → Bool
is_signed LessSigned = true
is_signed And = false
is_signed Or = false
is_signed Xor = false
is_signed Add = false
is_signed Mul = false
is_signed Div = false
is_signed LessUnsigned = false
is_signed Equal = false

-- ---- parameters and connections

abbrev pub number_param : Param → ℕ → RawParam
number_param p x = record { name = param_text p; value = Number (pos x) }

abbrev pub sign_number : Bool → ℕ
sign_number signed = if signed then 1 else 0

abbrev pub unary_numbers : ℕ → ℕ → List RawParam
unary_numbers a y = number_param ASigned 0 ∷ number_param AWidth a ∷ number_param YWidth y ∷ []

abbrev pub binary_numbers : Bool → ℕ → ℕ → List RawParam
binary_numbers signed n y = number_param ASigned (sign_number signed) ∷ number_param AWidth n ∷ number_param BSigned (sign_number signed) ∷ number_param BWidth n ∷ number_param YWidth y ∷ []

abbrev pub connection : CellPort → List RawBit → Connection
connection p bits = record { name = port_text p; bits = bits }

-- ---- cells

abbrev pub plain_cell : List ℕ → Kind → List RawParam → List Connection → RawCell
plain_cell name k parameters connections = record { name = name; hide = false; kind = type_text k; parameters = parameters; attributes = []; connections = connections }

-- a cell of the unary shape over n bits, one of the binary shape, and a choice
abbrev pub unary_cell : List ℕ → Op1 → ℕ → ℕ → List RawBit → List RawBit → RawCell
unary_cell name op n width a y = plain_cell name (one_kind op) (unary_numbers n width) (connection A a ∷ connection Y y ∷ [])

abbrev pub binary_cell : List ℕ → Op2 → ℕ → ℕ → List RawBit → List RawBit → List RawBit → RawCell
binary_cell name op n width a b y = plain_cell name (two_kind op) (binary_numbers (is_signed op) n width) (connection A a ∷ connection B b ∷ connection Y y ∷ [])

abbrev pub choice_cell : List ℕ → ℕ → List RawBit → List RawBit → List RawBit → List RawBit → RawCell
choice_cell name n a b s y = plain_cell name Mux (number_param Width n ∷ []) (connection A a ∷ connection B b ∷ connection S s ∷ connection Y y ∷ [])
