-- The table of kinds: for each type of cell its text, its parameters, and its ports with their widths.
use Rattle.std.specs.Prelude.{ℕ, ◌+◌, ◌*◌, ◌^◌, Bool, true, false, List, [], ◌∷◌, ◌++◌, codes, bytes_eq, Option, if◌then◌else◌}
use Rattle.std.specs.List.{find}
use Rattle.cif_defs.specs.declared.kinds.Kind.{Kind}
use Rattle.cif_defs.specs.declared.kinds.Kind.TheVariants.{Not, Pos, Neg, And, Or, Xor, Xnor, Add, Sub, Mul, Div, Mod, DivFloor, ModFloor, Eq, Ne, Eqx, Nex, Lt, Le, Ge, Gt, ReduceAnd, ReduceOr, ReduceXor, ReduceXnor, ReduceBool, LogicNot, LogicAnd, LogicOr, Shl, Sshl, Shr, Sshr, Shift, Shiftx, Mux, Pmux, Bmux, Demux, Concat, Slice, Fa, Alu, ScopeInfo, Dff, Dffe, Sdff, Sdffe, Sdffce, Adff, Adffe, Mem}
use Rattle.cif_defs.specs.declared.kinds.Kind.TheVariants.{Lut as LutKind}
use Rattle.cif_defs.specs.declared.kinds.Param.{Param}
use Rattle.cif_defs.specs.declared.kinds.Param.TheVariants.{ASigned, BSigned, AWidth, BWidth, YWidth, Width, SWidth, Offset, Lut, ClkPolarity, EnPolarity, SrstPolarity, SrstValue, ArstPolarity, ArstValue, Size, Abits, Init, RdPorts, WrPorts, RdClkEnable, RdWideContinuation, WrClkEnable, WrClkPolarity, WrWideContinuation}
use Rattle.cif_defs.specs.declared.kinds.CellPort.{CellPort}
use Rattle.cif_defs.specs.declared.kinds.CellPort.TheVariants.{A, B, C, S, Ci, Bi, D, En, Srst, Arst, X, Y, Co, Q, Clk, RdAddr, WrEn, WrAddr, WrData, RdData, WrClk}
use Rattle.cif_defs.specs.declared.kinds.PortWidth.{PortWidth}
use Rattle.cif_defs.specs.declared.kinds.PortWidth.TheVariants.{One, Of, Sum, Product, Blocks}
use Rattle.cif_defs.specs.declared.kinds.PortRow.{PortRow}

-- ---- texts

-- the text of a type
abbrev pub type_text : Kind → List ℕ
type_text Not = codes "$not"
type_text Pos = codes "$pos"
type_text Neg = codes "$neg"
type_text And = codes "$and"
type_text Or = codes "$or"
type_text Xor = codes "$xor"
type_text Xnor = codes "$xnor"
type_text Add = codes "$add"
type_text Sub = codes "$sub"
type_text Mul = codes "$mul"
type_text Div = codes "$div"
type_text Mod = codes "$mod"
type_text DivFloor = codes "$divfloor"
type_text ModFloor = codes "$modfloor"
type_text Eq = codes "$eq"
type_text Ne = codes "$ne"
type_text Eqx = codes "$eqx"
type_text Nex = codes "$nex"
type_text Lt = codes "$lt"
type_text Le = codes "$le"
type_text Ge = codes "$ge"
type_text Gt = codes "$gt"
type_text ReduceAnd = codes "$reduce_and"
type_text ReduceOr = codes "$reduce_or"
type_text ReduceXor = codes "$reduce_xor"
type_text ReduceXnor = codes "$reduce_xnor"
type_text ReduceBool = codes "$reduce_bool"
type_text LogicNot = codes "$logic_not"
type_text LogicAnd = codes "$logic_and"
type_text LogicOr = codes "$logic_or"
type_text Shl = codes "$shl"
type_text Sshl = codes "$sshl"
type_text Shr = codes "$shr"
type_text Sshr = codes "$sshr"
type_text Shift = codes "$shift"
type_text Shiftx = codes "$shiftx"
type_text Mux = codes "$mux"
type_text Pmux = codes "$pmux"
type_text Bmux = codes "$bmux"
type_text Demux = codes "$demux"
type_text Concat = codes "$concat"
type_text Slice = codes "$slice"
type_text LutKind = codes "$lut"
type_text Fa = codes "$fa"
type_text Alu = codes "$alu"
type_text ScopeInfo = codes "$scopeinfo"
type_text Dff = codes "$dff"
type_text Dffe = codes "$dffe"
type_text Sdff = codes "$sdff"
type_text Sdffe = codes "$sdffe"
type_text Sdffce = codes "$sdffce"
type_text Adff = codes "$adff"
type_text Adffe = codes "$adffe"
type_text Mem = codes "$mem_v2"

abbrev pub all_kinds : List Kind
all_kinds = Not ∷ Pos ∷ Neg ∷ And ∷ Or ∷ Xor ∷ Xnor ∷ Add ∷ Sub ∷ Mul ∷ Div ∷ Mod ∷ DivFloor ∷ ModFloor ∷ Eq ∷ Ne ∷ Eqx ∷ Nex ∷ Lt ∷ Le ∷ Ge ∷ Gt ∷ ReduceAnd ∷ ReduceOr ∷ ReduceXor ∷ ReduceXnor ∷ ReduceBool ∷ LogicNot ∷ LogicAnd ∷ LogicOr ∷ Shl ∷ Sshl ∷ Shr ∷ Sshr ∷ Shift ∷ Shiftx ∷ Mux ∷ Pmux ∷ Bmux ∷ Demux ∷ Concat ∷ Slice ∷ LutKind ∷ Fa ∷ Alu ∷ ScopeInfo ∷ Dff ∷ Dffe ∷ Sdff ∷ Sdffe ∷ Sdffce ∷ Adff ∷ Adffe ∷ Mem ∷ []

-- the kind of a type's text, where the table has it
abbrev pub kind_of : List ℕ → Option Kind
kind_of text = find (λ k. bytes_eq (type_text k) text) all_kinds

abbrev pub param_text : Param → List ℕ
param_text ASigned = codes "A_SIGNED"
param_text BSigned = codes "B_SIGNED"
param_text AWidth = codes "A_WIDTH"
param_text BWidth = codes "B_WIDTH"
param_text YWidth = codes "Y_WIDTH"
param_text Width = codes "WIDTH"
param_text SWidth = codes "S_WIDTH"
param_text Offset = codes "OFFSET"
param_text Lut = codes "LUT"
param_text ClkPolarity = codes "CLK_POLARITY"
param_text EnPolarity = codes "EN_POLARITY"
param_text SrstPolarity = codes "SRST_POLARITY"
param_text SrstValue = codes "SRST_VALUE"
param_text ArstPolarity = codes "ARST_POLARITY"
param_text ArstValue = codes "ARST_VALUE"
param_text Size = codes "SIZE"
param_text Abits = codes "ABITS"
param_text Init = codes "INIT"
param_text RdPorts = codes "RD_PORTS"
param_text WrPorts = codes "WR_PORTS"
param_text RdClkEnable = codes "RD_CLK_ENABLE"
param_text RdWideContinuation = codes "RD_WIDE_CONTINUATION"
param_text WrClkEnable = codes "WR_CLK_ENABLE"
param_text WrClkPolarity = codes "WR_CLK_POLARITY"
param_text WrWideContinuation = codes "WR_WIDE_CONTINUATION"

abbrev pub port_text : CellPort → List ℕ
port_text A = codes "A"
port_text B = codes "B"
port_text C = codes "C"
port_text S = codes "S"
port_text Ci = codes "CI"
port_text Bi = codes "BI"
port_text D = codes "D"
port_text En = codes "EN"
port_text Srst = codes "SRST"
port_text Arst = codes "ARST"
port_text X = codes "X"
port_text Y = codes "Y"
port_text Co = codes "CO"
port_text Q = codes "Q"
port_text Clk = codes "CLK"
port_text RdAddr = codes "RD_ADDR"
port_text WrEn = codes "WR_EN"
port_text WrAddr = codes "WR_ADDR"
port_text WrData = codes "WR_DATA"
port_text RdData = codes "RD_DATA"
port_text WrClk = codes "WR_CLK"

-- ---- parameters, in the order in which they are read

abbrev pub unary_parameters : List Param
unary_parameters = ASigned ∷ AWidth ∷ YWidth ∷ []

abbrev pub register_parameters : List Param → List Param
register_parameters further = Width ∷ ClkPolarity ∷ further

unfoldable pub parameters_of : Kind → List Param
parameters_of Not = unary_parameters
parameters_of Pos = unary_parameters
parameters_of Neg = unary_parameters
parameters_of ReduceAnd = unary_parameters
parameters_of ReduceOr = unary_parameters
parameters_of ReduceXor = unary_parameters
parameters_of ReduceXnor = unary_parameters
parameters_of ReduceBool = unary_parameters
parameters_of LogicNot = unary_parameters
parameters_of Mux = Width ∷ []
parameters_of Fa = Width ∷ []
parameters_of Pmux = Width ∷ SWidth ∷ []
parameters_of Bmux = Width ∷ SWidth ∷ []
parameters_of Demux = Width ∷ SWidth ∷ []
parameters_of Concat = AWidth ∷ BWidth ∷ []
parameters_of Slice = Offset ∷ AWidth ∷ YWidth ∷ []
parameters_of LutKind = Width ∷ Lut ∷ []
parameters_of ScopeInfo = []
parameters_of Dff = register_parameters []
parameters_of Dffe = register_parameters (EnPolarity ∷ [])
parameters_of Sdff = register_parameters (SrstPolarity ∷ SrstValue ∷ [])
parameters_of Sdffe = register_parameters (EnPolarity ∷ SrstPolarity ∷ SrstValue ∷ [])
parameters_of Sdffce = register_parameters (EnPolarity ∷ SrstPolarity ∷ SrstValue ∷ [])
parameters_of Adff = register_parameters (ArstPolarity ∷ ArstValue ∷ [])
parameters_of Adffe = register_parameters (EnPolarity ∷ ArstPolarity ∷ ArstValue ∷ [])
parameters_of Mem = Width ∷ Size ∷ Offset ∷ Abits ∷ Init ∷ RdPorts ∷ WrPorts ∷ RdClkEnable ∷ RdWideContinuation ∷ WrClkEnable ∷ WrClkPolarity ∷ WrWideContinuation ∷ []
-- the binary shape
parameters_of _ = ASigned ∷ BSigned ∷ AWidth ∷ BWidth ∷ YWidth ∷ []

-- the parameters of any length of which a cell keeps the digits
abbrev pub is_table : Param → Bool
is_table SrstValue = true
is_table ArstValue = true
is_table Lut = true
is_table _ = false

-- INIT and the masks of a memory: of any length, read digit by digit, and not kept in the cell
abbrev pub is_mask : Param → Bool
is_mask Init = true
is_mask RdClkEnable = true
is_mask RdWideContinuation = true
is_mask WrClkEnable = true
is_mask WrClkPolarity = true
is_mask WrWideContinuation = true
is_mask _ = false

-- ---- ports

-- how many bits a port has, by the numbers of the parameters
abbrev pub width_by : (Param → ℕ) → PortWidth → ℕ
width_by number One = 1
width_by number (Of p) = number p
width_by number (Sum p q) = number p + number q
width_by number (Product p q) = number p * number q
width_by number (Blocks p q) = number p * 2 ^ number q

abbrev pub row : CellPort → PortWidth → PortRow
row port width = record { port = port; width = width }

abbrev pub a_row : PortRow
a_row = row A (Of AWidth)

abbrev pub b_row : PortRow
b_row = row B (Of BWidth)

abbrev pub y_row : PortRow
y_row = row Y (Of YWidth)

abbrev pub d_row : PortRow
d_row = row D (Of Width)

-- the operands of a kind
unfoldable pub operands_of : Kind → List PortRow
operands_of Not = a_row ∷ []
operands_of Pos = a_row ∷ []
operands_of Neg = a_row ∷ []
operands_of ReduceAnd = a_row ∷ []
operands_of ReduceOr = a_row ∷ []
operands_of ReduceXor = a_row ∷ []
operands_of ReduceXnor = a_row ∷ []
operands_of ReduceBool = a_row ∷ []
operands_of LogicNot = a_row ∷ []
operands_of Slice = a_row ∷ []
operands_of Mux = row A (Of Width) ∷ row B (Of Width) ∷ row S One ∷ []
operands_of Pmux = row A (Of Width) ∷ row B (Product Width SWidth) ∷ row S (Of SWidth) ∷ []
operands_of Bmux = row A (Blocks Width SWidth) ∷ row S (Of SWidth) ∷ []
operands_of Demux = row A (Of Width) ∷ row S (Of SWidth) ∷ []
operands_of LutKind = row A (Of Width) ∷ []
operands_of Fa = row A (Of Width) ∷ row B (Of Width) ∷ row C (Of Width) ∷ []
operands_of Alu = a_row ∷ b_row ∷ row Ci One ∷ row Bi One ∷ []
operands_of ScopeInfo = []
operands_of Dff = d_row ∷ []
operands_of Dffe = d_row ∷ row En One ∷ []
operands_of Sdff = d_row ∷ row Srst One ∷ []
operands_of Sdffe = d_row ∷ row En One ∷ row Srst One ∷ []
operands_of Sdffce = d_row ∷ row En One ∷ row Srst One ∷ []
operands_of Adff = d_row ∷ row Arst One ∷ []
operands_of Adffe = d_row ∷ row En One ∷ row Arst One ∷ []
operands_of Mem = row RdAddr (Product RdPorts Abits) ∷ row WrEn (Product WrPorts Width) ∷ row WrAddr (Product WrPorts Abits) ∷ row WrData (Product WrPorts Width) ∷ []
operands_of _ = a_row ∷ b_row ∷ []

-- the outputs of a kind
unfoldable pub outputs_of : Kind → List PortRow
outputs_of Mux = row Y (Of Width) ∷ []
outputs_of Pmux = row Y (Of Width) ∷ []
outputs_of Bmux = row Y (Of Width) ∷ []
outputs_of Demux = row Y (Blocks Width SWidth) ∷ []
outputs_of Concat = row Y (Sum AWidth BWidth) ∷ []
outputs_of LutKind = row Y One ∷ []
outputs_of Fa = row X (Of Width) ∷ row Y (Of Width) ∷ []
outputs_of Alu = row X (Of YWidth) ∷ row Y (Of YWidth) ∷ row Co (Of YWidth) ∷ []
outputs_of ScopeInfo = []
outputs_of Dff = row Q (Of Width) ∷ []
outputs_of Dffe = row Q (Of Width) ∷ []
outputs_of Sdff = row Q (Of Width) ∷ []
outputs_of Sdffe = row Q (Of Width) ∷ []
outputs_of Sdffce = row Q (Of Width) ∷ []
outputs_of Adff = row Q (Of Width) ∷ []
outputs_of Adffe = row Q (Of Width) ∷ []
outputs_of Mem = row RdData (Product RdPorts Width) ∷ []
outputs_of _ = y_row ∷ []

-- the clocks of a kind
unfoldable pub clocks_of : Kind → List PortRow
clocks_of Dff = row Clk One ∷ []
clocks_of Dffe = row Clk One ∷ []
clocks_of Sdff = row Clk One ∷ []
clocks_of Sdffe = row Clk One ∷ []
clocks_of Sdffce = row Clk One ∷ []
clocks_of Adff = row Clk One ∷ []
clocks_of Adffe = row Clk One ∷ []
clocks_of Mem = row WrClk (Of WrPorts) ∷ []
clocks_of _ = []

-- all ports of a kind, in the order in which they are checked: a register's clock comes first, a memory's last
unfoldable pub ports_of : Kind → List PortRow
ports_of Mem = operands_of Mem ++ outputs_of Mem ++ clocks_of Mem
ports_of k = clocks_of k ++ operands_of k ++ outputs_of k

-- ---- limits

-- kinds that work on numbers, all of whose ports have at most 128 bits
abbrev pub is_arithmetic : Kind → Bool
is_arithmetic Add = true
is_arithmetic Sub = true
is_arithmetic Neg = true
is_arithmetic Mul = true
is_arithmetic Div = true
is_arithmetic Mod = true
is_arithmetic DivFloor = true
is_arithmetic ModFloor = true
is_arithmetic Alu = true
is_arithmetic Lt = true
is_arithmetic Le = true
is_arithmetic Ge = true
is_arithmetic Gt = true
is_arithmetic _ = false

abbrev pub number_limit : ℕ
number_limit = 128

abbrev pub plain_limit : ℕ
plain_limit = 4096

abbrev pub joined_limit : ℕ
joined_limit = 65536

abbrev pub shift_limit : CellPort → ℕ
shift_limit B = number_limit
shift_limit _ = plain_limit

abbrev pub shiftx_limit : CellPort → ℕ
shiftx_limit A = joined_limit
shiftx_limit B = number_limit
shiftx_limit _ = plain_limit

abbrev pub joined_at : CellPort → CellPort → ℕ
joined_at A A = joined_limit
joined_at B B = joined_limit
joined_at Y Y = joined_limit
joined_at _ _ = plain_limit

abbrev pub lut_limit : CellPort → ℕ
lut_limit A = 12
lut_limit _ = plain_limit

-- the most bits that a port of a kind may have
unfoldable pub width_limit : Kind → CellPort → ℕ
width_limit Shl p = shift_limit p
width_limit Sshl p = shift_limit p
width_limit Shr p = shift_limit p
width_limit Sshr p = shift_limit p
width_limit Shift p = shift_limit p
width_limit Shiftx p = shiftx_limit p
width_limit Pmux p = joined_at B p
width_limit Bmux p = joined_at A p
width_limit Demux p = joined_at Y p
width_limit LutKind p = lut_limit p
width_limit Mem p = joined_limit
width_limit k p = if is_arithmetic k then number_limit else plain_limit
