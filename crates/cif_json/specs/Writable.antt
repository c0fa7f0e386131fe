-- Which modules can be written: their names and texts are UTF-8, their numbers fit, and their names stand in order.
use Rattle.std.specs.Prelude.{◌<◌, ◌^◌, ℤ, pos, negsuc, List, IsUtf8, ⊤}
use Rattle.std.specs.List.{AllByRecursion}
use Rattle.cif_defs.specs.Order.{IsInOrder}
use Rattle.cif_defs.specs.declared.raw_module.RawBit.{RawBit}
use Rattle.cif_defs.specs.declared.raw_module.RawBit.TheVariants.{Net, Zero, One, X, Z}
use Rattle.cif_defs.specs.declared.raw_module.ParamValue.{ParamValue}
use Rattle.cif_defs.specs.declared.raw_module.ParamValue.TheVariants.{Text, Number}
use Rattle.cif_defs.specs.declared.raw_module.RawParam.{RawParam}
use Rattle.cif_defs.specs.declared.raw_module.Connection.{Connection}
use Rattle.cif_defs.specs.declared.raw_module.RawPort.{RawPort}
use Rattle.cif_defs.specs.declared.raw_module.RawCell.{RawCell}
use Rattle.cif_defs.specs.declared.raw_module.RawName.{RawName}
use Rattle.cif_defs.specs.declared.raw_module.Raw.{Raw}

-- from -2 ^ 63 to 2 ^ 64 - 1
abbrev pub Fits : ℤ → Type 0
Fits (pos n) = n < 2 ^ 64
Fits (negsuc n) = n < 2 ^ 63

-- UTF-8, or a number that fits
abbrev pub IsValueWritable : ParamValue → Type 0
IsValueWritable (Text text) = IsUtf8 text
IsValueWritable (Number z) = Fits z

pub record IsParamWritable (p : RawParam) : Type 0 where
  pub name : IsUtf8 p.name
  pub value : IsValueWritable p.value

abbrev pub AreParamsWritable : List RawParam → Type 0
AreParamsWritable params = AllByRecursion IsParamWritable params

abbrev pub IsConnectionWritable : Connection → Type 0
IsConnectionWritable x = IsUtf8 x.name

abbrev pub IsPortWritable : RawPort → Type 0
IsPortWritable p = IsUtf8 p.name

pub record IsCellWritable (c : RawCell) : Type 0 where
  pub name : IsUtf8 c.name
  pub kind : IsUtf8 c.kind
  pub parameters : AreParamsWritable c.parameters
  pub attributes : AreParamsWritable c.attributes
  pub connections : AllByRecursion IsConnectionWritable c.connections

pub record IsNetWritable (n : RawName) : Type 0 where
  pub name : IsUtf8 n.name
  pub attributes : AreParamsWritable n.attributes

pub record IsWritable (raw : Raw) : Type 0 where
  pub in_order : IsInOrder raw
  pub name : IsUtf8 raw.«module»
  pub attributes : AreParamsWritable raw.attributes
  pub ports : AllByRecursion IsPortWritable raw.ports
  pub cells : AllByRecursion IsCellWritable raw.cells
  pub nets : AllByRecursion IsNetWritable raw.names

-- ---- net numbers below 2 ^ 32

abbrev pub IsBitSmall : RawBit → Type 0
IsBitSmall (Net n) = n < 2 ^ 32
IsBitSmall Zero = ⊤
IsBitSmall One = ⊤
IsBitSmall X = ⊤
IsBitSmall Z = ⊤

abbrev pub AreBitsSmall : List RawBit → Type 0
AreBitsSmall bits = AllByRecursion IsBitSmall bits

abbrev pub AreConnectionsSmall : RawCell → Type 0
AreConnectionsSmall c = AllByRecursion (λ (x : Connection). AreBitsSmall x.bits) c.connections

pub record HasSmallNets (raw : Raw) : Type 0 where
  pub ports : AllByRecursion (λ (p : RawPort). AreBitsSmall p.bits) raw.ports
  pub cells : AllByRecursion AreConnectionsSmall raw.cells
  pub nets : AllByRecursion (λ (n : RawName). AreBitsSmall n.bits) raw.names
