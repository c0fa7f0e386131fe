-- Bits that are read although they have no value.
use Rattle.std.specs.Prelude.{ℕ, ◌+◌, List, [], ◌∷◌, Option, Some, None, if◌then◌else◌}
use Rattle.cif_defs.specs.declared.raw_module.RawBit.{RawBit}
use Rattle.cif_defs.specs.declared.raw_module.RawBit.TheVariants.{Net, Zero, One, X, Z}
use Rattle.cif_defs.specs.declared.raw_module.Raw.{Raw}
use Rattle.cif_nets.specs.Drives.{driven_by}
use Rattle.cif_nets.specs.Nets.{is_driven}
use Rattle.cif_nets.specs.declared.reads.BadBit.{BadBit}
use Rattle.cif_nets.specs.declared.reads.BadBit.TheVariants.{Undefined, NoDriver}
use Rattle.cif_checks.specs.declared.fault.Spot.{Spot}
use Rattle.cif_checks.specs.declared.fault.BuildFault.{BuildFault}
use Rattle.cif_checks.specs.declared.fault.BuildFault.TheVariants.{XOperand, Undriven}

-- a bit at a place: x or z, or a number without driver
abbrev pub bad_bit : Raw → ℕ → RawBit → Option BadBit
bad_bit raw i (Net x) = if is_driven (driven_by raw x) then None else Some (NoDriver x)
bad_bit raw i Zero = None
bad_bit raw i One = None
bad_bit raw i X = Some (Undefined i)
bad_bit raw i Z = Some (Undefined i)

abbrev pub or_next : Option BadBit → Option BadBit → Option BadBit
or_next None next = next
or_next (Some bad) next = Some bad

-- the first of some bits, from place i on
abbrev pub first_bad : Raw → ℕ → List RawBit → Option BadBit
first_bad raw i [] = None
first_bad raw i (b ∷ bs) = or_next (bad_bit raw i b) (first_bad raw (i + 1) bs)

abbrev pub bad_fault : Spot → BadBit → BuildFault
bad_fault spot (Undefined i) = XOperand spot i
bad_fault spot (NoDriver x) = Undriven x
