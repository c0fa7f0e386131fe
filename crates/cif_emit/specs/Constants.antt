-- Bits that cost no cell: constants, and bits picked from others.
use Rattle.std.specs.Prelude.{ℕ, List, map, get_or, if◌then◌else◌}
use Rattle.cif_defs.specs.Words.{Word}
use Rattle.cif_defs.specs.declared.raw_module.RawBit.{RawBit}
use Rattle.cif_defs.specs.declared.raw_module.RawBit.TheVariants.{Zero, One}

abbrev pub constant_bits : Word → List RawBit
constant_bits w = map (λ b. if b then One else Zero) w

-- the bits at these places; past the end there are zeros
abbrev pub picked_bits : List ℕ → List RawBit → List RawBit
picked_bits places bits = map (λ i. get_or bits i Zero) places
